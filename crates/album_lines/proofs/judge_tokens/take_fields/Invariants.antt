use Rattle.std.proofs.Common.{length}
use Rattle.album_lines.proofs.TakenFields.{TakesSoFar}
use Rattle.album_lines.proofs.judge_tokens.take_fields.Given as goal

abbrev pub invariant-loop-fields : goal.invariant-loop-fields
invariant-loop-fields l = TakesSoFar l.initial.tokens l.tokens l.fields

abbrev pub decreases-loop-fields : goal.decreases-loop-fields
decreases-loop-fields l = length l.tokens
