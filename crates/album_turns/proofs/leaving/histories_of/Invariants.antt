use Rattle.std.proofs.Common.{map}
use Rattle.album_turns.proofs.LeftLemmas.{HasAsked}
use Rattle.album_turns.proofs.leaving.histories_of.Given as goal

abbrev pub invariant-loop-part : goal.invariant-loop-part
invariant-loop-part g l = HasAsked l.initial.session l.session l.part (map (λ marks. marks.items) l.histories.items)
