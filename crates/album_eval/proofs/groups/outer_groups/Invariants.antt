use Rattle.std.proofs.Common.{length}
use Rattle.album_eval.specs.Groups.{outer_in}
use Rattle.album_eval.proofs.Turning.{Turned, Grown}
use Rattle.album_eval.proofs.groups.outer_groups.Given as goal

abbrev pub invariant-loop-number : goal.invariant-loop-number
invariant-loop-number l = Turned l.groups (outer_in l.outer) (length l.yielded)

abbrev pub invariant-loop-member : goal.invariant-loop-member
invariant-loop-member l = Grown (outer_in l.initial.outer) (outer_in l.outer) l.number l.member-items l.member-index
