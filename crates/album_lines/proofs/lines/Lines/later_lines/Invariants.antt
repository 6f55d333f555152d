use Rattle.std.proofs.Common.{◌≡◌, length, map}
use Rattle.album_lines.specs.Lines.{cut, said, continued}
use Rattle.album_lines.proofs.lines.Lines.later_lines.Given as goal

abbrev pub invariant-loop-line : goal.invariant-loop-line
invariant-loop-line l =
    continued (map said l.lines.items) (cut l.next l.rest) ≡ continued (map said l.initial.lines.items) (cut l.initial.next l.initial.rest)

abbrev pub decreases-loop-line : goal.decreases-loop-line
decreases-loop-line l = length l.rest
