use Rattle.std.proofs.Common.{◌≡◌, ℕ, map, vec_len}
use Rattle.album_eval.specs.Groups.{listed_in}
use Rattle.album_lines.specs.JudgeLine.{listing}
use Rattle.album_judge.specs.Judge.{listed_by}
use Rattle.album_judge.proofs.Judging.{listed_or}
use Rattle.album_judge.proofs.engine.group_map.Given as goal

abbrev pub invariant-loop-group : goal.invariant-loop-group
invariant-loop-group l =
    (number : ℕ) → listed_or (listed_in l.by_number) (map listing l.groups.items) number ≡ listed_by (map listing l.initial.groups.items) number

abbrev pub decreases-loop-group : goal.decreases-loop-group
decreases-loop-group l = vec_len l.groups
