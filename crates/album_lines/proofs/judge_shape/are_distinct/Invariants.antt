use Rattle.std.proofs.Common.{◌≡◌, drop, map}
use Rattle.std.specs.Ordering.{nat_cmp}
use Rattle.std.specs.BTreeSet as set
use Rattle.album_stamps.specs.Distinct.{are_distinct}
use Rattle.album_lines.specs.JudgeShape.{numbers, spelled_group}
use Rattle.album_lines.proofs.Distinct.{are_new}
use Rattle.album_lines.proofs.judge_shape.are_distinct.Given as goal

abbrev pub invariant-loop-group : goal.invariant-loop-group
invariant-loop-group l =
    are_new (set.contains nat_cmp l.seen) (numbers (map spelled_group (drop l.group-index l.groups))) ≡ are_distinct (numbers (map spelled_group l.groups))
