use Rattle.std.proofs.Common.{◌≡◌, drop, map}
use Rattle.album_lines.specs.Values.{each_of}
use Rattle.album_lines.specs.JudgeShape.{spelled_group}
use Rattle.album_lines.specs.JudgeLine.{listing, listing_of}
use Rattle.album_lines.proofs.Lists.{with_front}
use Rattle.album_lines.proofs.judge_line.each_group.Given as goal

abbrev pub invariant-loop-shape : goal.invariant-loop-shape
invariant-loop-shape l =
    with_front (map listing l.groups.items) (each_of listing_of (map spelled_group (drop l.shape-index l.shapes))) ≡ each_of listing_of (map spelled_group l.shapes)
