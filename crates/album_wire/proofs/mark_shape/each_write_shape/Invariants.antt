use Rattle.std.proofs.Common.{◌≡◌, drop, map}
use Rattle.album_lines.specs.Fields.{each}
use Rattle.album_lines.specs.Trees.{items_data}
use Rattle.album_lines.proofs.Lists.{with_front}
use Rattle.album_wire.specs.MarkShape.{spelled_write, write_shape_of}
use Rattle.album_wire.proofs.mark_shape.each_write_shape.Given as goal

abbrev pub invariant-loop-value : goal.invariant-loop-value
invariant-loop-value l =
    with_front (map spelled_write l.shapes.items) (each write_shape_of (items_data (drop l.value-index l.values)))
    ≡ each write_shape_of (items_data l.values)
