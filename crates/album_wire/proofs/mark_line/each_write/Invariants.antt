use Rattle.std.proofs.Common.{◌≡◌, map}
use Rattle.std.specs.Vec.Iter.{into_iter_items}
use Rattle.album_lines.proofs.Lists.{with_front}
use Rattle.album_lines.specs.Values.{each_of}
use Rattle.album_wire.specs.MarkShape.{spelled_write}
use Rattle.album_wire.specs.MarkLine.{write_read}
use Rattle.album_wire.proofs.mark_line.each_write.Given as goal

abbrev pub invariant-loop-shape : goal.invariant-loop-shape
invariant-loop-shape l =
    with_front l.writes.items (each_of write_read (map spelled_write (into_iter_items l.shape-iterator)))
    ≡ each_of write_read (map spelled_write l.fn.shapes.items)
