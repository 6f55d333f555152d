use Rattle.std.proofs.Common.{◌≡◌, drop}
use Rattle.album_lines.specs.Fields.{each}
use Rattle.album_wire.specs.ItemShapes.{child_of}
use Rattle.album_lines.specs.Trees.{items_data}
use Rattle.album_lines.proofs.Lists.{with_front}
use Rattle.album_wire.proofs.item_shapes.each_child.Given as goal

abbrev pub invariant-loop-value : goal.invariant-loop-value
invariant-loop-value l =
    with_front l.children.items (each child_of (items_data (drop l.value-index l.values)))
    ≡ each child_of (items_data l.values)
