use Rattle.std.proofs.Common.{◌≡◌, drop}
use Rattle.album_lines.specs.Fields.{each}
use Rattle.album_lines.specs.Trees.{items_data}
use Rattle.album_lines.proofs.Lists.{with_front}
use Rattle.album_wire.specs.ItemShapes.{item_named}
use Rattle.album_wire.proofs.mark_shape.each_item.Given as goal

abbrev pub invariant-loop-value : goal.invariant-loop-value
invariant-loop-value l =
    with_front l.items.items (each item_named (items_data (drop l.value-index l.values)))
    ≡ each item_named (items_data l.values)
