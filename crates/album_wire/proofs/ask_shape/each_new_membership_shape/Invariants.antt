use Rattle.std.proofs.Common.{◌≡◌, drop, map}
use Rattle.album_wire.specs.AskShape.{spelled_new_membership, new_membership_shape_of}
use Rattle.album_lines.specs.Fields.{each}
use Rattle.album_lines.specs.Trees.{items_data}
use Rattle.album_lines.proofs.Lists.{with_front}
use Rattle.album_wire.proofs.ask_shape.each_new_membership_shape.Given as goal

abbrev pub invariant-loop-value : goal.invariant-loop-value
invariant-loop-value l =
    with_front (map spelled_new_membership l.shapes.items)
    (each new_membership_shape_of (items_data (drop l.value-index l.values)))
    ≡ each new_membership_shape_of (items_data l.values)
