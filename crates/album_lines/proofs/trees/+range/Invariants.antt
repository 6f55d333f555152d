use Rattle.std.proofs.Common.{◌≡◌, drop}
use Rattle.json.specs.Value.{items_view, members_view}
use Rattle.album_lines.specs.Trees.{are_in_range, hold_in_range}
use Rattle.album_lines.proofs.trees.+range.Given as goal

abbrev pub invariant-are_in_range-loop-item : goal.invariant-are_in_range-loop-item
invariant-are_in_range-loop-item l = are_in_range (items_view (drop l.item-index l.items)) ≡ are_in_range (items_view l.items)

abbrev pub invariant-hold_in_range-loop-member : goal.invariant-hold_in_range-loop-member
invariant-hold_in_range-loop-member l =
    hold_in_range (members_view (drop l.member-index l.members)) ≡ hold_in_range (members_view l.members)
