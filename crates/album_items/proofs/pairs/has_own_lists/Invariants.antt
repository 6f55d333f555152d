use Rattle.std.proofs.Common.{◌≡◌, drop, length}
use Rattle.album_items.specs.Openings.{same_list, has_own_lists}
use Rattle.album_items.proofs.Marked.{are_new, list_key}
use Rattle.album_items.proofs.pairs.has_own_lists.Given as goal

abbrev pub invariant-loop-row : goal.invariant-loop-row
invariant-loop-row l =
    (length l.named ≡ 65536)
    × (are_new list_key same_list l.named (drop l.row-index l.rows) ≡ has_own_lists l.rows)
