use Rattle.std.proofs.Common.{◌≡◌, drop}
use Rattle.album_items.specs.Openings.{same_item, has_single_rows}
use Rattle.album_items.proofs.Marked.{are_new, item_key}
use Rattle.album_items.proofs.pairs.has_single_rows.Given as goal

abbrev pub invariant-loop-row : goal.invariant-loop-row
invariant-loop-row l = are_new item_key same_item l.met (drop l.row-index l.rows) ≡ has_single_rows l.rows
