use Rattle.std.proofs.Common.{◌≡◌, ℕ, drop, length}
use Rattle.std.specs.List.{list_all, list_any}
use Rattle.album_items.specs.Openings.{has_fit_lists}
use Rattle.album_items.proofs.Fitting.{is_told, names_plain, is_fit}
use Rattle.album_items.proofs.pairs.has_fit_lists.Given as goal

abbrev pub invariant-loop-row : goal.invariant-loop-row
invariant-loop-row l =
    (length l.plain ≡ 65536)
    × ((n : ℕ) → is_told l.plain (drop l.row-index l.rows) n ≡ list_any (names_plain n) l.rows)

abbrev pub invariant-loop-row-2 : goal.invariant-loop-row-2
invariant-loop-row-2 l =
    (length l.plain ≡ 65536)
    × (list_all (is_fit l.plain) (drop l.row-index l.rows) ≡ has_fit_lists l.rows)
