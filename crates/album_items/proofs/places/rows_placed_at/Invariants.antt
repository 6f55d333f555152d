use Rattle.std.proofs.Common.{◌≡◌, ◌++◌, drop}
use Rattle.album_items.specs.Places.{rows_placed_at}
use Rattle.album_items.proofs.places.rows_placed_at.Given as goal

abbrev pub invariant-loop-row : goal.invariant-loop-row
invariant-loop-row l =
    l.placed.items ++ rows_placed_at l.number l.parts (drop l.row-index l.rows)
    ≡ rows_placed_at l.number l.parts l.rows
