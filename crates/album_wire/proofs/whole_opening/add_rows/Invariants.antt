use Rattle.std.proofs.Common.{◌≡◌, ◌++◌, take}
use Rattle.album_wire.specs.WholeOpening.{rows_text}
use Rattle.album_wire.proofs.whole_opening.add_rows.Given as goal

abbrev pub invariant-loop-row : goal.invariant-loop-row
invariant-loop-row l = l.text.items ≡ l.initial.text.items ++ rows_text l.stamps (take l.row-index l.rows)
