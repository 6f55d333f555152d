use Rattle.std.proofs.Common.{◌≡◌, take}
use Rattle.album_partition.proofs.first_values.values_of.Given as goal

abbrev pub invariant-loop-row : goal.invariant-loop-row
invariant-loop-row l = l.values.entries ≡ take l.row-index l.rows
