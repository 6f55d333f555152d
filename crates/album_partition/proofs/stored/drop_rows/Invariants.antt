use Rattle.std.proofs.Common.{take}
use Rattle.album_partition.proofs.StoredLemmas.{HasDropped}
use Rattle.album_partition.proofs.stored.drop_rows.Given as goal

abbrev pub invariant-loop-row : goal.invariant-loop-row
invariant-loop-row l = HasDropped l.initial.versions l.versions l.stamp (take l.row-index l.rows)
