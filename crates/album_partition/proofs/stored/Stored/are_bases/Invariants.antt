use Rattle.std.proofs.Common.{◌≡◌, true, take}
use Rattle.std.specs.List.{list_all, zip}
use Rattle.album_partition.specs.Bases.{is_base}
use Rattle.album_partition.proofs.stored.Stored.are_bases.Given as goal

-- the rows so far are made on their bases
abbrev pub invariant-loop-index : goal.invariant-loop-index
invariant-loop-index l =
    list_all (λ pair. is_base l.self l.stamp pair.0.0 pair.1) (take l.index (zip l.rows l.bases)) ≡ true
