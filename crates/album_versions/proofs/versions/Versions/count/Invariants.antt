use Rattle.std.proofs.Common.{◌≡◌, ◌+◌, ◌-◌, ◌^◌, ◌<◌, min, length}
use Rattle.std.specs.List.{sum_by}
use Rattle.std.specs.Map.{values_of}
use Rattle.album_versions.specs.Rows.{RowState}
use Rattle.album_versions.proofs.versions.Versions.count.Given as goal

-- what was counted, and what is left to count
abbrev pub invariant-loop-row : goal.invariant-loop-row
invariant-loop-row l =
    (l.count < 2 ^ 64)
    × (min (l.count + sum_by (λ (row : RowState). length row.versions) l.row-iterator) (2 ^ 64 - 1)
    ≡ min (sum_by (λ (row : RowState). length row.versions) (values_of l.self.rows)) (2 ^ 64 - 1))
