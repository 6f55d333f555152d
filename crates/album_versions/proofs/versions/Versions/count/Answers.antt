use Rattle.std.proofs.Common.{◌≡◌, ℕ, ◌+◌, ◌-◌, ◌^◌, ◌<◌, List, [], min, length, arith}
use Rattle.std.specs.List.{sum_by}
use Rattle.std.specs.Map.Iter.{deref}
use Rattle.std.proofs.lemmas.Map.Iter.{rest_all}
use Rattle.album_versions.specs.Rows.{RowState}
use Rattle.album_versions.specs.Versions.{version_count}
use Rattle.album_versions.proofs.versions.Versions.count.Goals as goal

-- nothing is left to count
counted : (n : ℕ) (left : List RowState) (all : ℕ) → n < 2 ^ 64 → left ≡ []
    → min (n + sum_by (λ (row : RowState). length row.versions) left) (2 ^ 64 - 1) ≡ min all (2 ^ 64 - 1) → n ≡ min all (2 ^ 64 - 1)
counted n left all fits none is =
    let over : min (n + 0) (2 ^ 64 - 1) ≡ min all (2 ^ 64 - 1) = rw none at is in omega arith

pub returns : goal.returns
unfolding version_count
returns c =
    counted c.loop-row.count c.loop-row.row-iterator (version_count c.args.self.now) c.loop-row.invariant.0
    (rest_all deref _ _ c.next.result c.in-None.is c.next.ensures.steps) c.loop-row.invariant.1
