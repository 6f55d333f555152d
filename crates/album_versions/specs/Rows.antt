-- What is kept of one item: its versions, its latest committed stamp and its floor.
use Rattle.std.specs.Prelude.{ℕ, ◌<◌, ◌≤◌, ◌≡◌, List, [], ◌∷◌, length, ◌==◌, Option, Some, None, if◌then◌else◌}
use Rattle.std.specs.List.{All, AllPairs, HoldsAt}
use Rattle.std.specs.List.Sorted.{IsPartitionPoint}
use Rattle.album_items.specs.declared.values.Value.{Value}
use Rattle.album_versions.specs.declared.rows.Version.{Version}

-- What is kept of an item.
pub record RowState : Type 0 where
  pub latest : ℕ
  pub floor : ℕ
  pub versions : List Version

-- the row of an item that was never written
abbrev pub empty_row : RowState
empty_row = record { latest = 0; floor = 0; versions = [] }

-- the value of the first version at the stamp, if there is one
abbrev pub version_in : List Version → ℕ → Option Value
version_in [] stamp = None
version_in (version ∷ versions) stamp =
    (if version.stamp == stamp then Some version.value else version_in versions stamp)

-- the stamps rise, so no stamp comes twice
abbrev pub IsRising : List Version → Type 0
IsRising versions = AllPairs (λ version later. version.stamp < later.stamp) versions

-- the version at the index has the stamp
pub record IsAt (versions : List Version) (stamp index : ℕ) : Type 0 where
  pub in_range : index < length versions
  pub has_stamp : HoldsAt (λ version. version.stamp ≡ stamp) versions index

-- a version at the stamp would go to the index: lesser stamps before it, and greater ones from it on
pub record IsGapFor (versions : List Version) (stamp index : ℕ) : Type 0 where
  pub in_range : index ≤ length versions
  pub parted : IsPartitionPoint (λ version. version.stamp < stamp) (λ version. stamp < version.stamp) versions index

-- the versions rise by stamp, none is below the floor, and the floor is not above the latest stamp
pub record IsRow (row : RowState) : Type 0 where
  pub rising : IsRising row.versions
  pub kept : All (λ version. row.floor ≤ version.stamp) row.versions
  pub low : row.floor ≤ row.latest
