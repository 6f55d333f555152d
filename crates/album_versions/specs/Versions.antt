-- The versions of items that a partition keeps, and of each item the latest committed stamp and the floor.
use Rattle.std.specs.Prelude.{◌≡◌, ℕ, List, ◌==◌, ◌&&◌, nat_le, nat_lt, max, length, Option, Some, None, if◌then◌else◌}
use Rattle.std.specs.List.{sum_by}
use Rattle.std.specs.Option.{unwrap_or}
use Rattle.std.specs.Ordering.{nat_cmp}
use Rattle.std.specs.Map.{lookup, values_of}
use Rattle.std.specs.BTreeMap.{is_at}
use Rattle.album_items.specs.declared.values.Value.{Value}
use Rattle.album_versions.specs.Rows.{RowState, empty_row, version_in}

-- What is kept: items, rising, and of each its row. Read it by `version_at`, `latest_of`, `floor_of`
-- and `version_count` alone.
pub record VersionsState : Type 0 where
  pub rows : List (ℕ × RowState)

-- what is kept of the item
abbrev pub row_of : VersionsState → ℕ → RowState
row_of kept item = unwrap_or (lookup (is_at (nat_cmp item)) kept.rows) empty_row

-- the value of the item's version at the stamp, if there is one
unfoldable pub version_at : VersionsState → ℕ → ℕ → Option Value
version_at kept item stamp = let row = row_of kept item in version_in row.versions stamp

-- the item's latest committed stamp, or 0 where nothing was committed
unfoldable pub latest_of : VersionsState → ℕ → ℕ
latest_of kept item = let row = row_of kept item in row.latest

-- the item's floor, below which none of its versions is kept: 0 until it is trimmed
unfoldable pub floor_of : VersionsState → ℕ → ℕ
floor_of kept item = let row = row_of kept item in row.floor

-- how many versions there are, of all items
unfoldable pub version_count : VersionsState → ℕ
version_count kept = sum_by (λ row. length row.versions) (values_of kept.rows)

-- nothing changed: each item has the versions, the latest stamp and the floor that it had
pub record SameVersions (old new : VersionsState) : Type 0 where
  pub versions : (i t : ℕ) → version_at new i t ≡ version_at old i t
  pub latest : (i : ℕ) → latest_of new i ≡ latest_of old i
  pub floor : (i : ℕ) → floor_of new i ≡ floor_of old i

-- the item has one version more, with this value at this stamp, unless the stamp is below its floor
pub record Adds (old new : VersionsState) (item stamp : ℕ) (value : Value) : Type 0 where
  pub versions : (i t : ℕ) → version_at new i t
      ≡ (if (i == item && t == stamp) && nat_le (floor_of old i) t then Some value else version_at old i t)
  pub latest : (i : ℕ) → latest_of new i ≡ latest_of old i
  pub floor : (i : ℕ) → floor_of new i ≡ floor_of old i

-- the item has no version at this stamp; it keeps its other versions, and every other item all of its own
pub record DropsOne (old new : VersionsState) (item stamp : ℕ) : Type 0 where
  pub versions : (i t : ℕ) → version_at new i t
      ≡ (if i == item && t == stamp then None else version_at old i t)
  pub latest : (i : ℕ) → latest_of new i ≡ latest_of old i
  pub floor : (i : ℕ) → floor_of new i ≡ floor_of old i

-- no item has a version at this stamp, and each keeps its other versions
pub record Drops (old new : VersionsState) (stamp : ℕ) : Type 0 where
  pub versions : (i t : ℕ) → version_at new i t ≡ (if t == stamp then None else version_at old i t)
  pub latest : (i : ℕ) → latest_of new i ≡ latest_of old i
  pub floor : (i : ℕ) → floor_of new i ≡ floor_of old i

-- the item's latest stamp is the greater one of what it was and this stamp
pub record Commits (old new : VersionsState) (item stamp : ℕ) : Type 0 where
  pub versions : (i t : ℕ) → version_at new i t ≡ version_at old i t
  pub latest : (i : ℕ)
      → latest_of new i ≡ (if i == item then max (latest_of old i) stamp else latest_of old i)
  pub floor : (i : ℕ) → floor_of new i ≡ floor_of old i

-- the item's floor is its latest stamp, and its versions below that are gone
pub record Trims (old new : VersionsState) (item : ℕ) : Type 0 where
  pub versions : (i t : ℕ) → version_at new i t
      ≡ (if i == item && nat_lt t (latest_of old item) then None else version_at old i t)
  pub latest : (i : ℕ) → latest_of new i ≡ latest_of old i
  pub floor : (i : ℕ) → floor_of new i ≡ (if i == item then latest_of old i else floor_of old i)
