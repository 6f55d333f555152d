-- How the versions that a partition keeps are those of its marks.
use Rattle.std.specs.Prelude.{◌≡◌, ℕ, ◌==◌, ◌<◌, ◌-◌, ◌^◌, nat_le, true, min, max, is_some, List, length, Some, None, if◌then◌else◌}
use Rattle.album_stamps.specs.declared.limits.TheConstants.{MAX_MARKS}
use Rattle.album_items.specs.Openings.{Row, has_single_rows}
use Rattle.album_versions.specs.Versions.{VersionsState, version_at, latest_of, floor_of, version_count}
use Rattle.album_partition.specs.declared.marks.Mark.{Mark}
use Rattle.album_partition.specs.Marks.{is_legal, may_follow, mark_writes, value_in, latest, floor, kept_version}

-- the marks follow each other as they may, and each item has exactly the versions, the latest stamp and the floor that
-- they make
pub record IsStored (marks : List Mark) (kept : VersionsState) : Type 0 where
  pub legal : is_legal marks ≡ true
  pub versions : (i t : ℕ) → version_at kept i t ≡ kept_version marks i t
  pub latest : (i : ℕ) → latest_of kept i ≡ latest marks i
  pub floor : (i : ℕ) → floor_of kept i ≡ floor marks i

-- so many versions are kept: those of a state that has exactly the versions that the marks make
pub record HasVersions (marks : List Mark) (count : ℕ) : Type 0 where
  pub kept : VersionsState
  pub stored : IsStored marks kept
  pub counted : count ≡ min (version_count kept) (2 ^ 64 - 1)

-- the mark may follow those that are made, and prepares no item twice
pub record CanFollow (marks : List Mark) (mark : Mark) : Type 0 where
  pub follows : may_follow marks mark ≡ true
  pub room : length marks < MAX_MARKS
  pub once : has_single_rows (mark_writes (Some mark)) ≡ true

-- at one stamp each item has the version that the rows give it, unless that is below its floor, and nothing else
-- changed
pub record HasAdded (old new : VersionsState) (stamp : ℕ) (rows : List Row) : Type 0 where
  pub versions : (i t : ℕ) → version_at new i t
      ≡ (if t == stamp then (if nat_le (floor_of old i) t then value_in rows i else None) else version_at old i t)
  pub latest : (i : ℕ) → latest_of new i ≡ latest_of old i
  pub floor : (i : ℕ) → floor_of new i ≡ floor_of old i

-- the latest stamp of each item of the rows is raised to the stamp, and nothing else changed
pub record HasCommitted (old new : VersionsState) (stamp : ℕ) (rows : List Row) : Type 0 where
  pub versions : (i t : ℕ) → version_at new i t ≡ version_at old i t
  pub latest : (i : ℕ) → latest_of new i
      ≡ (if is_some (value_in rows i) then max (latest_of old i) stamp else latest_of old i)
  pub floor : (i : ℕ) → floor_of new i ≡ floor_of old i
