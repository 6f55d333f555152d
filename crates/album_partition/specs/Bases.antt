-- Writes that are each made on the version right below them: what a checked Prepare asks for, and what such Prepares
-- leave of a list of marks.
use Rattle.std.specs.Prelude.{◌≡◌, ◌≢◌, ℕ, ◌≤◌, ◌<◌, Bool, true, ◌==◌, ◌&&◌, not, nat_lt, List, [], ◌∷◌, ◌++◌, length}
use Rattle.std.specs.List.{list_any, list_all, zip}
use Rattle.album_items.specs.Openings.{Row}
use Rattle.album_terminate.specs.declared.deciding.StampState.TheVariants as state
use Rattle.album_partition.specs.declared.marks.Mark.{Mark}
use Rattle.album_partition.specs.declared.marks.Mark.TheVariants.{Prepared, Committed, Discarded, Trimmed}
use Rattle.album_partition.specs.Marks.{state_of, has_version, latest, pending_stamps, may_follow}

-- a stamp that is pending has a version of the item
abbrev pub has_pending : List Mark → ℕ → Bool
has_pending marks item = list_any (has_version marks item) (pending_stamps marks)

-- a version of the item may be made at the stamp: none is pending, and the latest is below the stamp
abbrev pub may_extend : List Mark → ℕ → ℕ → Bool
may_extend marks stamp item = not (has_pending marks item) && nat_lt (latest marks item) stamp

-- the item's version at the base is the one on which a version at the stamp may be made
abbrev pub is_base : List Mark → ℕ → ℕ → ℕ → Bool
is_base marks stamp item base = (latest marks item == base) && may_extend marks stamp item

-- each write may be made on the base that is given for it, in the order of the writes
abbrev pub are_bases : List Mark → ℕ → List Row → List ℕ → Bool
are_bases marks stamp writes bases =
    (length writes == length bases) && list_all (λ pair. is_base marks stamp pair.0.0 pair.1) (zip writes bases)

-- ---- histories of such writes

-- each version that the mark prepares may be made after these marks
abbrev pub extends : List Mark → Mark → Bool
extends marks (Prepared stamp writes items) = list_all (λ row. may_extend marks stamp row.0) writes
extends marks (Committed stamp) = true
extends marks (Discarded stamp) = true
extends marks (Trimmed item) = true

abbrev pub chained_after : List Mark → List Mark → Bool
chained_after before [] = true
chained_after before (mark ∷ later) = extends before mark && chained_after (before ++ mark ∷ []) later

-- each version was made where none of its item was pending, above the latest
abbrev pub is_chained : List Mark → Bool
is_chained marks = chained_after [] marks

-- the same of a checked store, and nothing of another
abbrev pub IsChainedIf : Bool → List Mark → Type 0
IsChainedIf checked marks = checked ≡ true → is_chained marks ≡ true

-- the mark may be appended: it may follow these, and in a checked store each version that it prepares may be made after
-- them
pub record MayAppend (checked : Bool) (marks : List Mark) (mark : Mark) : Type 0 where
  pub follows : may_follow marks mark ≡ true
  pub chains : checked ≡ true → extends marks mark ≡ true

-- ---- what follows: no update is lost

-- The stamp's version of the item was made on the version at the base: that is committed, or the first one, and below.
-- No committed version is between the two.
pub record IsMadeOn (marks : List Mark) (item stamp base : ℕ) : Type 0 where
  pub below : base < stamp
  pub committed : base ≢ 0 → state_of marks base ≡ state.Committed
  pub there : base ≢ 0 → has_version marks item base ≡ true
  pub next : (t : ℕ) → state_of marks t ≡ state.Committed → has_version marks item t ≡ true → t < stamp → t ≤ base
