-- What a list of marks has: of a stamp, of the versions of an item, and how full the list is.
use Rattle.std.specs.Prelude.{◌≡◌, ◌↔◌, Contains, ℕ, ◌+◌, Bool, true, false, ◌==◌, ◌&&◌, ◌||◌, nat_lt, nat_le, List, [], ◌∷◌, ◌++◌, length, filter, is_some, Option, Some, None, if◌then◌else◌}
use Rattle.std.specs.List.{list_any, filter_map, find}
use Rattle.std.specs.List.Sorted.{IsStrictlySortedBy}
use Rattle.std.specs.Map.{lookup}
use Rattle.std.specs.Option.{unwrap_or}
use Rattle.std.specs.Ordering.{nat_cmp}
use Rattle.album_items.specs.Openings.{Row}
use Rattle.album_items.specs.declared.values.Value.{Value}
use Rattle.album_items.specs.declared.values.Value.TheVariants.{Missing}
use Rattle.album_versions.specs.Best.{best_of}
use Rattle.album_terminate.specs.declared.deciding.StampState.{StampState}
use Rattle.album_terminate.specs.declared.deciding.StampState.TheVariants as state
use Rattle.album_partition.specs.declared.marks.Mark.{Mark}
use Rattle.album_partition.specs.declared.marks.Mark.TheVariants.{Prepared, Committed, Discarded, Trimmed}

-- ---- one mark

-- the stamp that it is of: a trim is of none
abbrev pub mark_stamp : Mark → Option ℕ
mark_stamp (Prepared stamp writes items) = Some stamp
mark_stamp (Committed stamp) = Some stamp
mark_stamp (Discarded stamp) = Some stamp
mark_stamp (Trimmed item) = None

-- is it of the stamp?
abbrev pub is_mark_of : ℕ → Mark → Bool
is_mark_of stamp (Prepared t writes items) = t == stamp
is_mark_of stamp (Committed t) = t == stamp
is_mark_of stamp (Discarded t) = t == stamp
is_mark_of stamp (Trimmed item) = false

-- does it prepare, commit or discard the stamp?
abbrev pub prepares : ℕ → Mark → Bool
prepares stamp (Prepared t writes items) = t == stamp
prepares stamp (Committed t) = false
prepares stamp (Discarded t) = false
prepares stamp (Trimmed item) = false

abbrev pub commits : ℕ → Mark → Bool
commits stamp (Prepared t writes items) = false
commits stamp (Committed t) = t == stamp
commits stamp (Discarded t) = false
commits stamp (Trimmed item) = false

abbrev pub discards : ℕ → Mark → Bool
discards stamp (Prepared t writes items) = false
discards stamp (Committed t) = false
discards stamp (Discarded t) = t == stamp
discards stamp (Trimmed item) = false

-- does it decide the stamp?
abbrev pub decides : ℕ → Mark → Bool
decides stamp mark = commits stamp mark || discards stamp mark

-- the stamp that the mark decides, if there is a mark that decides one
abbrev pub decided : Option Mark → Option ℕ
decided None = None
decided (Some (Prepared stamp writes items)) = None
decided (Some (Committed stamp)) = Some stamp
decided (Some (Discarded stamp)) = Some stamp
decided (Some (Trimmed item)) = None

-- does it trim the item?
abbrev pub trims : ℕ → Mark → Bool
trims item (Prepared stamp writes items) = false
trims item (Committed stamp) = false
trims item (Discarded stamp) = false
trims item (Trimmed other) = other == item

-- ---- a stamp

-- its state, by whether it is committed, discarded and prepared
abbrev pub state_by : Bool → Bool → Bool → StampState
state_by true discarded prepared = state.Committed
state_by false true prepared = state.Discarded
state_by false false true = state.Pending
state_by false false false = state.Unknown

-- its state
abbrev pub state_of : List Mark → ℕ → StampState
state_of marks stamp =
    state_by (list_any (commits stamp) marks) (list_any (discards stamp) marks) (list_any (prepares stamp) marks)

abbrev pub is_unknown : StampState → Bool
is_unknown state.Unknown = true
is_unknown state.Pending = false
is_unknown state.Committed = false
is_unknown state.Discarded = false

abbrev pub is_pending : StampState → Bool
is_pending state.Unknown = false
is_pending state.Pending = true
is_pending state.Committed = false
is_pending state.Discarded = false

-- what a mark prepared, and the items of its transaction
abbrev pub mark_writes : Option Mark → List Row
mark_writes None = []
mark_writes (Some (Prepared stamp writes items)) = writes
mark_writes (Some (Committed stamp)) = []
mark_writes (Some (Discarded stamp)) = []
mark_writes (Some (Trimmed item)) = []

abbrev pub mark_items : Option Mark → List ℕ
mark_items None = []
mark_items (Some (Prepared stamp writes items)) = items
mark_items (Some (Committed stamp)) = []
mark_items (Some (Discarded stamp)) = []
mark_items (Some (Trimmed item)) = []

-- the writes that are prepared at a stamp, and the items of its transaction
abbrev pub writes_at : List Mark → ℕ → List Row
writes_at marks stamp = mark_writes (find (prepares stamp) marks)

abbrev pub items_at : List Mark → ℕ → List ℕ
items_at marks stamp = mark_items (find (prepares stamp) marks)

-- One of its partitions will never prepare it: that one's marks discard it, and none before had prepared it. (Of a
-- stamp that was pending when it was discarded, this is not so, though it is discarded too.)
pub record IsPromisedAgainst (marks : List Mark) (stamp : ℕ) : Type 0 where
  pub before : List Mark
  pub later : List Mark
  pub discarded : marks ≡ before ++ Discarded stamp ∷ later
  pub unprepared : list_any (prepares stamp) before ≡ false

-- ---- which marks follow which

-- a stamp is prepared where it is unknown, committed where it is pending, and discarded where it is either; a trim may
-- follow always
abbrev pub may_follow : List Mark → Mark → Bool
may_follow marks (Prepared stamp writes items) = is_unknown (state_of marks stamp)
may_follow marks (Committed stamp) = is_pending (state_of marks stamp)
may_follow marks (Discarded stamp) = is_unknown (state_of marks stamp) || is_pending (state_of marks stamp)
may_follow marks (Trimmed item) = true

-- each of the later marks may follow those before it
abbrev pub legal_after : List Mark → List Mark → Bool
legal_after before [] = true
legal_after before (mark ∷ later) = may_follow before mark && legal_after (before ++ mark ∷ []) later

abbrev pub is_legal : List Mark → Bool
is_legal marks = legal_after [] marks

-- ---- the versions that were written

-- the value that rows give an item
abbrev pub value_in : List Row → ℕ → Option Value
value_in rows item = lookup (λ i. i == item) rows

-- the value that rows give an item, or Missing
abbrev pub first_value : List Row → ℕ → Value
first_value rows item = unwrap_or (value_in rows item) Missing

-- the value of the item's version at a stamp: it was prepared there, and not discarded
abbrev pub version : List Mark → ℕ → ℕ → Option Value
version marks item stamp =
    if list_any (discards stamp) marks then None else value_in (writes_at marks stamp) item

abbrev pub has_version : List Mark → ℕ → ℕ → Bool
has_version marks item stamp = is_some (version marks item stamp)

-- the stamps that are committed
abbrev pub commit_in : Mark → Option ℕ
commit_in (Prepared stamp writes items) = None
commit_in (Committed stamp) = Some stamp
commit_in (Discarded stamp) = None
commit_in (Trimmed item) = None

abbrev pub committed_stamps : List Mark → List ℕ
committed_stamps marks = filter_map commit_in marks

-- the greatest committed stamp at which the item has a version, or 0
abbrev pub latest : List Mark → ℕ → ℕ
latest marks item = best_of (has_version marks item) (committed_stamps marks)

-- ---- the versions that are kept

-- the marks before the item's last trim: none where it was never trimmed
abbrev pub before_trim : ℕ → List Mark → List Mark
before_trim item [] = []
before_trim item (mark ∷ marks) = if list_any (trims item) marks then mark ∷ before_trim item marks else []

-- the item's floor, below which no version is kept: its latest stamp as it was last trimmed, and 0 before
abbrev pub floor : List Mark → ℕ → ℕ
floor marks item = latest (before_trim item marks) item

-- the value of the item's version at a stamp, where it is kept
abbrev pub kept_version : List Mark → ℕ → ℕ → Option Value
kept_version marks item stamp = if nat_le (floor marks item) stamp then version marks item stamp else None

abbrev pub has_kept_version : List Mark → ℕ → ℕ → Bool
has_kept_version marks item stamp = is_some (kept_version marks item stamp)

-- ---- how full it is

-- the stamps that are prepared
abbrev pub prepare_in : Mark → Option ℕ
prepare_in (Prepared stamp writes items) = Some stamp
prepare_in (Committed stamp) = None
prepare_in (Discarded stamp) = None
prepare_in (Trimmed item) = None

abbrev pub prepared_stamps : List Mark → List ℕ
prepared_stamps marks = filter_map prepare_in marks

-- those of them that are pending
abbrev pub pending_stamps : List Mark → List ℕ
pending_stamps marks = filter (λ stamp. is_pending (state_of marks stamp)) (prepared_stamps marks)

-- the marks that are made, and one more for each pending stamp, which will be decided
abbrev pub load : List Mark → ℕ
load marks = length marks + length (pending_stamps marks)

-- there is no room for a stamp more: for its mark, and for the one that decides it
abbrev pub is_full : ℕ → List Mark → Bool
is_full limit marks = nat_lt limit (load marks + 2)

-- these are the stamps that are pending, rising
pub record ArePending (marks : List Mark) (stamps : List ℕ) : Type 0 where
  pub pending : (t : ℕ) → Contains stamps t ↔ (state_of marks t ≡ state.Pending)
  pub rising : IsStrictlySortedBy nat_cmp stamps
