-- How a history finds the state of a stamp, and where in it the stamp was prepared.
use Rattle.std.specs.Prelude.{◌≡◌, ℕ, ◌<◌, Bool, true, false, List, [], ◌∷◌, ◌++◌, length, Option, Some, None}
use Rattle.std.specs.List.{find, slice_get}
use Rattle.album_terminate.specs.declared.deciding.StampState.{StampState}
use Rattle.album_terminate.specs.declared.deciding.StampState.TheVariants as state
use Rattle.album_partition.specs.declared.standings.Standing.{Standing}
use Rattle.album_partition.specs.declared.standings.Standing.TheVariants.{Pending, Committed, Discarded}
use Rattle.album_partition.specs.declared.history.Change.{Change}
use Rattle.album_partition.specs.declared.marks.Mark.{Mark}
use Rattle.album_partition.specs.Standings.{standing_in}
use Rattle.album_partition.specs.Marks.{mark_stamp, prepares, state_of, is_legal, pending_stamps}

-- the mark that prepared a stamp is at the index
pub record IsAt (marks : List Mark) (stamp index : ℕ) : Type 0 where
  pub inside : index < length marks
  pub there : find (prepares stamp) marks ≡ slice_get marks index

-- what is kept of a stamp agrees with the marks: its state, and the index of the mark that prepared it
abbrev pub Stands : List Mark → ℕ → Option Standing → Type 0
Stands marks stamp None = state_of marks stamp ≡ state.Unknown
Stands marks stamp (Some (Pending index)) = (state_of marks stamp ≡ state.Pending) × IsAt marks stamp index
Stands marks stamp (Some (Committed index)) = (state_of marks stamp ≡ state.Committed) × IsAt marks stamp index
Stands marks stamp (Some Discarded) = state_of marks stamp ≡ state.Discarded

-- What a mark that was not made yet will change in addition to the list: the state of its stamp, and how many stamps
-- are pending. A trim is of no stamp, and changes neither.
abbrev pub WillStand : List Mark → Mark → Option Change → Type 0
WillStand marks mark None = mark_stamp mark ≡ None
WillStand marks mark (Some change) =
    (mark_stamp mark ≡ Some change.stamp)
    × Stands (marks ++ mark ∷ []) change.stamp (Some change.standing)
    × (change.pending ≡ length (pending_stamps (marks ++ mark ∷ [])))

-- The marks follow each other as they may. What is kept of each stamp agrees with them, and so does the number of
-- pending stamps.
pub record IsHistory (marks : List Mark) (standings : List (ℕ × Standing)) (pending : ℕ) : Type 0 where
  pub legal : is_legal marks ≡ true
  pub stands : (stamp : ℕ) → Stands marks stamp (standing_in standings stamp)
  pub count : pending ≡ length (pending_stamps marks)

-- a stamp in this state was prepared, and not discarded
abbrev pub is_kept : StampState → Bool
is_kept state.Unknown = false
is_kept state.Pending = true
is_kept state.Committed = true
is_kept state.Discarded = false

-- the index of the mark that prepared a stamp which is pending or committed; any other stamp has none
abbrev pub IsPreparedAt : List Mark → ℕ → Option ℕ → Type 0
IsPreparedAt marks stamp None = is_kept (state_of marks stamp) ≡ false
IsPreparedAt marks stamp (Some index) = (is_kept (state_of marks stamp) ≡ true) × IsAt marks stamp index

-- the mark that prepared a stamp which is pending or committed
abbrev pub kept_by : StampState → Option Mark → Option Mark
kept_by state.Unknown mark = None
kept_by state.Pending mark = mark
kept_by state.Committed mark = mark
kept_by state.Discarded mark = None

abbrev pub kept_mark : List Mark → ℕ → Option Mark
kept_mark marks stamp = kept_by (state_of marks stamp) (find (prepares stamp) marks)
