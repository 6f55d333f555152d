-- What an answer of a session rests on: the cut that it began with, and the one that it has then.
use Rattle.std.specs.Prelude.{◌≡◌, ◌≢◌, ℕ, ◌+◌, ◌<◌, ◌≤◌, Bool, true, false, List, [], ◌∷◌, ◌++◌, map, length, sum_by, count_by, All, Contains, Option}
use Rattle.std.specs.List.{list_any}
use Rattle.album_stamps.specs.declared.limits.TheConstants.{MAX_READ_ITEMS, MAX_READS}
use Rattle.album_items.specs.Openings.{Row}
use Rattle.album_items.specs.Places.{places_of, rows_placed_at}
use Rattle.album_items.specs.Transactions.{items_written}
use Rattle.album_eval.specs.declared.facts.Principal.{Principal}
use Rattle.album_eval.specs.declared.policies.Policy.{Policy}
use Rattle.album_terminate.specs.declared.deciding.StampState.TheVariants as state
use Rattle.album_partition.specs.Bases.{are_bases}
use Rattle.album_partition.specs.Marks.{commits, state_of, is_full, first_value, latest}
use Rattle.album_partition.specs.declared.marks.Mark.{Mark}
use Rattle.album_partition.specs.declared.marks.Mark.TheVariants.{Prepared, Committed, Discarded, Trimmed}
use Rattle.album_reader.specs.Answers.{ReadVersion}
use Rattle.album_reader.specs.Atomic.{IsReadAtomic, IsFreshFrom}
use Rattle.album_reader.specs.Snapshots.{items_read}
use Rattle.album_views.specs.Asks.{objects_of}
use Rattle.album_views.specs.ReadSets.{names_of, looker_of}
use Rattle.album_views.specs.Views.{IsClosed, IsView}
use Rattle.album_views.specs.declared.asks.Ask.{Ask}
use Rattle.album_listing.specs.ViewLookups.{stamp_seen}
use Rattle.album_permits.specs.Effects.{effect_of}
use Rattle.album_permits.specs.Permits.{PermitState, permit_on}
use Rattle.album_passes.specs.Cuts.{Cut, Announced, prefix_at, prefix_for, IsSound, IsPrefix, Extends}
use Rattle.album_passes.specs.Reads.{IsCommitted, IsCommittedFor, writes_in_cut}

-- ---- a view

-- each stamp at which an item was read, but for 0, is committed at the item's own partition: whoever reads the item
-- later finds that version, or a newer one
abbrev pub AreSettled : Cut → List ReadVersion → Type 0
AreSettled now rows = All (λ row. row.stamp ≢ 0 → IsCommittedFor now row.stamp row.item) rows

-- no item was read below the latest stamp that its partition had committed by the cut
abbrev pub AreUpToDate : Cut → List ReadVersion → Type 0
AreUpToDate cut rows = All (λ row. latest (prefix_for cut row.item) row.item ≤ row.stamp) rows

-- each stamp at which an item was read, but for 0, is committed somewhere
abbrev pub AreKnown : Cut → List ReadVersion → Type 0
AreKnown cut rows = All (λ row. row.stamp ≢ 0 → IsCommitted cut row.stamp) rows

-- What was read is read atomic, with the cut's marks as histories, and settled. It is fresh from a cut that extends the
-- one with which the ask began, and that knows each of its versions as committed. So no item is older than what the
-- author of another's version had seen: law `no_new_enemy`.
pub record IsSeen (begun now : Cut) (rows : List ReadVersion) : Type 0 where
  pub atomic : IsReadAtomic (writes_in_cut now) (first_value now.opening) rows
  pub at : Cut
  pub since : Extends begun at
  pub until : Extends at now
  pub sound : IsSound at
  pub known : AreKnown at rows
  pub fresh : IsFreshFrom (writes_in_cut now) (IsCommittedFor at) rows
  pub settled : AreSettled now rows

-- no item of both reads is older in the later one than in the earlier
abbrev pub AreNoOlder : List ReadVersion → List ReadVersion → Type 0
AreNoOlder earlier later =
    (one other : ReadVersion) → Contains earlier one → Contains later other → other.item ≡ one.item
    → one.stamp ≤ other.stamp

-- each item of both reads has one stamp in both, and one value, where that isn't the opening's
abbrev pub AreAlike : List ReadVersion → List ReadVersion → Type 0
AreAlike first second =
    (one other : ReadVersion) → Contains first one → Contains second other → other.item ≡ one.item
    → (other.stamp ≡ one.stamp) × (one.stamp ≢ 0 → other.value ≡ one.value)

-- no mark was made from the one cut to the other
abbrev pub HasSameMarks : Cut → Cut → Type 0
HasSameMarks begun now = (part : ℕ) → prefix_at now part ≡ prefix_at begun part

-- none of these items is read below the stamp
abbrev pub AreFrom : ℕ → List ℕ → List ReadVersion → Type 0
AreFrom stamp items rows = (row : ReadVersion) → Contains rows row → Contains items row.item → stamp ≤ row.stamp

-- The ask has a view, made of versions that were read so. The property holds of the permit that the view, the principal
-- and the policy would make.
pub record IsOnView
    (begun now : Cut) (policy : Policy) (principal : Principal) (ask : Ask) (Holds : PermitState → Type 0)
    : Type 0 where
  pub rows : List ReadVersion
  pub seen : IsSeen begun now rows
  pub view : IsView (record { looker = looker_of policy principal; ask = ask; rows = rows })
  pub holds : Holds (permit_on policy principal ask rows)

-- ---- a write

-- the items that a permit writes at a stamp, and its participants: the partitions of these items
abbrev pub items_of : PermitState → ℕ → List ℕ
items_of permit stamp = items_written (effect_of permit stamp)

abbrev pub places_in : Cut → PermitState → ℕ → List ℕ
places_in cut permit stamp = places_of cut.parts (items_of permit stamp)

-- what a permit writes at a partition, and the bases of these writes: of each the stamp at which the view shows its
-- item, and 0 where it doesn't
abbrev pub rows_at : Cut → PermitState → ℕ → ℕ → List Row
rows_at cut permit stamp place = rows_placed_at place cut.parts (effect_of permit stamp)

abbrev pub bases_for : PermitState → List Row → List ℕ
bases_for permit rows = map (λ (row : Row). stamp_seen permit.view.rows row.0) rows

-- all that a permit writes at a stamp, each on the base that its view shows
abbrev pub write_of : PermitState → ℕ → Announced
write_of permit stamp =
    record { writes = effect_of permit stamp; bases = bases_for permit (effect_of permit stamp) }

-- The stamp's rows were prepared on these bases. Each was the latest version of its item just then, and no other was
-- pending.
pub record IsPreparedOn (marks : List Mark) (stamp : ℕ) (rows : List Row) (items bases : List ℕ) : Type 0 where
  pub before : List Mark
  pub had : IsPrefix (before ++ Prepared stamp rows items ∷ []) marks
  pub based : are_bases before stamp rows bases ≡ true

-- a partition has prepared exactly what is written there, in a checked store on what the view shows, and has committed
-- it
pub record IsKeptAt (now : Cut) (permit : PermitState) (stamp place : ℕ) : Type 0 where
  pub prepared : Contains (prefix_at now place)
      (Prepared stamp (rows_at now permit stamp place) (items_of permit stamp))
  pub based : now.checked ≡ true → IsPreparedOn (prefix_at now place) stamp
      (rows_at now permit stamp place) (items_of permit stamp) (bases_for permit (rows_at now permit stamp place))
  pub committed : list_any (commits stamp) (prefix_at now place) ≡ true

-- each participant has
abbrev pub IsKept : Cut → PermitState → ℕ → Type 0
IsKept now permit stamp =
    (place : ℕ) → Contains (places_in now permit stamp) place → IsKeptAt now permit stamp place

-- A participant had no room for the stamp when it was unknown there, at a point of its history that the cut has seen.
-- (So it never prepares it: law `full_stays`.)
pub record IsWithoutRoom (limit : ℕ) (now : Cut) (permit : PermitState) (stamp : ℕ) : Type 0 where
  pub place : ℕ
  pub participant : Contains (places_in now permit stamp) place
  pub marks : List Mark
  pub had : IsPrefix marks (prefix_at now place)
  pub full : is_full limit marks ≡ true
  pub unknown : state_of marks stamp ≡ state.Unknown

-- ---- no view

-- what was read is not closed, and names more items than can be read
pub record IsWide (begun now : Cut) (looker : Option Principal) (ask : Ask) : Type 0 where
  pub rows : List ReadVersion
  pub seen : IsSeen begun now rows
  pub lacking : IsClosed looker ask rows → ⊥
  pub wide : MAX_READ_ITEMS < length (names_of rows looker ask)

-- Reads that led to no view, one after another: the first of these items, each next of exactly the read set of the one
-- before.
pub data AreInVain (begun now : Cut) (looker : Option Principal) (ask : Ask)
    : List ℕ → List (List ReadVersion) → Type 0 where
  NoRead : (items : List ℕ) → AreInVain begun now looker ask items []
  OneMore :
      (items : List ℕ) (rows : List ReadVersion) (later : List (List ReadVersion))
      → items_read rows ≡ items → IsSeen begun now rows
      → (IsClosed looker ask rows → ⊥) → length (names_of rows looker ask) ≤ MAX_READ_ITEMS
      → AreInVain begun now looker ask (names_of rows looker ask) later
      → AreInVain begun now looker ask items (rows ∷ later)

-- the mark is one that trims
abbrev pub is_trim : Mark → Bool
is_trim (Prepared stamp writes items) = false
is_trim (Committed stamp) = false
is_trim (Discarded stamp) = false
is_trim (Trimmed item) = true

-- how many marks of the cut trim
abbrev pub trims_in : Cut → ℕ
trims_in cut = sum_by (λ marks. count_by is_trim marks) cut.prefixes

-- As many reads were made as an ask may have. Those that led to no view begin with one of the ask's objects. The others
-- found an item gone by a trim, and are no more than the trims that the cut has gained.
pub record IsOutOfReads (begun now : Cut) (looker : Option Principal) (ask : Ask) : Type 0 where
  pub reads : List (List ReadVersion)
  pub in_vain : AreInVain begun now looker ask (objects_of ask) reads
  pub all : MAX_READS + trims_in begun ≤ length reads + trims_in now
