-- Cuts: what was seen of the partitions' histories and of the announced writes, and when a cut is closed, which is to
-- say consistent.
use Rattle.std.specs.Prelude.{◌≡◌, ℕ, ◌≤◌, Bool, true, ◌==◌, List, [], ◌∷◌, ◌++◌, length, slice_index, slice_index_or, All, Contains, Option, Some, is_some, option_map}
use Rattle.std.specs.List.{list_any, zip}
use Rattle.std.specs.Map.{lookup}
use Rattle.album_items.specs.ItemIds.{place_of}
use Rattle.album_items.specs.Openings.{Row}
use Rattle.album_items.specs.Transactions.{items_written}
use Rattle.album_partition.specs.declared.marks.Mark.{Mark}
use Rattle.album_partition.specs.declared.marks.Mark.TheVariants.{Prepared, Committed, Discarded, Trimmed}
use Rattle.album_partition.specs.Bases.{IsChainedIf}
use Rattle.album_partition.specs.Marks.{IsPromisedAgainst, prepares, is_legal, latest}
use Rattle.album_partition.specs.Proper.{has_row}

-- ---- a cut

-- All that a transaction writes, and of each write its base, in the same order: the stamp at which the author's view
-- has the item, and 0 for a new one.
pub record Announced : Type 0 where
  pub writes : List Row
  pub bases : List ℕ

-- a stamp, and what is announced for it
abbrev pub Announcement : Type 0
Announcement = ℕ × Announced

-- a stamp, and how many marks of each partition its author had seen when it announced the stamp
abbrev pub Dependency : Type 0
Dependency = ℕ × List ℕ

-- The first values of items, how many partitions there are, and whether the store is checked; of each partition a
-- prefix of its history; and what was announced, and what each stamp depends on, where the first entry of a stamp
-- counts.
pub record Cut : Type 0 where
  pub opening : List Row
  pub parts : ℕ
  pub checked : Bool
  pub prefixes : List (List Mark)
  pub announced : List Announcement
  pub depended : List Dependency

-- the marks of a partition, and none where there is no such partition
abbrev pub marks_at : List (List Mark) → ℕ → List Mark
marks_at histories part = slice_index_or histories part []

-- the marks are the first ones of a history
abbrev pub IsPrefix : List Mark → List Mark → Type 0
IsPrefix marks history = (later : List Mark) × (marks ++ later ≡ history)

-- what the cut has of a partition's history
abbrev pub prefix_at : Cut → ℕ → List Mark
prefix_at cut part = marks_at cut.prefixes part

-- what it has of the history of the partition at which the item is placed
abbrev pub prefix_for : Cut → ℕ → List Mark
prefix_for cut item = prefix_at cut (place_of cut.parts item)

-- what is announced for the stamp
abbrev pub announced_for : Cut → ℕ → Option Announced
announced_for cut stamp = lookup (λ t. t == stamp) cut.announced

-- the items that are announced for it: all those of its transaction
abbrev pub items_announced : Cut → ℕ → Option (List ℕ)
items_announced cut stamp = option_map (λ announced. items_written announced.writes) (announced_for cut stamp)

-- how many marks of each partition the stamp's author had seen
abbrev pub dependencies_of : Cut → ℕ → Option (List ℕ)
dependencies_of cut stamp = lookup (λ t. t == stamp) cut.depended

-- it has at least so many marks of each partition
abbrev pub HasReached : List ℕ → Cut → Type 0
HasReached lengths cut = (part : ℕ) → slice_index lengths part ≤ length (prefix_at cut part)

-- ---- a closed cut

-- the item's partition has prepared the stamp
abbrev pub IsPreparedFor : Cut → ℕ → ℕ → Type 0
IsPreparedFor cut stamp item = list_any (prepares stamp) (prefix_for cut item) ≡ true

-- Writes are announced for the stamp. These are their items, in order, and each of these writes is among them, with its
-- value.
pub record IsNamed (cut : Cut) (stamp : ℕ) (writes : List Row) (items : List ℕ) : Type 0 where
  pub all : Announced
  pub announced : announced_for cut stamp ≡ Some all
  pub items_are : items ≡ items_written all.writes
  pub within : (row : Row) → Contains writes row → Contains all.writes row

-- the base is announced for the write
abbrev pub IsBaseOf : Announced → Row → ℕ → Type 0
IsBaseOf announced row base = Contains (zip announced.writes announced.bases) (row, base)

-- the writes are named so, and each of these bases is announced for its write, in the same order
pub record IsNamedOn (cut : Cut) (stamp : ℕ) (writes : List Row) (items bases : List ℕ) : Type 0 where
  pub named : IsNamed cut stamp writes items
  pub based : (row : Row) (base : ℕ) → Contains (zip writes bases) (row, base) → IsBaseOf named.all row base

-- the marks have prepared the stamp, and with it the item, where the item's latest version was that at the base
pub record IsPreparedOver (marks : List Mark) (stamp item base : ℕ) : Type 0 where
  pub before : List Mark
  pub writes : List Row
  pub items : List ℕ
  pub had : IsPrefix (before ++ Prepared stamp writes items ∷ []) marks
  pub wrote : has_row writes item ≡ true
  pub latest_is : latest before item ≡ base

-- a base is announced for the stamp's write, and the item's partition has prepared the stamp over it
pub record IsOverItsBase (cut : Cut) (stamp : ℕ) (row : Row) : Type 0 where
  pub all : Announced
  pub announced : announced_for cut stamp ≡ Some all
  pub base : ℕ
  pub of : IsBaseOf all row base
  pub over : IsPreparedOver (prefix_for cut row.0) stamp row.0 base

-- The writes are named, with their values. In a checked store each was prepared over the base that is announced for it.
pub record IsAsAnnounced (cut : Cut) (stamp : ℕ) (writes : List Row) (items : List ℕ) : Type 0 where
  pub named : IsNamed cut stamp writes items
  pub based : cut.checked ≡ true → (row : Row) → Contains writes row → IsOverItsBase cut stamp row

-- writes are announced for the stamp, and the partition of each of their items has prepared it
pub record IsPreparedThroughout (cut : Cut) (stamp : ℕ) : Type 0 where
  pub items : List ℕ
  pub announced : items_announced cut stamp ≡ Some items
  pub prepared : All (IsPreparedFor cut stamp) items

-- writes are announced for the stamp, and the partition of one of their items will never prepare it
pub record IsPromisedSomewhere (cut : Cut) (stamp : ℕ) : Type 0 where
  pub items : List ℕ
  pub announced : items_announced cut stamp ≡ Some items
  pub item : ℕ
  pub listed : Contains items item
  pub promised : IsPromisedAgainst (prefix_for cut item) stamp

-- what the cut has to have so that a mark is backed: nothing for a trim
abbrev pub IsBacked : Cut → Mark → Type 0
IsBacked cut (Prepared stamp writes items) = IsAsAnnounced cut stamp writes items
IsBacked cut (Committed stamp) = IsPreparedThroughout cut stamp
IsBacked cut (Discarded stamp) = IsPromisedSomewhere cut stamp
IsBacked cut (Trimmed item) = Unit {0}

-- each of its marks is backed: the cut is consistent
abbrev pub IsClosedCut : Cut → Type 0
IsClosedCut cut = (part : ℕ) → All (IsBacked cut) (prefix_at cut part)

-- It has a prefix of each partition, whose marks may follow each other, and it is closed. In a checked store each
-- version was made on the latest. It is causal, too: of each stamp that is announced it knows what the author had seen,
-- and has all of that.
pub record IsSound (cut : Cut) : Type 0 where
  pub wide : length cut.prefixes ≡ cut.parts
  pub legal : (part : ℕ) → is_legal (prefix_at cut part) ≡ true
  pub chained : (part : ℕ) → IsChainedIf cut.checked (prefix_at cut part)
  pub closed : IsClosedCut cut
  pub depends : (stamp : ℕ) → is_some (dependencies_of cut stamp) ≡ is_some (announced_for cut stamp)
  pub causal : (stamp : ℕ) (lengths : List ℕ) → dependencies_of cut stamp ≡ Some lengths → HasReached lengths cut

-- ---- how a cut extends another

-- the new cut has all that the old one has: it is of the same opening, extends each prefix, and has what was announced,
-- with what that depends on
pub record Extends (old new : Cut) : Type 0 where
  pub opening : new.opening ≡ old.opening
  pub parts : new.parts ≡ old.parts
  pub checked : new.checked ≡ old.checked
  pub prefixes : (part : ℕ) → IsPrefix (prefix_at old part) (prefix_at new part)
  pub announced : (stamp : ℕ) (announced : Announced) → announced_for old stamp ≡ Some announced
      → announced_for new stamp ≡ Some announced
  pub depended : (stamp : ℕ) (lengths : List ℕ) → dependencies_of old stamp ≡ Some lengths
      → dependencies_of new stamp ≡ Some lengths
