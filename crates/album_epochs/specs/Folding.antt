-- How what is carried is computed: of each item what was found so far, mark by mark.
use Rattle.std.specs.Prelude.{◌≡◌, ◌≢◌, ℕ, ◌<◌, ◌≤◌, Bool, true, false, nat_lt, List, [], ◌∷◌, map, filter, length, get_or, Option, Some, None, option_map, if◌then◌else◌}
use Rattle.std.specs.BTreeMap as map
use Rattle.std.specs.BTreeMap.{BTreeMap}
use Rattle.std.specs.BTreeSet as set
use Rattle.std.specs.BTreeSet.{BTreeSet}
use Rattle.std.specs.Borrow.{Bor}
use Rattle.std.specs.List.{list_any, list_all}
use Rattle.std.specs.List.Sorted.{IsStrictlySortedBy}
use Rattle.std.specs.Option.{option_map_or, unwrap_or}
use Rattle.std.specs.Ordering.{nat_cmp}
use Rattle.album_items.specs.ItemIds.{place_of}
use Rattle.album_items.specs.FirstStamps.{Stamps, first_stamp, shown}
use Rattle.album_items.specs.Openings.{Row}
use Rattle.album_items.specs.Transactions.{items_written}
use Rattle.album_items.specs.Values.{is_there}
use Rattle.album_items.specs.declared.values.Value.{Value}
use Rattle.album_items.specs.declared.values.Value.TheVariants.{Missing}
use Rattle.album_partition.specs.declared.marks.Mark.{Mark}
use Rattle.album_partition.specs.declared.marks.Mark.TheVariants.{Prepared, Committed, Discarded, Trimmed}
use Rattle.album_partition.specs.Marks.{mark_stamp, is_mark_of, prepares, value_in, first_value}
use Rattle.album_passes.specs.Cuts.{marks_at}

-- a stamp, and the value that an item has there
abbrev pub Kept : Type 0
Kept = ℕ × Value

-- the histories that are lent
abbrev pub histories_lent : List (Bor (List Mark)) → List (List Mark)
histories_lent lent = map (λ history. history.now) lent

-- the mark prepares a stamp
abbrev pub is_prepare : Mark → Bool
is_prepare (Prepared stamp writes items) = true
is_prepare (Committed stamp) = false
is_prepare (Discarded stamp) = false
is_prepare (Trimmed item) = false

-- those of the marks of each history that do
abbrev pub prepares_of : List (List Mark) → List (List Mark)
prepares_of histories = map (filter is_prepare) histories

-- ---- of one item

-- the stamp of what was found, and 0 where nothing was
abbrev pub stamp_kept : Option Kept → ℕ
stamp_kept kept = option_map_or (λ k. k.0) kept 0

-- the value of what was found, or Missing
abbrev pub value_kept : Option Kept → Value
value_kept kept = option_map_or (λ k. k.1) kept Missing

-- what an item has at first: its first value at 0
abbrev pub first_kept : List Row → ℕ → Option Kept
first_kept rows item = option_map (λ value. (0, value)) (value_in rows item)

-- with what a write of this stamp gives the item, if it gives it something, and the stamp is greater
abbrev pub raised : Option Kept → ℕ → Option Value → Option Kept
raised kept stamp None = kept
raised kept stamp (Some value) = if nat_lt (stamp_kept kept) stamp then Some (stamp, value) else kept

-- the partition of each of the items has prepared the stamp
abbrev pub is_throughout : List (List Mark) → ℕ → List ℕ → Bool
is_throughout histories stamp items =
    list_all (λ item. list_any (prepares stamp) (marks_at histories (place_of (length histories) item))) items

-- with what a mark prepares, where its stamp is prepared throughout
abbrev pub raised_by : List (List Mark) → ℕ → Option Kept → Mark → Option Kept
raised_by histories item kept (Prepared stamp writes items) =
    if is_throughout histories stamp items then raised kept stamp (value_in writes item) else kept
raised_by histories item kept (Committed stamp) = kept
raised_by histories item kept (Discarded stamp) = kept
raised_by histories item kept (Trimmed trimmed) = kept

-- with what these marks prepare, one after another
abbrev pub newest : List (List Mark) → ℕ → Option Kept → List Mark → Option Kept
newest histories item kept [] = kept
newest histories item kept (mark ∷ marks) = newest histories item (raised_by histories item kept mark) marks

-- with all that the histories prepare
abbrev pub newest_of : List (List Mark) → (ℕ → Option Kept) → ℕ → Option Kept
newest_of histories first item =
    newest histories item (first item) (marks_at histories (place_of (length histories) item))

-- ---- of all items

-- These rows are what first values and histories are folded into: rising, and one for each item that isn't missing. (Of
-- the histories of a part of a sound cut they are what is carried: law `what_is_folded_is_carried`.)
pub record AreFolded (first : List Row) (histories : List (List Mark)) (rows : List Row) : Type 0 where
  pub rising : IsStrictlySortedBy nat_cmp (items_written rows)
  pub values : (item : ℕ) → first_value rows item ≡ value_kept (newest_of histories (first_kept first) item)
  pub there : list_all (λ row. is_there row.1) rows ≡ true

-- the stamp to show of what was found of an item, unless that is missing
abbrev pub stamp_left : Stamps → ℕ → Option Kept → ℕ
stamp_left stamps item None = 0
stamp_left stamps item (Some kept) = if is_there kept.1 then shown stamps item kept.0 else 0

-- the stamps of these rows: of each as what was found of it shows
abbrev pub AreFoldedStamps : Stamps → List Row → List (List Mark) → Stamps → Type 0
AreFoldedStamps stamps first histories next =
    (item : ℕ) → first_stamp next item ≡ stamp_left stamps item (newest_of histories (first_kept first) item)

-- what a map has of an item
abbrev pub kept_in : BTreeMap ℕ Kept → ℕ → Option Kept
kept_in found item = map.get nat_cmp found item

-- the set has exactly the stamps that the marks prepare
abbrev pub ArePrepared : List Mark → BTreeSet ℕ → Type 0
ArePrepared marks stamps = (stamp : ℕ) → set.contains nat_cmp stamps stamp ≡ list_any (prepares stamp) marks

-- there is such a set for each history
pub record AreAllPrepared (histories : List (List Mark)) (sets : List (BTreeSet ℕ)) : Type 0 where
  pub count : length sets ≡ length histories
  pub each : (part : ℕ) (other : BTreeSet ℕ) → part < length histories
      → ArePrepared (marks_at histories part) (get_or sets part other)

-- the stamp that a mark is of, and 0 where it is of none
abbrev pub stamp_in : Mark → ℕ
stamp_in mark = unwrap_or (mark_stamp mark) 0

-- no mark is of a stamp above it, and one is of it, unless it is 0
pub record IsGreatestOf (marks : List Mark) (greatest : ℕ) : Type 0 where
  pub above : (stamp : ℕ) → list_any (is_mark_of stamp) marks ≡ true → stamp ≤ greatest
  pub reached : greatest ≢ 0 → list_any (is_mark_of greatest) marks ≡ true
