-- Which Prepares a partition can follow.
use Rattle.std.specs.Prelude.{ℕ, Bool, ◌==◌, ◌&&◌, not, List, length}
use Rattle.std.specs.List.{list_all, list_any}
use Rattle.album_items.specs.Openings.{Row, has_single_rows}
use Rattle.album_items.specs.Places.{is_placed, placed_at}
use Rattle.album_items.specs.Transactions.{are_items, has_right_kind}
use Rattle.album_partition.specs.declared.marks.Mark.{Mark}
use Rattle.album_partition.specs.declared.marks.Mark.TheVariants.{Prepared, Committed, Discarded, Trimmed}

-- one of the rows is the item's
abbrev pub has_row : List Row → ℕ → Bool
has_row rows item = list_any (λ row. row.0 == item) rows

-- the row's item is one of the items
abbrev pub is_among : List ℕ → Row → Bool
is_among items row = list_any (λ item. item == row.0) items

-- the rows are of these items, of each exactly one, in any order
abbrev pub are_rows_of : List ℕ → List Row → Bool
are_rows_of items rows =
    has_single_rows rows && list_all (is_among items) rows && list_all (has_row rows) items

-- the writes are of exactly those items that are placed at the partition, and each value is of its item's kind
abbrev pub are_own_writes : ℕ → ℕ → List Row → List ℕ → Bool
are_own_writes number parts writes items =
    are_rows_of (placed_at number parts items) writes && list_all has_right_kind writes

-- a Prepare that the partition can follow
abbrev pub is_proper : ℕ → ℕ → ℕ → List Row → List ℕ → Bool
is_proper number parts stamp writes items =
    not (stamp == 0) && are_items items && are_own_writes number parts writes items

-- a checked Prepare that the partition can follow: it has a base for each of its writes
abbrev pub is_proper_on : ℕ → ℕ → ℕ → List Row → List ℕ → List ℕ → Bool
is_proper_on number parts stamp writes items bases =
    is_proper number parts stamp writes items && (length writes == length bases)

-- no mark is of the stamp 0, one that prepares is of a Prepare that could be followed, and one that trims of an item
-- that is placed here
abbrev pub is_proper_mark : ℕ → ℕ → Mark → Bool
is_proper_mark number parts (Prepared stamp writes items) = is_proper number parts stamp writes items
is_proper_mark number parts (Committed stamp) = not (stamp == 0)
is_proper_mark number parts (Discarded stamp) = not (stamp == 0)
is_proper_mark number parts (Trimmed item) = is_placed number parts item

abbrev pub are_proper_marks : ℕ → ℕ → List Mark → Bool
are_proper_marks number parts marks = list_all (is_proper_mark number parts) marks
