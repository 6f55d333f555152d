-- What a partition is seen as, what it opens with, and its value of an item.
use Rattle.std.specs.Prelude.{◌≡◌, ℕ, ◌≤◌, ◌<◌, Bool, true, false, not, ◌==◌, ◌&&◌, nat_lt, nat_le, List, [], ◌∷◌, map, Option, Some, None, Result, Ok, Err, if◌then◌else◌}
use Rattle.std.specs.List.{list_all, range_with_len}
use Rattle.std.specs.Option.{unwrap_or}
use Rattle.album_stamps.specs.declared.limits.TheConstants.{MAX_PARTS, MAX_MARKS}
use Rattle.album_stamps.specs.declared.refusals.Refusal.{Refusal}
use Rattle.album_stamps.specs.declared.refusals.Refusal.TheVariants.{BadOpening, NoSuchPart}
use Rattle.album_items.specs.Openings.{Row, has_parts, has_limit, has_single_rows, has_own_value}
use Rattle.album_items.specs.declared.values.Value.{Value}
use Rattle.album_items.specs.declared.values.Value.TheVariants.{Missing}
use Rattle.album_versions.specs.Best.{best_of}
use Rattle.album_partition.specs.declared.marks.Mark.{Mark}
use Rattle.album_partition.specs.Bases.{is_chained}
use Rattle.album_partition.specs.Marks.{value_in, version, has_version, latest, floor, load, is_legal}
use Rattle.album_items.specs.Places.{is_placed, rows_placed_at}
use Rattle.album_partition.specs.Proper.{are_proper_marks}
use Rattle.album_partition.specs.Votes.{NotedVote, AreVotes}

-- A partition: its number from 0; how many partitions there are, how many marks its history may have, and the first
-- values of the items that are placed at it; its marks; and the votes Prepared that it noted. One that is checked takes
-- checked Prepares alone.
pub record PartitionState : Type 0 where
  pub number : ℕ
  pub parts : ℕ
  pub limit : ℕ
  pub items : List Row
  pub marks : List Mark
  pub votes : List NotedVote
  pub checked : Bool

-- ---- how it opens

-- all first values are of its own items, each of its item's kind, and no item has two
abbrev pub has_own_rows : ℕ → ℕ → List Row → Bool
has_own_rows number parts items =
    list_all has_own_value items
    && list_all (λ row. is_placed number parts row.0) items
    && has_single_rows items

-- neither too few nor too many partitions and marks
abbrev pub may_open : ℕ → ℕ → ℕ → List Row → Bool
may_open number parts limit items = has_parts parts && has_limit limit && has_own_rows number parts items

-- as it opens
abbrev pub opening_state : ℕ → ℕ → List Row → ℕ → PartitionState
opening_state number parts items limit =
    record { number = number; parts = parts; limit = limit; items = items; marks = []; votes = []; checked = false }

-- the same, checked or not, among so many partitions with these rows of first values: it has those placed at it
abbrev pub first_partition : Bool → ℕ → ℕ → List Row → ℕ → PartitionState
first_partition checked parts limit rows number =
    record (opening_state number parts (rows_placed_at number parts rows) limit) { checked = checked }

-- all partitions as they open, in the order of their numbers
abbrev pub first_partitions : Bool → ℕ → ℕ → List Row → List PartitionState
first_partitions checked parts limit rows = map (first_partition checked parts limit rows) (range_with_len 0 parts)

-- the partition of this number, among so many, with these first values and room for so many marks
abbrev pub opened : ℕ → ℕ → List Row → ℕ → Result PartitionState Refusal
opened number parts items limit =
    if not (nat_lt number parts) then Err NoSuchPart
    else if not (may_open number parts limit items) then Err BadOpening
    else Ok (opening_state number parts items limit)

-- what is true of each partition
pub record IsPartition (partition : PartitionState) : Type 0 where
  pub some : 1 ≤ partition.parts
  pub few : partition.parts ≤ MAX_PARTS
  pub here : partition.number < partition.parts
  pub limit : partition.limit ≤ MAX_MARKS
  pub room : load partition.marks ≤ partition.limit
  pub legal : is_legal partition.marks ≡ true
  pub proper : are_proper_marks partition.number partition.parts partition.marks ≡ true
  pub votes : AreVotes partition.number partition.parts partition.marks partition.votes
  pub chained : partition.checked ≡ true → is_chained partition.marks ≡ true

-- ---- what is read of an item

-- the item's value at a stamp: at 0 its first value
abbrev pub value_at : PartitionState → ℕ → ℕ → Value
value_at partition item stamp =
    unwrap_or (if stamp == 0 then value_in partition.items item else version partition.marks item stamp) Missing

-- at which stamp an item would be read, were nothing trimmed: the latest, or the greatest of those given at which it
-- has a version
abbrev pub stamp_for : List Mark → ℕ → List ℕ → ℕ
stamp_for marks item [] = latest marks item
stamp_for marks item (stamp ∷ stamps) = best_of (has_version marks item) (stamp ∷ stamps)

-- at which stamp it is read: at none where that is below its floor
abbrev pub read_at : List Mark → ℕ → List ℕ → Option ℕ
read_at marks item stamps =
    if nat_le (floor marks item) (stamp_for marks item stamps) then Some (stamp_for marks item stamps) else None
