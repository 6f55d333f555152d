-- What of a cut is carried into the next epoch: which stamps, which version of each item, and the rows with which it
-- opens.
use Rattle.std.specs.Prelude.{◌≡◌, ◌≢◌, ℕ, ◌<◌, ◌≤◌, Bool, true, false, ◌==◌, ◌&&◌, List, length, Some, is_some, if◌then◌else◌}
use Rattle.std.specs.List.{list_any, list_all}
use Rattle.std.specs.List.Sorted.{IsStrictlySortedBy}
use Rattle.std.specs.Option.{option_map_or, unwrap_or}
use Rattle.std.specs.Ordering.{nat_cmp}
use Rattle.album_items.specs.FirstStamps.{Stamps, first_stamp, shown}
use Rattle.album_items.specs.Openings.{Row}
use Rattle.album_items.specs.Transactions.{items_written}
use Rattle.album_items.specs.Values.{is_there}
use Rattle.album_items.specs.declared.values.Value.{Value}
use Rattle.album_items.specs.declared.values.Value.TheVariants.{Missing}
use Rattle.album_partition.specs.Marks.{prepares, prepared_stamps, first_value}
use Rattle.album_reader.specs.Answers.{ReadVersion}
use Rattle.album_reader.specs.Atomic.{KnownWrites}
use Rattle.album_versions.specs.Best.{best_of}
use Rattle.album_passes.specs.Cuts.{Cut, Announced, prefix_for, announced_for, items_announced, IsSound, Extends}
use Rattle.album_passes.specs.Reads.{written_value}

-- ---- what is left of an epoch

-- A part of a sound cut: of each history as much as was kept, and all that was announced. So it needn't be closed:
-- where a mark was kept, what backs it may be lost.
pub record IsLeft (cut : Cut) : Type 0 where
  pub whole : Cut
  pub sound : IsSound whole
  pub part : Extends cut whole
  pub wide : length cut.prefixes ≡ cut.parts
  pub announced : (stamp : ℕ) (announced : Announced) → announced_for whole stamp ≡ Some announced
      → announced_for cut stamp ≡ Some announced

-- ---- a stamp

-- the item's partition has prepared the stamp
abbrev pub is_prepared_for : Cut → ℕ → ℕ → Bool
is_prepared_for cut stamp item = list_any (prepares stamp) (prefix_for cut item)

-- The stamp is carried: the partition of each item that is announced for it has prepared it. (So is each that is
-- committed, and none that is discarded: see the law `what_is_carried`.)
abbrev pub is_carried : Cut → ℕ → Bool
is_carried cut stamp = option_map_or (list_all (is_prepared_for cut stamp)) (items_announced cut stamp) false

-- ---- an item

-- the item has a version at the stamp, and the stamp is carried
abbrev pub has_carried : Cut → ℕ → ℕ → Bool
has_carried cut item stamp = is_some (written_value cut item stamp) && is_carried cut stamp

-- the greatest carried stamp at which the item has a version, or 0
abbrev pub carried_stamp : Cut → ℕ → ℕ
carried_stamp cut item = best_of (has_carried cut item) (prepared_stamps (prefix_for cut item))

-- the item's value at a stamp: at 0 its first value
abbrev pub value_carried_at : Cut → ℕ → ℕ → Value
value_carried_at cut item stamp =
    if stamp == 0 then first_value cut.opening item else unwrap_or (written_value cut item stamp) Missing

-- the value that is carried
abbrev pub carried_value : Cut → ℕ → Value
carried_value cut item = value_carried_at cut item (carried_stamp cut item)

-- In a checked store: the item's version at the stamp was made on the carried one at the base, or at base 0 on the
-- first one. No carried version is between the two.
pub record IsCarriedOn (cut : Cut) (item stamp base : ℕ) : Type 0 where
  pub below : base < stamp
  pub carried : base ≢ 0 → has_carried cut item base ≡ true
  pub next : (other : ℕ) → has_carried cut item other ≡ true → other < stamp → other ≤ base

-- ---- all items

-- the rows of the next epoch's opening: one for each item that is not missing, rising
pub record AreNextRows (cut : Cut) (rows : List Row) : Type 0 where
  pub rising : IsStrictlySortedBy nat_cmp (items_written rows)
  pub values : (item : ℕ) → first_value rows item ≡ carried_value cut item
  pub there : list_all (λ row. is_there row.1) rows ≡ true

-- The stamps that the next epoch shows for its rows: of each item that isn't missing, as it is carried, the stamp that
-- this epoch shows. So one that this epoch has left alone keeps its stamp.
abbrev pub AreNextStamps : Cut → Stamps → Stamps → Type 0
AreNextStamps cut stamps next =
    (item : ℕ) → first_stamp next item
    ≡ (if is_there (carried_value cut item) then shown stamps item (carried_stamp cut item) else 0)

-- the row is as the item is carried
pub record IsCarriedRow (cut : Cut) (row : ReadVersion) : Type 0 where
  pub stamp : row.stamp ≡ carried_stamp cut row.item
  pub value : row.value ≡ carried_value cut row.item

-- the writes that a cut carries: a transaction is known by its stamp
abbrev pub writes_carried : Cut → KnownWrites
writes_carried cut = record {
  Transaction = ℕ;
  stamp = λ stamp. stamp;
  value = λ stamp item. written_value cut item stamp;
  IsCommitted = λ stamp. is_carried cut stamp ≡ true;
}
