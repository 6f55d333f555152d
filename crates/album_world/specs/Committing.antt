-- The state of a transaction at the partitions.
use Rattle.std.specs.Prelude.{◌≡◌, ℕ, true, List, Contains}
use Rattle.std.specs.List.{list_any}
use Rattle.album_items.specs.Places.{places_of}
use Rattle.album_items.specs.Transactions.{items_written}
use Rattle.album_partition.specs.Marks.{commits, IsPromisedAgainst}
use Rattle.album_partition.specs.declared.marks.Mark.{Mark}
use Rattle.album_client.specs.Terms.{Terms}
use Rattle.album_client.specs.Steps.{Transaction}
use Rattle.album_world.specs.State.{history_in}
use Rattle.album_world.specs.Past.{World}

-- the history of a partition
abbrev pub history : World → ℕ → List Mark
history world part = history_in world.now.partitions part

-- the participants of a transaction: the partitions of the items that it writes
abbrev pub parts_of : Terms → Transaction → List ℕ
parts_of terms by = places_of terms.parts (items_written by.writes)

-- the partition has committed the stamp
abbrev pub IsCommittedAt : World → ℕ → ℕ → Type 0
IsCommittedAt world stamp part = list_any (commits stamp) (history world part) ≡ true

-- some partition has committed the stamp
abbrev pub IsCommitted : World → ℕ → Type 0
IsCommitted world stamp = (part : ℕ) × IsCommittedAt world stamp part

-- each participant has committed it
abbrev pub IsCommittedEverywhere : Terms → World → Transaction → Type 0
IsCommittedEverywhere terms world by =
    (part : ℕ) → Contains (parts_of terms by) part → IsCommittedAt world by.stamp part

-- a participant has discarded the stamp, and had not prepared it before
pub record IsPromisedSomewhere (terms : Terms) (world : World) (by : Transaction) : Type 0 where
  pub part : ℕ
  pub of : Contains (parts_of terms by) part
  pub promised : IsPromisedAgainst (history world part) by.stamp
