-- What it is for a read to be read atomic, and fresh, over whatever knows what was written: a world's past, or a cut.
use Rattle.std.specs.Prelude.{◌≡◌, ℕ, ◌<◌, ◌≤◌, true, ◌⊎◌, List, Contains, Option, Some, is_some}
use Rattle.album_items.specs.declared.values.Value.{Value}
use Rattle.album_reader.specs.Answers.{ReadVersion}

-- The transactions that are known: the stamp of each, the value that it wrote to an item, if it wrote it, and which
-- stamps are committed.
pub record KnownWrites : Type 1 where
  pub Transaction : Type 0
  pub stamp : Transaction → ℕ
  pub value : Transaction → ℕ → Option Value
  pub IsCommitted : ℕ → Type 0

-- ---- read atomic

-- a committed transaction wrote both items, and one is read at its stamp, and the other at a smaller one
pub record IsFracturedBy (known : KnownWrites) (one other : ReadVersion) : Type 0 where
  pub by : known.Transaction
  pub committed : known.IsCommitted (known.stamp by)
  pub wrote_one : is_some (known.value by one.item) ≡ true
  pub wrote_other : is_some (known.value by other.item) ≡ true
  pub at : one.stamp ≡ known.stamp by
  pub older : other.stamp < known.stamp by

-- a committed transaction wrote the value to the item at the stamp
pub record IsWrittenBy (known : KnownWrites) (row : ReadVersion) : Type 0 where
  pub by : known.Transaction
  pub committed : known.IsCommitted (known.stamp by)
  pub at : known.stamp by ≡ row.stamp
  pub wrote : known.value by row.item ≡ Some row.value

-- the row is its item's first value at 0, or what a committed transaction wrote
abbrev pub IsWritten : KnownWrites → (ℕ → Value) → ReadVersion → Type 0
IsWritten known first row = ((row.stamp ≡ 0) × (row.value ≡ first row.item)) ⊎ IsWrittenBy known row

-- no two rows fracture the snapshot, and each was written
pub record IsReadAtomic (known : KnownWrites) (first : ℕ → Value) (rows : List ReadVersion) : Type 0 where
  pub whole : (one other : ReadVersion) → Contains rows one → Contains rows other → IsFracturedBy known one other → ⊥
  pub written : (row : ReadVersion) → Contains rows row → IsWritten known first row

-- ---- fresh

-- the row's stamp is at least that of each transaction that wrote its item and that the item's partition had committed
abbrev pub IsFreshRow : KnownWrites → (ℕ → ℕ → Type 0) → ReadVersion → Type 0
IsFreshRow known WasCommittedFor row =
    (by : known.Transaction) → is_some (known.value by row.item) ≡ true → WasCommittedFor (known.stamp by) row.item
    → known.stamp by ≤ row.stamp

-- all rows are fresh, by the stamps that the partition of an item had committed
abbrev pub IsFreshFrom : KnownWrites → (ℕ → ℕ → Type 0) → List ReadVersion → Type 0
IsFreshFrom known WasCommittedFor rows =
    (row : ReadVersion) → Contains rows row → IsFreshRow known WasCommittedFor row
