-- Views are read atomic: no transaction is seen by halves.
use Rattle.std.specs.Prelude.{◌≡◌, ◌≤◌, List, Some, Contains}
use Rattle.album_items.specs.declared.openings.Opening.{Opening}
use Rattle.album_partition.specs.Marks.{value_in, first_value}
use Rattle.album_reader.specs.Answers.{ReadVersion}
use Rattle.album_reader.specs.Atomic.{KnownWrites, IsReadAtomic}
use Rattle.album_views.specs.Seen.{seen}
use Rattle.album_views.specs.declared.asks.Ask.TheVariants.{Share}
use Rattle.album_views.specs.declared.asks.NewList.{NewList}
use Rattle.album_views.specs.declared.asks.NewMembership.{NewMembership}
use Rattle.album_permits.specs.Meaning.{items_shared}
use Rattle.album_client.specs.Steps.{Transaction}
use Rattle.album_world.specs.Past.{Read, World}
use Rattle.album_world.specs.Committing.{IsCommitted}

-- a transaction that was begun
pub record PastTransaction (world : World) : Type 0 where
  pub by : Transaction
  pub begun : Contains world.past.transactions by

-- the writes that a world knows: each transaction of its past has its own
abbrev pub writes_in_world : World → KnownWrites
writes_in_world world = record {
  Transaction = PastTransaction world;
  stamp = λ past. past.by.stamp;
  value = λ past item. value_in past.by.writes item;
  IsCommitted = IsCommitted world;
}

-- each snapshot that a client ever finished is read atomic, and so each view
abbrev pub ViewsAreReadAtomic : Opening → World → Type 0
ViewsAreReadAtomic opening world =
    (read : Read) (rows : List ReadVersion) → Contains world.past.reads read → read.rows ≡ Some rows
    → IsReadAtomic (writes_in_world world) (first_value opening.items) rows

-- the write of a share that was begun: new lists of objects, and new members of groups, at one stamp
pub record IsShare
    (world : World) (by : Transaction) (lists : List NewList) (members : List NewMembership) : Type 0 where
  pub begun : Contains world.past.transactions by
  pub asked : by.permit.view.ask ≡ Share lists members

-- No snapshot that a client ever finished, and so no view, holds a part of a share: where it has one of the share's
-- lists or groups as the share wrote it, it has no other as it was before.
abbrev pub NoViewHoldsAPartOfAShare : World → Type 0
NoViewHoldsAPartOfAShare world =
    (by : Transaction) (lists : List NewList) (members : List NewMembership) (read : Read) (rows : List ReadVersion)
    (one other : ReadVersion)
    → IsShare world by lists members → Contains world.past.reads read → read.rows ≡ Some rows
    → Contains rows one → Contains (items_shared (seen by.permit.view.rows) lists members) one.item
    → Contains rows other → Contains (items_shared (seen by.permit.view.rows) lists members) other.item
    → one.stamp ≡ by.stamp → by.stamp ≤ other.stamp
