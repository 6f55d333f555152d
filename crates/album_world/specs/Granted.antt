-- Writes are granted: each was begun by a permit, and each version is of one of them.
use Rattle.std.specs.Prelude.{◌≡◌, ℕ, ◌≤◌, ◌<◌, IsTrue, List, Some, Contains}
use Rattle.album_stamps.specs.Stamps.{is_client, stamp_number}
use Rattle.album_items.specs.declared.values.Value.{Value}
use Rattle.album_partition.specs.Marks.{value_in, version}
use Rattle.album_permits.specs.Permits.{IsPermit}
use Rattle.album_permits.specs.Writes.{AreWrites}
use Rattle.album_views.specs.Views.{IsView}
use Rattle.album_reader.specs.Answers.{ReadVersion}
use Rattle.album_permits.specs.Permits.{permit_on}
use Rattle.album_client.specs.Terms.{Terms}
use Rattle.album_client.specs.Steps.{Transaction}
use Rattle.album_world.specs.State.{client_at}
use Rattle.album_world.specs.Past.{Read, World}
use Rattle.album_world.specs.Committing.{history}

-- the client's clock drew the stamp
pub record IsDrawnBy (world : World) (client stamp : ℕ) : Type 0 where
  pub counter : ℕ
  pub is : stamp ≡ stamp_number counter client
  pub known : IsTrue (is_client client)
  pub old : counter ≤ (client_at world.now.clients client).clock.counter

-- The client had made a read that is a view of its ask, and the ruling on the view is Granted. Its own clock drew the
-- stamp, which is greater than each stamp of the view. The transaction writes exactly what the ask writes at the stamp.
pub record IsGranted (terms : Terms) (world : World) (by : Transaction) : Type 0 where
  pub read : Read
  pub rows : List ReadVersion
  pub made : Contains world.past.reads read
  pub own : read.begun.client ≡ by.client
  pub shown : read.rows ≡ Some rows
  pub on : by.permit ≡ permit_on terms.policy read.principal read.ask rows
  pub view : IsView by.permit.view
  pub granted : IsPermit by.permit
  pub writes : AreWrites (record { permit = by.permit; stamp = by.stamp }) by.writes
  pub drawn : IsDrawnBy world by.client by.stamp
  pub later : (row : ReadVersion) → Contains rows row → row.stamp < by.stamp

-- exactly one transaction has the stamp, and it writes the value to the item
pub record IsOfOne (world : World) (item stamp : ℕ) (value : Value) : Type 0 where
  pub by : Transaction
  pub begun : Contains world.past.transactions by
  pub at : by.stamp ≡ stamp
  pub wrote : value_in by.writes item ≡ Some value
  pub alone : (other : Transaction) → Contains world.past.transactions other → other.stamp ≡ stamp → other ≡ by

-- Each write that was ever begun is granted, no two writes have one stamp, and each version that a partition has is of
-- exactly one write.
pub record WritesAreGranted (terms : Terms) (world : World) : Type 0 where
  pub granted : (by : Transaction) → Contains world.past.transactions by → IsGranted terms world by
  pub single :
      (one other : Transaction) → Contains world.past.transactions one → Contains world.past.transactions other
      → one.stamp ≡ other.stamp → one ≡ other
  pub versions :
      (part item stamp : ℕ) (value : Value) → version (history world part) item stamp ≡ Some value
      → IsOfOne world item stamp value
