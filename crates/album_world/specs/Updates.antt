-- No update is lost in a checked world: each version is made on the one that its author saw.
use Rattle.std.specs.Prelude.{◌≡◌, ℕ, ◌<◌, true, is_some, Contains}
use Rattle.album_items.specs.ItemIds.{place_of}
use Rattle.album_items.specs.declared.openings.Opening.{Opening}
use Rattle.album_terminate.specs.declared.deciding.StampState.TheVariants as state
use Rattle.album_partition.specs.Bases.{IsMadeOn}
use Rattle.album_partition.specs.Marks.{state_of, value_in, has_version, latest}
use Rattle.album_listing.specs.ViewLookups.{stamp_seen}
use Rattle.album_client.specs.Terms.{Terms, terms_of}
use Rattle.album_client.specs.Steps.{Transaction}
use Rattle.album_world.specs.Past.{World}
use Rattle.album_world.specs.Committing.{history}

-- the item's version at the stamp is pending at its partition
pub record IsPendingFor (terms : Terms) (world : World) (item stamp : ℕ) : Type 0 where
  pub pending : state_of (history world (place_of terms.parts item)) stamp ≡ state.Pending
  pub there : has_version (history world (place_of terms.parts item)) item stamp ≡ true

-- the item's version at the stamp is committed at its partition
pub record IsCommittedFor (terms : Terms) (world : World) (item stamp : ℕ) : Type 0 where
  pub committed : state_of (history world (place_of terms.parts item)) stamp ≡ state.Committed
  pub there : has_version (history world (place_of terms.parts item)) item stamp ≡ true

-- The item's version at the stamp is that of a write that was begun. It was made on the version that the view of this
-- write shows, which is the next one below.
pub record IsMadeOnItsView (terms : Terms) (world : World) (item stamp : ℕ) : Type 0 where
  pub by : Transaction
  pub begun : Contains world.past.transactions by
  pub stamp_is : by.stamp ≡ stamp
  pub wrote : is_some (value_in by.writes item) ≡ true
  pub on : IsMadeOn (history world (place_of terms.parts item)) item stamp (stamp_seen by.permit.view.rows item)

-- Of each item at most one version is pending, above the latest. Each committed version was made on the one that the
-- view of its own write shows.
pub record LosesNoUpdate (terms : Terms) (world : World) : Type 0 where
  pub one_pending : (item t u : ℕ) → IsPendingFor terms world item t → IsPendingFor terms world item u → t ≡ u
  pub above : (item t : ℕ) → IsPendingFor terms world item t
      → latest (history world (place_of terms.parts item)) item < t
  pub made_on : (item t : ℕ) → IsCommittedFor terms world item t → IsMadeOnItsView terms world item t

-- so it is in a world that opened checked
abbrev pub NoUpdateIsLost : Opening → World → Type 0
NoUpdateIsLost opening world = opening.checked ≡ true → LosesNoUpdate (terms_of opening) world
