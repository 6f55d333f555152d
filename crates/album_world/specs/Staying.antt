-- What is committed stays: what a later version of an item has of an earlier one, by the writes in between.
use Rattle.std.specs.Prelude.{◌≡◌, ◌⊎◌, ℕ, ◌<◌, ◌≤◌, Bool, IsTrue, List, Some, Contains}
use Rattle.album_lists.specs.declared.whos.Member.{Member}
use Rattle.album_items.specs.ItemIds.{place_of}
use Rattle.album_items.specs.Values.{list_of}
use Rattle.album_items.specs.declared.openings.Opening.{Opening}
use Rattle.album_items.specs.declared.values.Value.{Value}
use Rattle.album_partition.specs.Marks.{value_in, first_value, version}
use Rattle.album_views.specs.Seen.{seen}
use Rattle.album_views.specs.declared.asks.Ask.{Ask}
use Rattle.album_views.specs.declared.asks.Ask.TheVariants as ask
use Rattle.album_views.specs.declared.asks.NewList.{NewList}
use Rattle.album_views.specs.declared.asks.NewMembership.{NewMembership}
use Rattle.album_listing.specs.ViewLookups.{stamp_seen}
use Rattle.album_client.specs.Terms.{Terms, terms_of}
use Rattle.album_client.specs.Steps.{Transaction}
use Rattle.album_world.specs.Past.{World}
use Rattle.album_world.specs.Committing.{history, IsCommitted}

-- some partition has committed the stamp, and this value is the item's version there
pub record IsCommittedAs (terms : Terms) (world : World) (item stamp : ℕ) (value : Value) : Type 0 where
  pub committed : IsCommitted world stamp
  pub is : version (history world (place_of terms.parts item)) item stamp ≡ Some value

-- the value is the item's version at the stamp: the opening's at 0, or one that is committed
abbrev pub IsVersion : Opening → World → ℕ → ℕ → Value → Type 0
IsVersion opening world item stamp value =
    ((stamp ≡ 0) × (value ≡ first_value opening.items item)) ⊎ IsCommittedAs (terms_of opening) world item stamp value

-- two versions of the item, the first one and one that is no earlier
pub record IsLaterVersion (opening : Opening) (world : World) (item first last : ℕ) (was is : Value) : Type 0 where
  pub earlier : IsVersion opening world item first was
  pub later : IsVersion opening world item last is
  pub order : first ≤ last

-- what the transaction wrote is committed, item by item
abbrev pub IsKeptWhole : Terms → World → Transaction → Type 0
IsKeptWhole terms world by =
    (item : ℕ) (value : Value) → value_in by.writes item ≡ Some value → IsCommittedAs terms world item by.stamp value

-- ---- from one version to a later one

-- The first version is made from itself. Another one is made from it where a transaction wrote it whose view shows, at
-- a smaller stamp, a version that is made from the first one.
pub data IsMadeFrom (terms : Terms) (world : World) (item first : ℕ) (was : Value) : ℕ → Value → Type 0 where
  Same : IsMadeFrom terms world item first was first was
  Written :
      (by : Transaction) (is : Value) → Contains world.past.transactions by → value_in by.writes item ≡ Some is
      → IsCommittedAs terms world item by.stamp is
      → stamp_seen by.permit.view.rows item < by.stamp
      → IsMadeFrom terms world item first was (stamp_seen by.permit.view.rows item) (seen by.permit.view.rows item)
      → IsMadeFrom terms world item first was by.stamp is

-- The transaction was begun, and its value of the item is committed. Its stamp is above the first, at most the last.
pub record IsBetween (terms : Terms) (world : World) (item first last : ℕ) (by : Transaction) (is : Value)
    : Type 0 where
  pub begun : Contains world.past.transactions by
  pub wrote : value_in by.writes item ≡ Some is
  pub committed : IsCommittedAs terms world item by.stamp is
  pub above : first < by.stamp
  pub within : by.stamp ≤ last

-- Each of these transactions keeps the property: where what its view shows of the item has it, what it writes has it.
abbrev pub IsKeptBetween : Terms → World → (Value → Type 0) → ℕ → ℕ → ℕ → Type 0
IsKeptBetween terms world Property item first last =
    (by : Transaction) (is : Value) → IsBetween terms world item first last by is
    → Property (seen by.permit.view.rows item) → Property is

-- the value passes the test
abbrev pub Passes : (Value → Bool) → Value → Type 0
Passes test value = IsTrue (test value)

-- none of these transactions does this
abbrev pub NoneBetween : Terms → World → (Transaction → Type 0) → ℕ → ℕ → ℕ → Type 0
NoneBetween terms world Does item first last =
    (by : Transaction) (is : Value) → IsBetween terms world item first last by is → ¬ Does by

-- ---- what an ask may do to what was written before

-- it deletes or moves the child of an album, or the picture of a home
pub data TakesOut (child : ℕ) : Ask → Type 0 where
  Deletes : TakesOut child (ask.Delete child)
  Moves : (to : ℕ) → TakesOut child (ask.Move child to)

-- it deletes the object, or gives it a title
pub data SetsTitle (object : ℕ) : Ask → Type 0 where
  Deletes : SetsTitle object (ask.Delete object)
  Retitles : (title : List ℕ) → SetsTitle object (ask.Retitle object title)

-- it deletes the object, or gives it a content
pub data SetsContent (object : ℕ) : Ask → Type 0 where
  Deletes : SetsContent object (ask.Delete object)
  Replaces : (content : List ℕ) → SetsContent object (ask.Replace object content)

-- it deletes the object, or gives it an owner
pub data HandsOver (object : ℕ) : Ask → Type 0 where
  Deletes : HandsOver object (ask.Delete object)
  SetsOwner : (owner : List ℕ) (group : ℕ) → HandsOver object (ask.SetOwner object owner group)

-- it deletes an object whose list this is, or sets that list, alone or in a share
pub data SetsList (seen : ℕ → Value) (item : ℕ) : Ask → Type 0 where
  Deletes : (object : ℕ) → Contains (list_of (seen object)) item → SetsList seen item (ask.Delete object)
  Sets :
      (lists : List NewList) (new : NewList) → Contains lists new → Contains (list_of (seen new.object)) item
      → SetsList seen item (ask.SetLists lists)
  Shares :
      (lists : List NewList) (members : List NewMembership) (new : NewList) → Contains lists new
      → Contains (list_of (seen new.object)) item → SetsList seen item (ask.Share lists members)

-- it sets the members of the group, alone or in a share
pub data SetsMembers (group : ℕ) : Ask → Type 0 where
  Sets : (members : List Member) → SetsMembers group (ask.SetMembers group members)
  Shares :
      (lists : List NewList) (members : List NewMembership) (new : NewMembership) → Contains members new
      → new.object ≡ group → SetsMembers group (ask.Share lists members)
