-- What an ask names a value for, and what it needs.
use Rattle.std.specs.Prelude.{◌≡◌, ℕ, List, Contains}
use Rattle.album_access.specs.declared.masks.Mask.{Mask}
use Rattle.album_items.specs.Values.{list_of}
use Rattle.album_items.specs.declared.values.Group.{Group}
use Rattle.album_items.specs.declared.values.Head.{Head}
use Rattle.album_items.specs.declared.values.Value.{Value}
use Rattle.album_items.specs.declared.values.Value.TheVariants as value
use Rattle.album_views.specs.declared.asks.NewList.{NewList}
use Rattle.album_views.specs.declared.asks.NewMembership.{NewMembership}
use Rattle.album_listing.specs.declared.reasons.Alternative.{Alternative}

-- the head of an object that gets another owner and another head group: its list stays
abbrev pub handed_over : List ℕ → ℕ → Head → Head
handed_over owner group head = record { owner = owner; group = group; list = head.list }

-- the item is the list of one of these objects, and has the entries that are asked for that object
pub record IsListAsked (seen : ℕ → Value) (lists : List NewList) (item : ℕ) (is : Value) : Type 0 where
  pub new : NewList
  pub named : Contains lists new
  pub whose : Contains (list_of (seen new.object)) item
  pub entries : is ≡ value.List new.list

-- the item is one of these groups: it has the members that are asked for it, and is otherwise as it was
pub record IsMembershipAsked (seen : ℕ → Value) (members : List NewMembership) (item : ℕ) (is : Value) : Type 0 where
  pub new : NewMembership
  pub named : Contains members new
  pub whose : item ≡ new.object
  pub group : (was : Group) → seen item ≡ value.Group was → is ≡ value.Group (record was { members = new.members })

-- the mask on the object is an alternative of one of these needs
pub record IsNeeded (needs : List (List Alternative)) (object : ℕ) (mask : Mask) : Type 0 where
  pub need : List Alternative
  pub listed : Contains needs need
  pub asked : Contains need (record { object = object; mask = mask })
