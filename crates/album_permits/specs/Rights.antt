-- What may be changed of an item by a permit, right by right.
use Rattle.std.specs.Prelude.{◌≡◌, ◌⊎◌, ℕ, List, Bool, false, Some, Option, ◌||◌, IsTrue, Contains}
use Rattle.std.specs.List.{list_any}
use Rattle.album_access.specs.declared.masks.Mask.{Mask}
use Rattle.album_lists.specs.declared.lists.Ace.{Ace}
use Rattle.album_lists.specs.declared.whos.Member.{Member}
use Rattle.album_items.specs.ItemIds.{kind_of}
use Rattle.album_items.specs.Values.{head_of, home_of, children_of, list_of}
use Rattle.album_items.specs.declared.values.Album.{Album}
use Rattle.album_items.specs.declared.values.Head.{Head}
use Rattle.album_items.specs.declared.values.Value.{Value}
use Rattle.album_items.specs.declared.values.Value.TheVariants as value
use Rattle.album_views.specs.Asks.{made_by}
use Rattle.album_views.specs.Seen.{seen}
use Rattle.album_listing.specs.GroupsFound.{basis_on}
use Rattle.album_listing.specs.Masks.{WRITE_DATA, ADD_FILE, ADD_SUBDIRECTORY, DELETE_CHILD, WRITE_ATTRIBUTES, DELETE, WRITE_ACL, WRITE_OWNER}
use Rattle.album_listing.specs.Reasons.{is_granted_on}
use Rattle.album_listing.specs.Fields.{title_field, content_field, members_field, album_home_field}
use Rattle.album_permits.specs.Effects.{effect_of}
use Rattle.album_permits.specs.Permits.{PermitState, IsPermit}

-- ---- what is granted

-- the principal of the permit is granted the mask on the object, by the permit's view
abbrev pub is_granted_to : PermitState → ℕ → Mask → Bool
is_granted_to permit object mask =
    is_granted_on (basis_on permit.policy permit.principal permit.view.rows) object mask

-- DELETE on the item, or DELETE_CHILD on its home
abbrev pub may_delete : PermitState → ℕ → Bool
may_delete permit item =
    is_granted_to permit item DELETE
    || list_any (λ home. is_granted_to permit home DELETE_CHILD) (home_of (seen permit.view.rows item))

-- the item may be deleted, or the object may whose list it is
pub record MayVanish (permit : PermitState) (item : ℕ) : Type 0 where
  pub object : ℕ
  pub whose : (object ≡ item) ⊎ Contains (list_of (seen permit.view.rows object)) item
  pub granted : IsTrue (may_delete permit object)

-- the item is the list of an object on which WRITE_ACL is granted
pub record MayBeSet (permit : PermitState) (item : ℕ) : Type 0 where
  pub object : ℕ
  pub whose : Contains (list_of (seen permit.view.rows object)) item
  pub granted : IsTrue (is_granted_to permit object WRITE_ACL)

-- ---- what is changed

-- the item is one that the ask makes at the stamp
abbrev pub IsNew : PermitState → ℕ → ℕ → Type 0
IsNew permit stamp item = Contains (made_by permit.view.ask stamp) item

-- by the permit an item that it does not make is to have this value
pub record IsRewritten (permit : PermitState) (stamp item : ℕ) (is : Value) : Type 0 where
  pub permitted : IsPermit permit
  pub written : Contains (effect_of permit stamp) (item, is)
  pub older : ¬ IsNew permit stamp item

-- What was and what is to be of an item differ only in what its rights grant: without the right to change it, a field
-- is as it was.
pub record IsGrantedChange (permit : PermitState) (item : ℕ) (was is : Value) : Type 0 where
  -- it is gone where it may be deleted
  pub gone : is ≡ value.Missing → MayVanish permit item
  -- it has new entries where WRITE_ACL is granted
  pub entries : (entries : List Ace) → is ≡ value.List entries → MayBeSet permit item
  -- by no right it has another list
  pub own_list : (number : ℕ) → Contains (list_of is) number → Contains (list_of was) number
  -- another owner or head group by WRITE_OWNER
  pub head :
      is_granted_to permit item WRITE_OWNER ≡ false → (head : Head) → head_of is ≡ Some head → head_of was ≡ Some head
  -- another title by WRITE_ATTRIBUTES
  pub title :
      is_granted_to permit item WRITE_ATTRIBUTES ≡ false → (title : List ℕ) → title_field is ≡ Some title
      → title_field was ≡ Some title
  -- another content, or other members, by WRITE_DATA
  pub content :
      is_granted_to permit item WRITE_DATA ≡ false → (content : List ℕ) → content_field is ≡ Some content
      → content_field was ≡ Some content
  pub members :
      is_granted_to permit item WRITE_DATA ≡ false → (members : List Member) → members_field is ≡ Some members
      → members_field was ≡ Some members
  -- a picture leaves its home where it may be deleted, for one on which ADD_FILE is granted; an album stays in its own
  pub home : may_delete permit item ≡ false → (home : ℕ) → Contains (home_of is) home → Contains (home_of was) home
  pub new_home :
      (home : ℕ) → is_granted_to permit home ADD_FILE ≡ false → Contains (home_of is) home
      → Contains (home_of was) home
  pub album_home : (home : Option ℕ) → album_home_field is ≡ Some home → album_home_field was ≡ Some home
  -- it gains a picture by ADD_FILE, and an album by ADD_SUBDIRECTORY
  pub picture_gained :
      is_granted_to permit item ADD_FILE ≡ false → (child : ℕ) → kind_of child ≡ 0 → Contains (children_of is) child
      → Contains (children_of was) child
  pub other_gained :
      is_granted_to permit item ADD_SUBDIRECTORY ≡ false → (child : ℕ) → ¬ (kind_of child ≡ 0)
      → Contains (children_of is) child → Contains (children_of was) child
  -- it loses a child by DELETE on the child, or by DELETE_CHILD on itself
  pub lost :
      is_granted_to permit item DELETE_CHILD ≡ false → (child : ℕ) → is_granted_to permit child DELETE ≡ false
      → (album : Album) → is ≡ value.Album album → Contains (children_of was) child → Contains album.children child
