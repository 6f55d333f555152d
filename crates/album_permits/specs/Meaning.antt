-- What a ruling and its notes mean, what a grant means, and what it lets be written.
use Rattle.std.specs.Prelude.{◌≡◌, ℕ, List, ◌++◌, Bool, not, ◌&&◌, ◌==◌, Contains, map, filter}
use Rattle.std.specs.List.{list_all, list_any, flat_map}
use Rattle.album_access.specs.declared.masks.Mask.{Mask}
use Rattle.album_items.specs.Values.{list_of}
use Rattle.album_items.specs.declared.values.Value.{Value}
use Rattle.album_views.specs.Asks.{made_by}
use Rattle.album_views.specs.declared.asks.Ask.{Ask}
use Rattle.album_views.specs.declared.asks.NewList.{NewList}
use Rattle.album_views.specs.declared.asks.NewMembership.{NewMembership}
use Rattle.album_listing.specs.Basis.{Basis, IsBasis}
use Rattle.album_listing.specs.Masks.{READ_DATA, READ_ATTRIBUTES, READ_ACL}
use Rattle.album_listing.specs.Reasons.{is_granted_on}
use Rattle.album_listing.specs.declared.reasons.Alternative.{Alternative}
use Rattle.album_permits.specs.Findings.{is_missing, ruling_of}
use Rattle.album_permits.specs.Needs.{needs_of}
use Rattle.album_permits.specs.Notes.{notes_of}
use Rattle.album_permits.specs.Permits.{PermitState}
use Rattle.album_permits.specs.declared.findings.Finding.{Finding}
use Rattle.album_permits.specs.declared.notes.Note.{Note}

-- ---- what is ruled

-- The written policy finds this. The case is a view, a principal and a policy, as a permit would hold them.
pub record Finds (case : PermitState) (finding : Finding) : Type 0 where
  pub basis : Basis
  pub based : IsBasis case.policy case.principal case.view.rows basis
  pub is : ruling_of basis case.view.ask ≡ finding

-- and these are its notes
pub record Notes (case : PermitState) (notes : List Note) : Type 0 where
  pub basis : Basis
  pub based : IsBasis case.policy case.principal case.view.rows basis
  pub is : notes_of basis case.view.ask ≡ notes

-- ---- what a grant means

-- a need is met: each of its objects is there, and one of its alternatives is granted
abbrev pub is_need_met : Basis → List Alternative → Bool
is_need_met basis need =
    list_all (λ (a : Alternative). not (is_missing basis a.object)) need
    && list_any (λ (a : Alternative). is_granted_on basis a.object a.mask) need

-- each need of an ask is met
abbrev pub has_needs_met : Basis → Ask → Bool
has_needs_met basis ask = list_all (is_need_met basis) (needs_of basis.seen ask)

-- ---- what may be written

-- who has the mask may do more than read
abbrev pub is_of_change : Mask → Bool
is_of_change mask = not (mask.0 == READ_DATA.0) && not (mask.0 == READ_ATTRIBUTES.0) && not (mask.0 == READ_ACL.0)

-- the objects on which an ask needs more than a right to read
abbrev pub objects_changed : (ℕ → Value) → Ask → List ℕ
objects_changed seen ask =
    map (λ (a : Alternative). a.object)
    (filter (λ (a : Alternative). is_of_change a.mask) (flat_map (λ need. need) (needs_of seen ask)))

-- What an ask may write at a stamp: the new object with its list, if it makes one. Also an object on which it
-- needs more than a right to read, and the list of that object.
pub data MayWrite (seen : ℕ → Value) (stamp : ℕ) (ask : Ask) : ℕ → Type 0 where
  New :
      (item : ℕ) → Contains (made_by ask stamp) item → MayWrite seen stamp ask item
  Object : (object : ℕ) → Contains (objects_changed seen ask) object → MayWrite seen stamp ask object
  ListOf :
      (object item : ℕ) → Contains (objects_changed seen ask) object → Contains (list_of (seen object)) item
      → MayWrite seen stamp ask item

-- the items that a share writes: the list of each of its objects, and each of its groups
abbrev pub items_shared : (ℕ → Value) → List NewList → List NewMembership → List ℕ
items_shared seen lists members =
    flat_map (λ (new : NewList). list_of (seen new.object)) lists
    ++ map (λ (new : NewMembership). new.object) members
