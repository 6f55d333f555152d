-- What is committed stays in the cuts of a service: what a later version of an item has of an earlier one, by the
-- granted writes in between.
use Rattle.std.specs.Prelude.{◌≡◌, ◌⊎◌, ℕ, ◌<◌, ◌≤◌, true, List, Some}
use Rattle.std.specs.List.{list_all}
use Rattle.album_eval.specs.declared.facts.Principal.{Principal}
use Rattle.album_eval.specs.declared.policies.Policy.{Policy}
use Rattle.album_items.specs.ItemIds.{picture, album}
use Rattle.album_items.specs.Openings.{is_low_row}
use Rattle.album_items.specs.Values.{head_of}
use Rattle.album_items.specs.declared.values.Head.{Head}
use Rattle.album_items.specs.declared.values.Value.{Value}
use Rattle.album_partition.specs.Marks.{first_value, value_in}
use Rattle.album_passes.specs.Cuts.{Cut, Announced, announced_for, IsSound}
use Rattle.album_passes.specs.Reads.{IsCommittedFor, written_value}
use Rattle.album_views.specs.Seen.{seen}
use Rattle.album_views.specs.declared.asks.Ask.{Ask}
use Rattle.album_views.specs.declared.asks.Ask.TheVariants as ask
use Rattle.album_listing.specs.ViewLookups.{stamp_seen}
use Rattle.album_permits.specs.Effects.{effect_of}
use Rattle.album_permits.specs.Meaning.{Finds}
use Rattle.album_permits.specs.Permits.{PermitState}
use Rattle.album_permits.specs.declared.findings.Finding.TheVariants.{Granted}
use Rattle.album_grounds.specs.Grounds.{IsOnView, IsKept}
use Rattle.album_grounds.specs.Granted.{IsGrantedWrite, IsAskedFor, IsEffectOn}

-- ---- the cut of a service

-- each stamp that is announced is of a write that was granted
abbrev pub AllGranted : Policy → Cut → Type 0
AllGranted policy cut = (stamp : ℕ) (announced : Announced) → announced_for cut stamp ≡ Some announced
    → IsGrantedWrite policy cut stamp announced

-- Each number that the opening has or names is at most this one, and each stamp that is announced is above it. So an
-- object that is made, whose number is its stamp, is none of the opening's.
pub record IsAboveItsOpening (cut : Cut) : Type 0 where
  pub greatest : ℕ
  pub low : list_all (is_low_row greatest) cut.opening ≡ true
  pub above : (stamp : ℕ) (announced : Announced) → announced_for cut stamp ≡ Some announced → greatest < stamp

-- A service that is checked has come to the cut: it is sound and above its opening, and all that is announced in it
-- was granted.
pub record IsOfCheckedService (policy : Policy) (cut : Cut) : Type 0 where
  pub sound : IsSound cut
  pub checked : cut.checked ≡ true
  pub above : IsAboveItsOpening cut
  pub granted : AllGranted policy cut

-- ---- the versions of an item

-- the item's own partition has committed the stamp, and this value is the item's version there
pub record IsCommittedAs (cut : Cut) (item stamp : ℕ) (value : Value) : Type 0 where
  pub committed : IsCommittedFor cut stamp item
  pub is : written_value cut item stamp ≡ Some value

-- the value is the item's version at the stamp: the opening's at 0, or one that is committed
abbrev pub IsVersion : Cut → ℕ → ℕ → Value → Type 0
IsVersion cut item stamp value =
    ((stamp ≡ 0) × (value ≡ first_value cut.opening item)) ⊎ IsCommittedAs cut item stamp value

-- two versions of the item, the first one and one that is no earlier
pub record IsLaterVersion (cut : Cut) (item first last : ℕ) (was is : Value) : Type 0 where
  pub earlier : IsVersion cut item first was
  pub later : IsVersion cut item last is
  pub order : first ≤ last

-- what the permit writes at the stamp is committed, item by item
abbrev pub IsKeptWhole : Cut → PermitState → ℕ → Type 0
IsKeptWhole cut permit stamp =
    (item : ℕ) (value : Value) → value_in (effect_of permit stamp) item ≡ Some value
    → IsCommittedAs cut item stamp value

-- ---- from one version to a later one

-- the version is committed, and was written for this permit: a principal asked for it and was granted it
pub record IsWriteOf (policy : Policy) (cut : Cut) (item stamp : ℕ) (value : Value) (permit : PermitState)
    : Type 0 where
  pub committed : IsCommittedAs cut item stamp value
  pub asked : IsAskedFor policy cut (λ granted. (granted ≡ permit) × IsEffectOn cut stamp item value granted)

-- The first version is made from itself. Another one is made from it where a granted write wrote it whose view shows,
-- at a smaller stamp, a version that is made from the first one.
pub data IsMadeFrom (policy : Policy) (cut : Cut) (item first : ℕ) (was : Value) : ℕ → Value → Type 0 where
  Same : IsMadeFrom policy cut item first was first was
  Written :
      (stamp : ℕ) (is : Value) (permit : PermitState) → IsWriteOf policy cut item stamp is permit
      → stamp_seen permit.view.rows item < stamp
      → IsMadeFrom policy cut item first was (stamp_seen permit.view.rows item) (seen permit.view.rows item)
      → IsMadeFrom policy cut item first was stamp is

-- Between the two stamps, above the first and at most the last, is a version that is committed. A principal asked for
-- it and was granted it, by a permit that does this.
pub record IsUndoneBetween
    (policy : Policy) (cut : Cut) (item first last : ℕ) (Does : PermitState → Type 0) : Type 0 where
  pub stamp : ℕ
  pub value : Value
  pub above : first < stamp
  pub within : stamp ≤ last
  pub committed : IsCommittedAs cut item stamp value
  pub asked : IsAskedFor policy cut (λ permit. IsEffectOn cut stamp item value permit × Does permit)

-- ---- an addition

-- The ask was granted on a view that was read between the two cuts, and the later one shows its write kept at the
-- stamp: an answer Committed rests on this.
abbrev pub IsAcknowledged : Policy → Cut → Cut → Principal → Ask → ℕ → Type 0
IsAcknowledged policy begun answered principal ask stamp =
    IsOnView begun answered policy principal ask (λ permit. Finds permit Granted × IsKept answered permit stamp)

-- the ask adds a child to an album: the object that it makes at the stamp, or the picture that it moves there
pub data Adds (stamp : ℕ) : Ask → (into child : ℕ) → Type 0 where
  Picture : (into : ℕ) (title content : List ℕ) → Adds stamp (ask.AddPicture into title content) into (picture stamp)
  Album : (into : ℕ) (title : List ℕ) → Adds stamp (ask.AddAlbum into title) into (album stamp)
  Moves : (object to : ℕ) → Adds stamp (ask.Move object to) to object

-- ---- what is set

-- the value has a head, with this owner and this head group
pub record IsOwnedBy (owner : List ℕ) (group : ℕ) (value : Value) : Type 0 where
  pub head : Head
  pub is : head_of value ≡ Some head
  pub owner_is : head.owner ≡ owner
  pub group_is : head.group ≡ group
