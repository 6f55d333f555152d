-- What a session has written: each stamp of its client that is announced is of a write that was granted.
use Rattle.std.specs.Prelude.{◌≡◌, ◌<◌, ◌≤◌, ℕ, true, All, Contains, Option, Some, None}
use Rattle.album_stamps.specs.Stamps.{client_number}
use Rattle.album_items.specs.declared.values.Value.{Value}
use Rattle.album_eval.specs.declared.facts.Principal.{Principal}
use Rattle.album_eval.specs.declared.policies.Policy.{Policy}
use Rattle.album_terminate.specs.declared.deciding.StampState.TheVariants as state
use Rattle.album_partition.specs.Bases.{IsMadeOn}
use Rattle.album_partition.specs.Marks.{state_of}
use Rattle.album_passes.specs.Cuts.{Cut, Announced, Announcement, prefix_for, announced_for, Extends}
use Rattle.album_listing.specs.ViewLookups.{stamp_seen}
use Rattle.album_permits.specs.Effects.{effect_of}
use Rattle.album_permits.specs.Meaning.{Finds}
use Rattle.album_permits.specs.Permits.{PermitState}
use Rattle.album_permits.specs.declared.findings.Finding.TheVariants.{Granted}
use Rattle.album_grounds.specs.Grounds.{IsOnView, write_of}
use Rattle.album_views.specs.declared.asks.Ask.{Ask}

-- the policy grants the permit; the stamp is above all that was read for it; and this is all that it writes, value by
-- value, each on the base that its view shows
pub record IsPermitFor (stamp : ℕ) (announced : Announced) (permit : PermitState) : Type 0 where
  pub granted : Finds permit Granted
  pub above : All (λ row. row.stamp < stamp) permit.view.rows
  pub writes : announced ≡ write_of permit stamp

-- Some principal asked for something on a view that was read between two cuts, the later of which this cut extends. The
-- property holds of the permit.
pub record IsAskedFor (policy : Policy) (cut : Cut) (Holds : PermitState → Type 0) : Type 0 where
  pub principal : Principal
  pub ask : Ask
  pub begun : Cut
  pub then : Cut
  pub since : Extends then cut
  pub permitted : IsOnView begun then policy principal ask Holds

-- what is announced is a write that was asked for and granted
abbrev pub IsGrantedWrite : Policy → Cut → ℕ → Announced → Type 0
IsGrantedWrite policy cut stamp announced = IsAskedFor policy cut (IsPermitFor stamp announced)

-- what is to be announced, if there is something, is of a write that was granted
abbrev pub IsGrantedFor : Policy → Cut → Option Announcement → Type 0
IsGrantedFor policy cut None = Unit {0}
IsGrantedFor policy cut (Some (stamp, announced)) = IsGrantedWrite policy cut stamp announced

-- so is all that is announced for the stamps of the client
abbrev pub AreGranted : Policy → ℕ → Cut → Type 0
AreGranted policy client cut = (stamp : ℕ) (announced : Announced) → client_number stamp ≡ client
    → announced_for cut stamp ≡ Some announced → IsGrantedWrite policy cut stamp announced

-- ---- what follows: what is kept was asked for

-- The policy grants the permit, whose ask writes this value to the item at the stamp. In a checked store the version
-- was made, where it is committed, on the one that the permit's view shows.
pub record IsEffectOn (cut : Cut) (stamp item : ℕ) (value : Value) (permit : PermitState) : Type 0 where
  pub granted : Finds permit Granted
  pub written : Contains (effect_of permit stamp) (item, value)
  pub based : cut.checked ≡ true → state_of (prefix_for cut item) stamp ≡ state.Committed
      → IsMadeOn (prefix_for cut item) item stamp (stamp_seen permit.view.rows item)

-- the value that the item has at the stamp was asked for and granted
abbrev pub IsAsAsked : Policy → Cut → ℕ → ℕ → Value → Type 0
IsAsAsked policy cut stamp item value = IsAskedFor policy cut (IsEffectOn cut stamp item value)

-- the same, on a view that shows the item at the earlier stamp, or newer
abbrev pub IsAskedKnowing : Policy → Cut → ℕ → ℕ → ℕ → Value → Type 0
IsAskedKnowing policy cut earlier stamp item value =
    IsAskedFor policy cut
    (λ permit. IsEffectOn cut stamp item value permit × (earlier ≤ stamp_seen permit.view.rows item))
