-- To what the owner's way is gone: to nothing of which the ask needs more than the list (`grouped`), and else to what is
-- owned by who asks, by a policy that has that way (`owner-goes`).
use Rattle.std.proofs.Common.{◌≡◌, ◌&&◌, ℕ, Bool, true, false, Option, Some, None, if◌then◌else◌, refl}
use Rattle.std.proofs.lemmas.Bool.{and_parts}
use Rattle.album_eval.specs.Policies.{has_owners_way}
use Rattle.album_eval.specs.declared.facts.Principal.{Principal}
use Rattle.album_eval.specs.declared.policies.Policy.{Policy}
use Rattle.album_items.specs.declared.values.Value.{Value}
use Rattle.album_views.specs.Asks.{needs_list_alone}
use Rattle.album_views.specs.ReadSets.{looker_of, is_owned_by, is_groupless}
use Rattle.album_views.specs.declared.asks.Ask.{Ask}

pub grouped :
    (seen : ℕ → Value) (looker : Option Principal) (ask : Ask) (item : ℕ) → needs_list_alone ask item ≡ false
    → is_groupless seen looker ask item ≡ false
grouped seen None ask item more = refl
grouped seen (Some principal) ask item more = rw more (neither (is_owned_by principal (seen item)))
  where
    neither : (b : Bool) → (b && false) ≡ false
    neither true = refl
    neither false = refl

pub owner-goes :
    (policy : Policy) (me : Principal) (seen : ℕ → Value) (ask : Ask) (item : ℕ)
    → is_groupless seen (looker_of policy me) ask item ≡ true
    → (has_owners_way policy ≡ true) × (is_owned_by me (seen item) ≡ true) × (needs_list_alone ask item ≡ true)
owner-goes policy me seen ask item goes = go (has_owners_way policy) goes
  where
    go :
        (b : Bool) → is_groupless seen (if b then Some me else None) ask item ≡ true
        → (b ≡ true) × (is_owned_by me (seen item) ≡ true) × (needs_list_alone ask item ≡ true)
    go true e = let both = and_parts (is_owned_by me (seen item)) (needs_list_alone ask item) e in (refl, both.0, both.1)
    go false e = absurd (cc)
