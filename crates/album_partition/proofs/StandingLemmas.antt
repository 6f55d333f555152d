-- The set of pending stamps agrees with the state of each stamp.
use Rattle.std.proofs.Common.{◌≡◌, ℕ, Bool, true, false, not, cond, List, Some, refl, sym, ap, ◌∙◌, subst, Contains}
use Rattle.std.specs.BTreeMap.{is_at}
use Rattle.std.specs.BTreeSet.{BTreeSet, contains}
use Rattle.std.specs.Ordering.{nat_cmp}
use Rattle.std.specs.Cmp.{Equal-is}
use Rattle.std.specs.List.Sorted.{IsStrictlySortedBy}
use Rattle.std.proofs.lemmas.Cmp.{nat_cmp_total}
use Rattle.std.proofs.lemmas.Map.Lookups.{exact_unsigned}
use Rattle.std.proofs.lemmas.Map.Views.{btree_set_contains_iff}
use Rattle.album_partition.specs.declared.standings.Standing.{Standing}
use Rattle.album_partition.specs.Standings.{standing_in, stands_pending, AreInSet, ArePendingIn, IsSetTo}

-- the set has a stamp from then on, or has it no more, and each other as before
abbrev pub IsSetIn : ℕ → Bool → BTreeSet ℕ → BTreeSet ℕ → Type 0
IsSetIn stamp has old new = (q : ℕ) → contains nat_cmp new q ≡ cond (is_at (nat_cmp stamp) q) has (contains nat_cmp old q)

-- both change alike
pub set_with : (old new : List (ℕ × Standing)) (set next : BTreeSet ℕ) (stamp : ℕ) (to : Standing)
    → AreInSet old set → IsSetIn stamp (stands_pending (Some to)) set next → IsSetTo stamp to old new → AreInSet new next
set_with old new set next stamp to h up is t =
    up t ∙ by (is_at (nat_cmp stamp) t) ∙ ap stands_pending (sym (is t))
  where
    by : (b : Bool) → cond b (stands_pending (Some to)) (contains nat_cmp set t)
        ≡ stands_pending (cond b (Some to) (standing_in old t))
    by true = refl
    by false = h t

-- what was new in the set and is taken away again leaves it as it was
pub taken_back : (old : List (ℕ × Standing)) (set next last : BTreeSet ℕ) (stamp : ℕ)
    → AreInSet old set → contains nat_cmp set stamp ≡ false
    → IsSetIn stamp true set next → IsSetIn stamp false next last → AreInSet old last
taken_back old set next last stamp h new up down t =
    down t ∙ ap (λ (b : Bool). cond (is_at (nat_cmp stamp) t) false b) (up t) ∙ by (is_at (nat_cmp stamp) t) refl ∙ h t
  where
    by : (b : Bool) → is_at (nat_cmp stamp) t ≡ b
        → cond b false (cond b true (contains nat_cmp set t)) ≡ contains nat_cmp set t
    by true e = sym (subst (λ (q : ℕ). contains nat_cmp set q ≡ false)
        (exact_unsigned stamp t ((Equal-is (nat_cmp stamp t)).0 e)) new)
    by false e = refl

-- a stamp that was added was not there
pub was_new : (b : Bool) → true ≡ not b → b ≡ false
was_new true e = absurd (cc)
was_new false e = refl

-- the keys of the set are the pending stamps
pub listed : (standings : List (ℕ × Standing)) (set : BTreeSet ℕ) (stamps : List ℕ)
    → AreInSet standings set → IsStrictlySortedBy nat_cmp set.keys → stamps ≡ set.keys → ArePendingIn standings stamps
listed standings set stamps h ordered same = record {
  pending = λ t. (
    (λ (c : Contains stamps t).
        sym (h t) ∙ (btree_set_contains_iff nat_cmp_total exact_unsigned set t).1 (subst (λ (ts : List ℕ). Contains ts t) same c)),
    (λ e. subst (λ (ts : List ℕ). Contains ts t) (sym same)
        ((btree_set_contains_iff nat_cmp_total exact_unsigned set t).0 (h t ∙ e))),
  );
  rising = subst (λ (ts : List ℕ). IsStrictlySortedBy nat_cmp ts) (sym same) ordered;
}
