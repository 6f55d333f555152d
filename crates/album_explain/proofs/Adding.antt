-- What the decisions on bits add up to, for the law `verdict_by_bits`. The main lemmas are `adds_up` and `only_verdict`.
use Rattle.std.proofs.Common.{◌≡◌, ◌≤◌, ◌&&◌, ◌⊎◌, ℕ, List, Bool, true, false, not, cond, Option, Some, None, IsSomeAnd, ◌<◌, length, get_or, arith, refl, sym, ◌∙◌, ap, inl, inr}
use Rattle.std.specs.List.{slice_get}
use Rattle.std.specs.Option.{option_map_or}
use Rattle.std.proofs.lemmas.Bool.{cases_Bool, and_parts, and_from, not-true, both_ways}
use Rattle.std.proofs.lemmas.Option.{slice_get_cases}
use Rattle.album_access.specs.Bits.{has_bit}
use Rattle.album_access.specs.declared.masks.Mask.{Mask}
use Rattle.album_access.specs.declared.types.AceType.{AceType}
use Rattle.album_access.specs.declared.types.AceType.TheVariants.{Allowed, Denied, Audit, Alarm}
use Rattle.album_lists.specs.declared.lists.Ace.{Ace}
use Rattle.album_eval.specs.declared.verdicts.Verdict.{Verdict}
use Rattle.album_eval.specs.declared.verdicts.Verdict.TheVariants as verdict
use Rattle.album_eval.specs.Matching.{Case, is_match}
use Rattle.album_eval.specs.Policies.{is_given}
use Rattle.album_eval.specs.Verdict.{is_asked, allows_or_denies, mentions, first_mention, IsSortAt, Denies, IsAllowed, IsVerdict, denies, is_denied_at}
use Rattle.album_eval.proofs.Asking.{at_mention, within_mention}
use Rattle.album_explain.specs.declared.decisions.Decision.TheVariants.{Given, AllowedBy, DeniedBy, DeniedAtEnd}
use Rattle.album_explain.specs.Decisions.{decision_by, decision, allows, HasDenied, AddsUp}

-- ---- the entry at an index

denied_sort : (s : AceType) → denies s ≡ true → s ≡ Denied
denied_sort Allowed e = absurd (cc)
denied_sort Denied e = refl
denied_sort Audit e = absurd (cc)
denied_sort Alarm e = absurd (cc)

sort_denies : (s : AceType) → s ≡ Denied → denies s ≡ true
sort_denies s e = ap denies e

allowed_sort : (s : AceType) → allows_or_denies s ≡ true → denies s ≡ false → s ≡ Allowed
allowed_sort Allowed d e = refl
allowed_sort Denied d e = absurd (cc)
allowed_sort Audit d e = absurd (cc)
allowed_sort Alarm d e = absurd (cc)

sort_allows : (s : AceType) → s ≡ Allowed → denies s ≡ false
sort_allows s e = ap denies e

denied_there : (entries : List Ace) (i : ℕ) → is_denied_at entries i ≡ true → IsSortAt Denied entries i
denied_there entries i = go (slice_get entries i)
  where
    go : (o : Option Ace) → option_map_or (λ (entry : Ace). denies entry.sort) o false ≡ true → IsSomeAnd o (λ entry. entry.sort ≡ Denied)
    go None e = absurd (cc)
    go (Some x) e = denied_sort x.sort e

there_denied : (entries : List Ace) (i : ℕ) → IsSortAt Denied entries i → is_denied_at entries i ≡ true
there_denied entries i = go (slice_get entries i)
  where
    go : (o : Option Ace) → IsSomeAnd o (λ entry. entry.sort ≡ Denied) → option_map_or (λ (entry : Ace). denies entry.sort) o false ≡ true
    go None e = absurd e
    go (Some x) e = sort_denies x.sort e

there_allowed : (entries : List Ace) (i : ℕ) → IsSortAt Allowed entries i → is_denied_at entries i ≡ false
there_allowed entries i = go (slice_get entries i)
  where
    go : (o : Option Ace) → IsSomeAnd o (λ entry. entry.sort ≡ Allowed) → option_map_or (λ (entry : Ace). denies entry.sort) o false ≡ false
    go None e = refl
    go (Some x) e = sort_allows x.sort e

sort_of_mention : (case : Case) (bit : ℕ) (x : Ace) → mentions case bit x ≡ true → allows_or_denies x.sort ≡ true
unfolding mentions
sort_of_mention case bit x m =
    let both = and_parts (is_match case x && allows_or_denies x.sort) (has_bit x.mask bit) m in
    (and_parts (is_match case x) (allows_or_denies x.sort) both.0).1

-- the first mention of a bit that doesn't deny it allows it
allowed_there : (case : Case) (bit : ℕ) (entries : List Ace) (i : ℕ) → first_mention case bit entries ≡ Some i → is_denied_at entries i ≡ false → IsSortAt Allowed entries i
allowed_there case bit entries i first isn't = go (slice_get_cases entries i).1
  where
    go : ((x : Ace) × (i < length entries) × (slice_get entries i ≡ Some x) × (get_or entries i x ≡ x)) ⊎ ((length entries ≤ i) × (slice_get entries i ≡ None)) → IsSortAt Allowed entries i
    go (inl p) =
        let m = at_mention case bit entries i p.0 first in
        let is : mentions case bit p.0 ≡ true = ap (mentions case bit) (sym p.3) ∙ m.1 in
        let silent = rw p.2 at isn't in
        rw p.2 (allowed_sort p.0.sort (sort_of_mention case bit p.0 is) silent)
    go (inr q) = let within = within_mention case bit entries i first in let past = q.0 in absurd (omega (arith, within, past))

-- ---- how a bit is decided, by what is given and what is mentioned first

module _ (case : Case) (entries : List Ace) (bit : ℕ) where
  given_decides : is_given case bit ≡ true → decision case entries bit ≡ Given
  unfolding decision
  given_decides given = rw given refl

  end_decides : is_given case bit ≡ false → first_mention case bit entries ≡ None → decision case entries bit ≡ DeniedAtEnd
  unfolding decision
  end_decides given first = rw (given, first) refl

  denial_decides : (i : ℕ) → is_given case bit ≡ false → first_mention case bit entries ≡ Some i → is_denied_at entries i ≡ true → decision case entries bit ≡ DeniedBy i
  unfolding decision
  denial_decides i given first denied = rw (given, first, denied) refl

  allowance_decides : (i : ℕ) → is_given case bit ≡ false → first_mention case bit entries ≡ Some i → is_denied_at entries i ≡ false → decision case entries bit ≡ AllowedBy i
  unfolding decision
  allowance_decides i given first allowed = rw (given, first, allowed) refl

  -- and back
  from_denial : (i : ℕ) → decision case entries bit ≡ DeniedBy i
      → (is_given case bit ≡ false) × (first_mention case bit entries ≡ Some i) × (is_denied_at entries i ≡ true)
  unfolding decision
  from_denial i = go (is_given case bit) (first_mention case bit entries)
    where
      by_entry : (k : ℕ) (b : Bool) → is_denied_at entries k ≡ b → cond b (DeniedBy k) (AllowedBy k) ≡ DeniedBy i → (k ≡ i) × (is_denied_at entries i ≡ true)
      by_entry k true is e = let same : k ≡ i = cc in (same, ap (is_denied_at entries) (sym same) ∙ is)
      by_entry k false is e = absurd (cc)

      go : (b : Bool) (o : Option ℕ) → cond b Given (decision_by entries o) ≡ DeniedBy i → (b ≡ false) × (o ≡ Some i) × (is_denied_at entries i ≡ true)
      go true o e = absurd (cc)
      go false None e = absurd (cc)
      go false (Some k) e = let there = by_entry k (is_denied_at entries k) refl e in (refl, ap (λ (n : ℕ). Some n) there.0, there.1)

  from_end : decision case entries bit ≡ DeniedAtEnd → (is_given case bit ≡ false) × (first_mention case bit entries ≡ None)
  unfolding decision
  from_end = go (is_given case bit) (first_mention case bit entries)
    where
      by_entry : (k : ℕ) (b : Bool) → cond b (DeniedBy k) (AllowedBy k) ≡ DeniedAtEnd → ⊥
      by_entry k true e = cc
      by_entry k false e = cc

      go : (b : Bool) (o : Option ℕ) → cond b Given (decision_by entries o) ≡ DeniedAtEnd → (b ≡ false) × (o ≡ None)
      go true o e = absurd (cc)
      go false None e = (refl, refl)
      go false (Some k) e = absurd (by_entry k (is_denied_at entries k) e)

  from_allowance : allows (decision case entries bit) ≡ true
      → (is_given case bit ≡ true) ⊎ ((i : ℕ) × (first_mention case bit entries ≡ Some i) × (is_denied_at entries i ≡ false))
  unfolding decision
  from_allowance = go (is_given case bit) (first_mention case bit entries)
    where
      by_entry : (k : ℕ) (b : Bool) → is_denied_at entries k ≡ b → allows (cond b (DeniedBy k) (AllowedBy k)) ≡ true → is_denied_at entries k ≡ false
      by_entry k true is e = absurd (cc)
      by_entry k false is e = is

      go : (b : Bool) (o : Option ℕ) → allows (cond b Given (decision_by entries o)) ≡ true → (b ≡ true) ⊎ ((i : ℕ) × (o ≡ Some i) × (is_denied_at entries i ≡ false))
      go true o e = inl refl
      go false None e = absurd (cc)
      go false (Some k) e = inr (k, refl, by_entry k (is_denied_at entries k) refl e)

-- ---- what is asked

asked_parts : (case : Case) (mask : Mask) (bit : ℕ) → is_asked case mask bit ≡ true → (has_bit mask bit ≡ true) × (is_given case bit ≡ false)
unfolding is_asked
asked_parts case mask bit asked =
    let both = and_parts (has_bit mask bit) (not (is_given case bit)) asked in
    (both.0, not-true (is_given case bit) both.1)

asked_from : (case : Case) (mask : Mask) (bit : ℕ) → has_bit mask bit ≡ true → is_given case bit ≡ false → is_asked case mask bit ≡ true
unfolding is_asked
asked_from case mask bit has given = and_from (has_bit mask bit) (not (is_given case bit)) has (rw given refl)

has_denied : (case : Case) (entries : List Ace) (mask : Mask) (i : ℕ) → Denies case entries mask i → HasDenied (decision case entries) mask i
has_denied case entries mask i d =
    let parts = asked_parts case mask d.bit d.asked in
    (d.bit, parts.0, denial_decides case entries d.bit i parts.1 d.first (there_denied entries i d.denied))

denies_from : (case : Case) (entries : List Ace) (mask : Mask) (i : ℕ) → HasDenied (decision case entries) mask i → Denies case entries mask i
denies_from case entries mask i h =
    let parts = from_denial case entries h.0 i h.2 in
    record { bit = h.0; asked = asked_from case mask h.0 h.1 parts.0; first = parts.1; denied = denied_there entries i parts.2 }

-- ---- the law

allowed_bit : (case : Case) (entries : List Ace) (bit : ℕ) → is_given case bit ≡ false
    → (o : Option ℕ) → first_mention case bit entries ≡ o → IsSomeAnd o (IsSortAt Allowed entries)
    → allows (decision case entries bit) ≡ true
allowed_bit case entries bit given None first there = absurd there
allowed_bit case entries bit given (Some i) first there =
    ap allows (allowance_decides case entries bit i given first (there_allowed entries i there))

bit_allowed : (case : Case) (entries : List Ace) (bit : ℕ) → is_given case bit ≡ false
    → (is_given case bit ≡ true) ⊎ ((i : ℕ) × (first_mention case bit entries ≡ Some i) × (is_denied_at entries i ≡ false))
    → IsAllowed case entries bit
bit_allowed case entries bit given (inl is) = absurd (both_ways (is_given case bit) given is)
bit_allowed case entries bit given (inr p) =
    let there = allowed_there case bit entries p.0 p.1 p.2 in
    let first = p.1 in
    rw first there

pub adds_up : (case : Case) (entries : List Ace) (mask : Mask) (v : Verdict) → IsVerdict case entries mask v → AddsUp (decision case entries) mask v
adds_up case entries mask verdict.Granted h = λ bit has. (elim (cases_Bool (is_given case bit)) [ inl given ↦ ap allows (given_decides case entries bit given) | inr given ↦ allowed_bit case entries bit given (first_mention case bit entries) refl (h bit (asked_from case mask bit has given)) ])
adds_up case entries mask (verdict.DeniedBy i) h =
    (has_denied case entries mask i h.0, λ k d. h.1 k (denies_from case entries mask k d))
adds_up case entries mask verdict.DeniedAtEnd h =
    let parts = asked_parts case mask h.1 h.2 in
    (λ k d. h.0 k (denies_from case entries mask k d), h.1, parts.0, end_decides case entries h.1 parts.1 h.3)

pub only_verdict : (case : Case) (entries : List Ace) (mask : Mask) (v : Verdict) → AddsUp (decision case entries) mask v → IsVerdict case entries mask v
only_verdict case entries mask verdict.Granted h = λ bit asked. (let parts = asked_parts case mask bit asked in bit_allowed case entries bit parts.1 (from_allowance case entries bit (h bit parts.0)))
only_verdict case entries mask (verdict.DeniedBy i) h =
    (denies_from case entries mask i h.0, λ k d. h.1 k (has_denied case entries mask k d))
only_verdict case entries mask verdict.DeniedAtEnd h =
    let parts = from_end case entries h.1 h.3 in
    (λ k d. h.0 k (has_denied case entries mask k d), h.1, asked_from case mask h.1 h.2 parts.0, parts.1)
