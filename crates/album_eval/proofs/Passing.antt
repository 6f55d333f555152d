-- What holds before each entry in turn, and the verdict that follows, for the proof of `evaluate`. The main lemmas are
-- those that end in a verdict.
use Rattle.std.proofs.Common.{◌≡◌, ◌≤◌, ◌+◌, ◌&&◌, ◌==◌, ◌⊎◌, ℕ, List, Bool, true, false, not, bit_and, Option, Some, None, length, refl, sym, ◌∙◌, ap, arith, inl, inr}
use Rattle.std.specs.List.{slice_get}
use Rattle.std.proofs.lemmas.Bool.{cases_eq, cases_Bool, and_parts, and_cases, and_from, and_left, and_right, not-true, not-false, both_ways}
use Rattle.std.proofs.lemmas.Option.{get_or_from_slice_get}
use Rattle.album_access.specs.Bits.{mask_bits, has_bit}
use Rattle.album_access.specs.declared.masks.Mask.{Mask}
use Rattle.album_access.specs.declared.types.AceType.TheVariants.{Allowed, Denied}
use Rattle.album_lists.specs.declared.lists.Ace.{Ace}
use Rattle.album_eval.specs.declared.verdicts.Verdict.TheVariants.{Granted, DeniedBy, DeniedAtEnd}
use Rattle.album_eval.specs.Matching.{Case, is_match}
use Rattle.album_eval.specs.Policies.{is_given}
use Rattle.album_eval.specs.Verdict.{is_asked, first_mention, mentions, allows_or_denies, IsSortAt, Denies, IsVerdict}
use Rattle.album_eval.proofs.Asking.{bit_of_some, bit_of_none, bit_of_both, at_mention, within_mention, first_at, two_sorts}

-- before the entry at an index: what remains is asked, and first mentioned there or later; what doesn't is allowed
pub record Passes (case : Case) (entries : List Ace) (mask : Mask) (n : ℕ) (remaining : Mask) : Type 0 where
  pub remains : (bit : ℕ) → has_bit remaining bit ≡ true → (is_asked case mask bit ≡ true) × ((k : ℕ) → first_mention case bit entries ≡ Some k → n ≤ k)
  pub passed : (bit : ℕ) → is_asked case mask bit ≡ true → has_bit remaining bit ≡ false → (k : ℕ) × (first_mention case bit entries ≡ Some k) × IsSortAt Allowed entries k

-- the bits of a mask without those of another
abbrev pub IsWithout : Mask → Mask → Mask → Type 0
IsWithout mask other new = (bit : ℕ) → has_bit new bit ≡ (has_bit mask bit && not (has_bit other bit))

pub at_first : (case : Case) (entries : List Ace) (mask given remaining : Mask) → ((bit : ℕ) → has_bit given bit ≡ is_given case bit) → IsWithout mask given remaining → Passes case entries mask 0 remaining
unfolding is_asked
at_first case entries mask given remaining gives without = record {
  remains = λ bit has. (sym (same bit) ∙ has, λ k first. omega arith);
  passed = λ bit asked gone. absurd (both_ways (has_bit remaining bit) gone (same bit ∙ asked));
}
  where
    same : (bit : ℕ) → has_bit remaining bit ≡ (has_bit mask bit && not (is_given case bit))
    same bit = without bit ∙ ap (λ (b : Bool). has_bit mask bit && not b) (gives bit)

-- what the entry doesn't mention is first mentioned later
later : (case : Case) (entries : List Ace) (n : ℕ) (x : Ace) (bit : ℕ) → slice_get entries n ≡ Some x → mentions case bit x ≡ false → ((k : ℕ) → first_mention case bit entries ≡ Some k → n ≤ k) → (k : ℕ) → first_mention case bit entries ≡ Some k → n + 1 ≤ k
later case entries n x bit at silent before k first = elim (cases_eq n k) [ inl same ↦ absurd (both_ways (mentions case bit x) silent (there same)) | inr other ↦ (let b = before k first in omega (arith, b, other)) ]
  where
    there : n ≡ k → mentions case bit x ≡ true
    there same = ap (mentions case bit) (sym (get_or_from_slice_get entries k x x (rw (← same) at))) ∙ (at_mention case bit entries k x first).1

-- an entry that mentions none of what remains
pub skips : (case : Case) (entries : List Ace) (mask : Mask) (n : ℕ) (x : Ace) (remaining : Mask) → slice_get entries n ≡ Some x → ((bit : ℕ) → has_bit remaining bit ≡ true → mentions case bit x ≡ false) → Passes case entries mask n remaining → Passes case entries mask (n + 1) remaining
skips case entries mask n x remaining at silent p = record {
  remains = λ bit has. ((p.remains bit has).0, later case entries n x bit at (silent bit has) (p.remains bit has).1);
  passed = p.passed;
}

pub unmatched : (case : Case) (x : Ace) (bit : ℕ) → is_match case x ≡ false → mentions case bit x ≡ false
unfolding mentions
unmatched case x bit isn't = and_left (is_match case x && allows_or_denies x.sort) (has_bit x.mask bit) (and_left (is_match case x) (allows_or_denies x.sort) isn't)

pub undecided : (case : Case) (x : Ace) (bit : ℕ) → allows_or_denies x.sort ≡ false → mentions case bit x ≡ false
unfolding mentions
undecided case x bit isn't = and_left (is_match case x && allows_or_denies x.sort) (has_bit x.mask bit) (and_right (is_match case x) (allows_or_denies x.sort) isn't)

pub unspoken : (case : Case) (x : Ace) (bit : ℕ) → has_bit x.mask bit ≡ false → mentions case bit x ≡ false
unfolding mentions
unspoken case x bit isn't = and_right (is_match case x && allows_or_denies x.sort) (has_bit x.mask bit) isn't

spoken : (case : Case) (x : Ace) (bit : ℕ) → is_match case x ≡ true → allows_or_denies x.sort ≡ true → has_bit x.mask bit ≡ true → mentions case bit x ≡ true
unfolding mentions
spoken case x bit matches decides has = and_from (is_match case x && allows_or_denies x.sort) (has_bit x.mask bit) (and_from (is_match case x) (allows_or_denies x.sort) matches decides) has

-- an entry that allows
pub allows : (case : Case) (entries : List Ace) (mask : Mask) (n : ℕ) (x : Ace) (remaining new : Mask) → slice_get entries n ≡ Some x → is_match case x ≡ true → x.sort ≡ Allowed → IsWithout remaining x.mask new → Passes case entries mask n remaining → Passes case entries mask (n + 1) new
allows case entries mask n x remaining new at matches sort without p = record {
  remains = λ bit has. (let b = and_parts (has_bit remaining bit) (not (has_bit x.mask bit)) (sym (without bit) ∙ has) in let r = p.remains bit b.0 in (r.0, later case entries n x bit at (unspoken case x bit (not-true (has_bit x.mask bit) b.1)) r.1));
  passed = λ bit asked gone. go bit asked (elim (and_cases (has_bit remaining bit) (not (has_bit x.mask bit)) (sym (without bit) ∙ gone)) [ inl before ↦ inl before | inr here ↦ inr (not-false (has_bit x.mask bit) here) ]) (cases_Bool (has_bit remaining bit));
}
  where
    go : (bit : ℕ) → is_asked case mask bit ≡ true → (has_bit remaining bit ≡ false) ⊎ (has_bit x.mask bit ≡ true) → (has_bit remaining bit ≡ true) ⊎ (has_bit remaining bit ≡ false) → (k : ℕ) × (first_mention case bit entries ≡ Some k) × IsSortAt Allowed entries k
    go bit asked (inl before) held = p.passed bit asked before
    go bit asked (inr here) (inr before) = p.passed bit asked before
    go bit asked (inr here) (inl held) = (n, first_at case bit entries n x at (spoken case x bit matches (ap allows_or_denies sort) here) (p.remains bit held).1, rw at sort)

-- each bit that is asked is denied at this index or later, or isn't denied
least_denial : (case : Case) (entries : List Ace) (mask : Mask) (n : ℕ) (remaining : Mask) → Passes case entries mask n remaining → (k : ℕ) → Denies case entries mask k → n ≤ k
least_denial case entries mask n remaining p k d = elim (cases_Bool (has_bit remaining d.bit)) [ inl held ↦ (p.remains d.bit held).1 k d.first | inr gone ↦ absurd (go (p.passed d.bit d.asked gone)) ]
  where
    go : (i : ℕ) × (first_mention case d.bit entries ≡ Some i) × IsSortAt Allowed entries i → ⊥
    go r = let first = r.1 in let same : r.0 ≡ k = cc (d.first, first) in two_sorts entries k (rw same at r.2) d.denied

pub verdict_denied : (case : Case) (entries : List Ace) (mask : Mask) (n : ℕ) (x : Ace) (remaining : Mask) → slice_get entries n ≡ Some x → is_match case x ≡ true → x.sort ≡ Denied → not (bit_and (mask_bits x.mask) (mask_bits remaining) == 0) ≡ true → Passes case entries mask n remaining → IsVerdict case entries mask (DeniedBy n)
verdict_denied case entries mask n x remaining at matches sort meets p =
    let b = bit_of_both x.mask remaining meets in
    let r = p.remains b.0 b.2 in
    let first = first_at case b.0 entries n x at (spoken case x b.0 matches (ap allows_or_denies sort) b.1) r.1 in
    (record { bit = b.0; asked = r.0; first = first; denied = rw at sort }, least_denial case entries mask n remaining p)

pub verdict_granted : (case : Case) (entries : List Ace) (mask : Mask) (n : ℕ) (remaining : Mask) → (mask_bits remaining == 0) ≡ true → Passes case entries mask n remaining → IsVerdict case entries mask Granted
verdict_granted case entries mask n remaining none p = λ bit asked. (let r = p.passed bit asked (bit_of_none remaining none bit) in rw r.1 r.2)

pub verdict_at_end : (case : Case) (entries : List Ace) (mask : Mask) (n : ℕ) (remaining : Mask) → length entries ≤ n → (mask_bits remaining == 0) ≡ false → Passes case entries mask n remaining → IsVerdict case entries mask DeniedAtEnd
verdict_at_end case entries mask n remaining end some p =
    let b = bit_of_some remaining some in
    let r = p.remains b.0 b.1 in
    (λ k d. (let past = least_denial case entries mask n remaining p k d in let within = within_mention case d.bit entries k d.first in absurd (omega (arith, end, past, within))), b.0, r.0, never b.0 r.1)
  where
    never : (bit : ℕ) → ((k : ℕ) → first_mention case bit entries ≡ Some k → n ≤ k) → first_mention case bit entries ≡ None
    never bit past = go (first_mention case bit entries) refl
      where
        go : (o : Option ℕ) → first_mention case bit entries ≡ o → o ≡ None
        go None e = refl
        go (Some k) e = let later = past k e in let within = within_mention case bit entries k e in absurd (omega (arith, end, later, within))
