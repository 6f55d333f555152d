-- What a tally says of the bits below a number, for the proof that the computed verdict is one.
use Rattle.std.proofs.Common.{◌≡◌, ◌≤◌, ◌<◌, ◌+◌, ◌&&◌, ℕ, List, Bool, true, false, Option, Some, None, IfSome, IsSome, IsSomeAnd, MatchOption, min, below_more, refl, arith, inl, inr}
use Rattle.std.proofs.lemmas.Option.{slice_get_cases}
use Rattle.std.proofs.lemmas.Bool.{cases_lt, and_parts}
use Rattle.album_access.specs.Bits.{mask_bits, has_bit}
use Rattle.album_access.specs.declared.masks.Mask.{Mask}
use Rattle.album_access.specs.declared.types.AceType.{AceType}
use Rattle.album_access.specs.declared.types.AceType.TheVariants.{Allowed, Denied, Audit, Alarm}
use Rattle.album_lists.specs.declared.lists.Ace.{Ace}
use Rattle.album_eval.specs.declared.verdicts.Verdict.TheVariants.{Granted, DeniedBy, DeniedAtEnd}
use Rattle.album_eval.specs.Matching.{Case, is_match}
use Rattle.album_eval.specs.Verdict.{is_asked, first_mention, mentions, allows_or_denies, IsSortAt, Denies, IsVerdict}
use Rattle.album_eval.proofs.Asking.{asked_below, at_mention, within_mention}

-- the least denial among the bits below n, and whether one of them is never mentioned
pub record Judged (case : Case) (entries : List Ace) (mask : Mask) (n : ℕ) (denial : Option ℕ) (open' : Bool) : Type 0 where
  pub denies : IfSome denial (Denies case entries mask)
  pub least : (bit k : ℕ) → bit < n → is_asked case mask bit ≡ true → first_mention case bit entries ≡ Some k → IsSortAt Denied entries k → IsSomeAnd denial (λ d. d ≤ k)
  pub unmentioned : open' ≡ true → (bit : ℕ) × (is_asked case mask bit ≡ true) × (first_mention case bit entries ≡ None)
  pub mentioned : open' ≡ false → (bit : ℕ) → bit < n → is_asked case mask bit ≡ true → IsSome (first_mention case bit entries)

pub skipped : (case : Case) (entries : List Ace) (mask : Mask) (n : ℕ) (denial : Option ℕ) (open' : Bool) → is_asked case mask n ≡ false → Judged case entries mask n denial open' → Judged case entries mask (n + 1) denial open'
skipped case entries mask n denial open' unasked j = record {
  denies = j.denies;
  least = λ bit k l asked first denied. below_more (λ (b : ℕ). is_asked case mask b ≡ true → first_mention case b entries ≡ Some k → IsSomeAnd denial (λ d. d ≤ k)) n (λ b below a f. j.least b k below a f denied) (λ a f. absurd (cc)) bit l asked first;
  unmentioned = j.unmentioned;
  mentioned = λ is bit l asked. below_more (λ (b : ℕ). is_asked case mask b ≡ true → IsSome (first_mention case b entries)) n (λ b below a. j.mentioned is b below a) (λ a. absurd (cc)) bit l asked;
}

pub not_mentioned : (case : Case) (entries : List Ace) (mask : Mask) (n : ℕ) (denial : Option ℕ) (open' : Bool) → is_asked case mask n ≡ true → first_mention case n entries ≡ None → Judged case entries mask n denial open' → Judged case entries mask (n + 1) denial true
not_mentioned case entries mask n denial open' asks never j = record {
  denies = j.denies;
  least = λ bit k l asked first denied. below_more (λ (b : ℕ). is_asked case mask b ≡ true → first_mention case b entries ≡ Some k → IsSomeAnd denial (λ d. d ≤ k)) n (λ b below a f. j.least b k below a f denied) (λ a f. absurd (cc)) bit l asked first;
  unmentioned = λ is. (n, asks, never);
  mentioned = λ is. absurd (cc);
}

pub allowed : (case : Case) (entries : List Ace) (mask : Mask) (n k : ℕ) (denial : Option ℕ) (open' : Bool) → is_asked case mask n ≡ true → first_mention case n entries ≡ Some k → (IsSortAt Denied entries k → ⊥) → Judged case entries mask n denial open' → Judged case entries mask (n + 1) denial open'
allowed case entries mask n k denial open' asks at not_denied j = record {
  denies = j.denies;
  least = λ bit i l asked first denied. below_more (λ (b : ℕ). is_asked case mask b ≡ true → first_mention case b entries ≡ Some i → IsSomeAnd denial (λ d. d ≤ i)) n (λ b below a f. j.least b i below a f denied) (λ a f. let same : i ≡ k = cc in absurd (not_denied (rw (← same) denied))) bit l asked first;
  unmentioned = j.unmentioned;
  mentioned = λ is bit l asked. below_more (λ (b : ℕ). is_asked case mask b ≡ true → IsSome (first_mention case b entries)) n (λ b below a. j.mentioned is b below a) (λ a. rw at refl) bit l asked;
}

pub denied_at : (case : Case) (entries : List Ace) (mask : Mask) (n k new : ℕ) (denial : Option ℕ) (open' : Bool) → is_asked case mask n ≡ true → first_mention case n entries ≡ Some k → IsSortAt Denied entries k → MatchOption denial (new ≡ k) (λ d. new ≡ min d k) → Judged case entries mask n denial open' → Judged case entries mask (n + 1) (Some new) open'
denied_at case entries mask n k new None open' asks at denied earlier j = record {
  denies = record { bit = n; asked = asks; first = rw earlier at; denied = rw earlier denied };
  least = λ bit i l asked first den. below_more (λ (b : ℕ). is_asked case mask b ≡ true → first_mention case b entries ≡ Some i → new ≤ i) n (λ b below a f. absurd (j.least b i below a f den)) (λ a f. let same : i ≡ k = cc in omega (arith, same, earlier)) bit l asked first;
  unmentioned = j.unmentioned;
  mentioned = λ is bit l asked. below_more (λ (b : ℕ). is_asked case mask b ≡ true → IsSome (first_mention case b entries)) n (λ b below a. j.mentioned is b below a) (λ a. rw at refl) bit l asked;
}
denied_at case entries mask n k new (Some d) open' asks at denied earlier j = record {
  denies = elim (cases_lt d k) [ inl l ↦ (let e : new ≡ d = omega (arith, earlier, l) in rw e j.denies) | inr l ↦ (let e : new ≡ k = omega (arith, earlier, l) in rw e (record { bit = n; asked = asks; first = at; denied = denied })) ];
  least = λ bit i l asked first den. below_more (λ (b : ℕ). is_asked case mask b ≡ true → first_mention case b entries ≡ Some i → new ≤ i) n (λ b below a f. let before = j.least b i below a f den in omega (arith, before, earlier)) (λ a f. let same : i ≡ k = cc in omega (arith, same, earlier)) bit l asked first;
  unmentioned = j.unmentioned;
  mentioned = λ is bit l asked. below_more (λ (b : ℕ). is_asked case mask b ≡ true → IsSome (first_mention case b entries)) n (λ b below a. j.mentioned is b below a) (λ a. rw at refl) bit l asked;
}

pub tally_denied : (case : Case) (entries : List Ace) (mask : Mask) (i : ℕ) (open' : Bool) → Judged case entries mask (mask_bits mask) (Some i) open' → IsVerdict case entries mask (DeniedBy i)
tally_denied case entries mask i open' j = (j.denies, λ k d. j.least d.bit k (asked_below case mask d.bit d.asked) d.asked d.first d.denied)

pub tally_open : (case : Case) (entries : List Ace) (mask : Mask) → Judged case entries mask (mask_bits mask) None true → IsVerdict case entries mask DeniedAtEnd
tally_open case entries mask j = (λ k d. j.least d.bit k (asked_below case mask d.bit d.asked) d.asked d.first d.denied, (j.unmentioned refl).0, (j.unmentioned refl).1, (j.unmentioned refl).2)

-- a type that allows or denies, and isn't Denied, is Allowed
allowed_sort : (s : AceType) → allows_or_denies s ≡ true → (s ≡ Denied → ⊥) → s ≡ Allowed
allowed_sort Allowed e h = refl
allowed_sort Denied e h = absurd (h refl)
allowed_sort Audit e h = absurd (cc)
allowed_sort Alarm e h = absurd (cc)

decides_there : (case : Case) (bit : ℕ) (entry : Ace) → mentions case bit entry ≡ true → allows_or_denies entry.sort ≡ true
unfolding mentions
decides_there case bit entry e = (and_parts (is_match case entry) (allows_or_denies entry.sort) (and_parts (is_match case entry && allows_or_denies entry.sort) (has_bit entry.mask bit) e).0).1

bit_granted : (case : Case) (bit : ℕ) (entries : List Ace) (o : Option ℕ) → first_mention case bit entries ≡ o → IsSome o → ((k : ℕ) → o ≡ Some k → IsSortAt Denied entries k → ⊥) → IsSomeAnd o (IsSortAt Allowed entries)
bit_granted case bit entries None e is h = absurd (cc)
bit_granted case bit entries (Some k) e is h =
    elim (slice_get_cases entries k).1 [ inl p ↦ (let there : allows_or_denies p.0.sort ≡ true = decides_there case bit p.0 (rw p.3 at ((at_mention case bit entries k p.0 e).1)) in rw p.2 (allowed_sort p.0.sort there (λ d. h k refl (rw p.2 d)))) | inr p ↦ (let l = within_mention case bit entries k e in absurd (omega (arith, p.0, l))) ]

pub tally_granted : (case : Case) (entries : List Ace) (mask : Mask) → Judged case entries mask (mask_bits mask) None false → IsVerdict case entries mask Granted
tally_granted case entries mask j = λ bit asks. bit_granted case bit entries (first_mention case bit entries) refl (j.mentioned refl bit (asked_below case mask bit asks) asks) (λ k at d. j.least bit k (asked_below case mask bit asks) asks at d)
