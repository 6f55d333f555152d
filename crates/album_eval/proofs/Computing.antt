-- The computed verdict is the one verdict.
use Rattle.std.proofs.Common.{◌≡◌, ◌+◌, ℕ, zero, suc, List, Bool, true, false, Option, Some, None, IsSomeAnd, MatchOption, min, refl, ap, subst, arith, add-one}
use Rattle.std.specs.List.{slice_get}
use Rattle.std.specs.Option.{option_map_or}
use Rattle.album_access.specs.Bits.{mask_bits}
use Rattle.album_access.specs.declared.masks.Mask.{Mask}
use Rattle.album_access.specs.declared.types.AceType.{AceType}
use Rattle.album_access.specs.declared.types.AceType.TheVariants.{Allowed, Denied, Audit, Alarm}
use Rattle.album_lists.specs.declared.lists.Ace.{Ace}
use Rattle.album_eval.specs.declared.verdicts.Verdict.{Verdict}
use Rattle.album_eval.specs.declared.verdicts.Verdict.TheVariants.{Granted, DeniedBy, DeniedAtEnd}
use Rattle.album_eval.specs.Matching.{Case}
use Rattle.album_eval.specs.Verdict.{is_asked, first_mention, IsSortAt, Denies, IsVerdict, denies, is_denied_at, Tally, least_of, with_mention, with_bit, tally_below, verdict_by, verdict}
use Rattle.album_eval.proofs.Asking.{two_sorts}
use Rattle.album_eval.proofs.Tallying.{Judged, skipped, not_mentioned, allowed, denied_at, tally_denied, tally_open, tally_granted}

denied_sort : (s : AceType) → denies s ≡ true → s ≡ Denied
denied_sort Allowed e = absurd (cc)
denied_sort Denied e = refl
denied_sort Audit e = absurd (cc)
denied_sort Alarm e = absurd (cc)

not_denied_sort : (s : AceType) → denies s ≡ false → s ≡ Denied → ⊥
not_denied_sort Allowed e d = cc
not_denied_sort Denied e d = cc
not_denied_sort Audit e d = cc
not_denied_sort Alarm e d = cc

is_denied_there : (entries : List Ace) (i : ℕ) → is_denied_at entries i ≡ true → IsSortAt Denied entries i
is_denied_there entries i = go (slice_get entries i)
  where
    go : (o : Option Ace) → option_map_or (λ (entry : Ace). denies entry.sort) o false ≡ true → IsSomeAnd o (λ entry. entry.sort ≡ Denied)
    go None e = absurd (cc)
    go (Some x) e = denied_sort x.sort e

not_denied_there : (entries : List Ace) (i : ℕ) → is_denied_at entries i ≡ false → IsSortAt Denied entries i → ⊥
not_denied_there entries i = go (slice_get entries i)
  where
    go : (o : Option Ace) → option_map_or (λ (entry : Ace). denies entry.sort) o false ≡ false → IsSomeAnd o (λ entry. entry.sort ≡ Denied) → ⊥
    go None e d = d
    go (Some x) e d = not_denied_sort x.sort e d

least_is : (o : Option ℕ) (i : ℕ) → MatchOption o (least_of o i ≡ i) (λ d. least_of o i ≡ min d i)
least_is None i = refl
least_is (Some k) i = refl

-- the facts of a state, with n + 1 for suc n
abbrev pub Tells : Case → List Ace → Mask → ℕ → Tally → Type 0
Tells case entries mask n tally = Judged case entries mask n tally.denial tally.is_unmentioned

mention_counts : (case : Case) (entries : List Ace) (mask : Mask) (n i : ℕ) (tally : Tally) (b : Bool) → is_denied_at entries i ≡ b → is_asked case mask n ≡ true → first_mention case n entries ≡ Some i → Tells case entries mask n tally → Tells case entries mask (n + 1) (with_mention b i tally)
mention_counts case entries mask n i tally true is asks at j = denied_at case entries mask n i _ tally.denial tally.is_unmentioned asks at (is_denied_there entries i is) (least_is tally.denial i) j
mention_counts case entries mask n i tally false is asks at j = allowed case entries mask n i tally.denial tally.is_unmentioned asks at (not_denied_there entries i is) j

bit_counts : (case : Case) (entries : List Ace) (mask : Mask) (n : ℕ) (tally : Tally) (b : Bool) (o : Option ℕ) → is_asked case mask n ≡ b → first_mention case n entries ≡ o → Tells case entries mask n tally → Tells case entries mask (n + 1) (with_bit b entries o tally)
bit_counts case entries mask n tally false o asks at j = skipped case entries mask n tally.denial tally.is_unmentioned asks j
bit_counts case entries mask n tally true None asks at j = not_mentioned case entries mask n tally.denial tally.is_unmentioned asks at j
bit_counts case entries mask n tally true (Some i) asks at j = mention_counts case entries mask n i tally (is_denied_at entries i) refl asks at j

below_counts : (case : Case) (entries : List Ace) (mask : Mask) (n : ℕ) → Tells case entries mask n (tally_below case entries mask n)
below_counts case entries mask zero = record {
  denies = tt;
  least = λ bit k l asked first denied. absurd (omega (arith, l));
  unmentioned = λ is. absurd (cc);
  mentioned = λ is bit l asked. absurd (omega (arith, l));
}
below_counts case entries mask (suc n) =
    let tally = tally_below case entries mask n in
    subst (λ (m : ℕ). Tells case entries mask m (with_bit (is_asked case mask n) entries (first_mention case n entries) tally)) (add-one n) (bit_counts case entries mask n tally (is_asked case mask n) (first_mention case n entries) refl refl (below_counts case entries mask n))

by_tally : (case : Case) (entries : List Ace) (mask : Mask) (d : Option ℕ) (b : Bool) → Judged case entries mask (mask_bits mask) d b → IsVerdict case entries mask (verdict_by d b)
by_tally case entries mask (Some i) b j = tally_denied case entries mask i b j
by_tally case entries mask None true j = tally_open case entries mask j
by_tally case entries mask None false j = tally_granted case entries mask j

-- the computed verdict is a verdict
pub verdict_computed : (case : Case) (entries : List Ace) (mask : Mask) → IsVerdict case entries mask (verdict case entries mask)
unfolding verdict
verdict_computed case entries mask =
    let tally : Tally = tally_below case entries mask (mask_bits mask) in by_tally case entries mask tally.denial tally.is_unmentioned (below_counts case entries mask (mask_bits mask))

allowed_not_denied : (case : Case) (entries : List Ace) (mask : Mask) (i : ℕ) → IsVerdict case entries mask Granted → Denies case entries mask i → ⊥
allowed_not_denied case entries mask i g d = two_sorts entries i (rw d.first at (g d.bit d.asked)) d.denied

allowed_not_open : (case : Case) (entries : List Ace) (mask : Mask) (bit : ℕ) → IsVerdict case entries mask Granted → is_asked case mask bit ≡ true → first_mention case bit entries ≡ None → ⊥
allowed_not_open case entries mask bit g asked none = rw none at (g bit asked)

-- there is one verdict at most
pub one_verdict : (case : Case) (entries : List Ace) (mask : Mask) (v w : Verdict) → IsVerdict case entries mask v → IsVerdict case entries mask w → v ≡ w
one_verdict case entries mask Granted Granted a b = refl
one_verdict case entries mask Granted (DeniedBy i) a b = absurd (allowed_not_denied case entries mask i a b.0)
one_verdict case entries mask Granted DeniedAtEnd a b = absurd (allowed_not_open case entries mask b.1 a b.2 b.3)
one_verdict case entries mask (DeniedBy i) Granted a b = absurd (allowed_not_denied case entries mask i b a.0)
one_verdict case entries mask (DeniedBy i) (DeniedBy k) a b = let l = a.1 k b.0 in let m = b.1 i a.0 in let e : i ≡ k = omega (arith, l, m) in ap (λ (n : ℕ). DeniedBy n) e
one_verdict case entries mask (DeniedBy i) DeniedAtEnd a b = absurd (b.0 i a.0)
one_verdict case entries mask DeniedAtEnd Granted a b = absurd (allowed_not_open case entries mask a.1 b a.2 a.3)
one_verdict case entries mask DeniedAtEnd (DeniedBy k) a b = absurd (a.0 k b.0)
one_verdict case entries mask DeniedAtEnd DeniedAtEnd a b = refl
