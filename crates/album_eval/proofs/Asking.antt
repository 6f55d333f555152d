-- Which bits are asked, and the entry at the first mention of one.
use Rattle.std.proofs.Common.{◌≡◌, ◌≢◌, ◌≤◌, ◌<◌, ◌-◌, ◌^◌, ◌&&◌, ◌||◌, ◌==◌, ℕ, zero, suc, List, [], ◌∷◌, true, false, not, Option, Some, None, IsSomeAnd, bit_and, min, max, w32, length, get_or, refl, sym, ◌∙◌, ap, arith, inl, inr, ◌⊎◌}
use Rattle.std.specs.Int.{bit_at, bit_not}
use Rattle.std.specs.List.{slice_get, position, position_or_len}
use Rattle.std.proofs.Math.Nat.{two-pow-succ}
use Rattle.std.proofs.lemmas.Bool.Decides.{nat_tests}
use Rattle.std.proofs.lemmas.Bool.{cases_lt, cases_eq, and_parts, eqb-true, eq-eqb, ne_eqb, lt-ltb, not-true, not-false, both_ways, false_from_ne_true}
use Rattle.std.proofs.lemmas.List.Quantifiers.{position-Some}
use Rattle.std.proofs.lemmas.List.Sums.{fails_before_first}
use Rattle.std.proofs.lemmas.Nat.Bits.{bit_at_above, bit_at_and, bit_at_not, bit_at-lt, bit_at-zero, bit_at-pow_same, bit_at-pow_other, bit_at_or, same_from_bits}
use Rattle.std.proofs.lemmas.Option.{get_or_from_slice_get, slice_get_within}
use Rattle.album_access.specs.Bits.{mask_bits, has_bit}
use Rattle.album_access.specs.declared.masks.Mask.{Mask}
use Rattle.album_access.specs.declared.types.AceType.TheVariants.{Allowed, Denied}
use Rattle.album_lists.specs.declared.lists.Ace.{Ace}
use Rattle.album_eval.specs.Matching.{Case}
use Rattle.album_eval.specs.Policies.{is_given}
use Rattle.album_eval.specs.Verdict.{is_asked, first_mention, mentions, IsSortAt}

-- ---- the bits of a mask

below_power : (n : ℕ) → n < 2 ^ n
below_power zero = omega arith
below_power (suc n) = let below = below_power n in omega (arith, below, two-pow-succ n)

-- no bit that is asked is at the mask's own number or past it
pub asked_below : (case : Case) (mask : Mask) (bit : ℕ) → is_asked case mask bit ≡ true → bit < mask_bits mask
unfolding is_asked
asked_below case mask bit asked = elim (cases_lt bit (mask_bits mask)) [ inl l ↦ l | inr l ↦ absurd (go l) ]
  where
    go : mask_bits mask ≤ bit → ⊥
    go l =
        let none = bit_at_above (mask_bits mask) (mask_bits mask) bit (below_power (mask_bits mask)) l in
        let one = eqb-true (bit_at (mask_bits mask) bit) 1 (and_parts (has_bit mask bit) (not (is_given case bit)) asked).0 in
        omega (arith, none, one)

-- a number that isn't 0 has a bit
bit_below : (n k : ℕ) → ((bit : ℕ) × (bit_at n bit ≡ 1)) ⊎ ((i : ℕ) → i < k → bit_at n i ≡ 0)
bit_below n zero = inr (λ i l. absurd (omega (arith, l)))
bit_below n (suc k) = elim (bit_below n k) [ inl found ↦ inl found | inr none ↦ go none (cases_eq (bit_at n k) 1) ]
  where
    go : ((i : ℕ) → i < k → bit_at n i ≡ 0) → (bit_at n k ≡ 1) ⊎ (bit_at n k ≡ 1 → ⊥) → ((bit : ℕ) × (bit_at n bit ≡ 1)) ⊎ ((i : ℕ) → i < suc k → bit_at n i ≡ 0)
    go none (inl is) = inl (k, is)
    go none (inr isn't) = inr (λ i l. elim (cases_eq i k) [ inl same ↦ rw same (omega (arith, isn't, bit_at-lt n k)) | inr other ↦ none i (omega (arith, l, other)) ])

pub some_bit : (n : ℕ) → n ≢ 0 → (bit : ℕ) × (bit_at n bit ≡ 1)
some_bit n some = elim (bit_below n n) [ inl found ↦ found | inr none ↦ absurd (some (same_from_bits n 0 (λ i. all none i))) ]
  where
    all : ((i : ℕ) → i < n → bit_at n i ≡ 0) → (i : ℕ) → bit_at n i ≡ bit_at 0 i
    all none i = elim (cases_lt i n) [ inl l ↦ none i l ∙ sym (bit_at-zero i) | inr l ↦ bit_at_above n n i (below_power n) l ∙ sym (bit_at-zero i) ]

pub bit_of_some : (mask : Mask) → (mask_bits mask == 0) ≡ false → (bit : ℕ) × (has_bit mask bit ≡ true)
bit_of_some mask some =
    let b = some_bit (mask_bits mask) (λ none. both_ways (mask_bits mask == 0) some (eq-eqb (mask_bits mask) 0 none)) in
    (b.0, eq-eqb (bit_at (mask_bits mask) b.0) 1 b.1)

pub bit_of_none : (mask : Mask) → (mask_bits mask == 0) ≡ true → (bit : ℕ) → has_bit mask bit ≡ false
bit_of_none mask none bit = false_from_ne_true (has_bit mask bit) (λ is. let e = eqb-true (bit_at (mask_bits mask) bit) 1 is in let z : bit_at (mask_bits mask) bit ≡ 0 = ap (λ (n : ℕ). bit_at n bit) (eqb-true (mask_bits mask) 0 none) ∙ bit_at-zero bit in absurd (omega (arith, e, z)))

-- two masks that meet have a bit in common
pub bit_of_both : (mask other : Mask) → not (bit_and (mask_bits mask) (mask_bits other) == 0) ≡ true → (bit : ℕ) × (has_bit mask bit ≡ true) × (has_bit other bit ≡ true)
bit_of_both mask other meet =
    let both = bit_and (mask_bits mask) (mask_bits other) in
    let some = not-true (both == 0) meet in
    let b = some_bit both (λ none. both_ways (both == 0) some (eq-eqb both 0 none)) in
    let m = bit_at_and (mask_bits mask) (mask_bits other) b.0 in
    let x = bit_at-lt (mask_bits mask) b.0 in
    let y = bit_at-lt (mask_bits other) b.0 in
    let one = b.1 in
    (b.0, eq-eqb (bit_at (mask_bits mask) b.0) 1 (omega (arith, m, x, y, one)), eq-eqb (bit_at (mask_bits other) b.0) 1 (omega (arith, m, x, y, one)))

pub bit_of_one : (mask other : Mask) → not (bit_and (mask_bits mask) (mask_bits other) == 0) ≡ false → (bit : ℕ) → has_bit other bit ≡ true → has_bit mask bit ≡ false
bit_of_one mask other apart bit has = false_from_ne_true (has_bit mask bit) (λ is. absurd (go is))
  where
    go : has_bit mask bit ≡ true → ⊥
    go is =
        let both = bit_and (mask_bits mask) (mask_bits other) in
        let m = bit_at_and (mask_bits mask) (mask_bits other) bit in
        let x = eqb-true (bit_at (mask_bits mask) bit) 1 is in
        let y = eqb-true (bit_at (mask_bits other) bit) 1 has in
        let z = bit_at-zero bit in
        let none : bit_at both bit ≡ bit_at 0 bit = ap (λ (n : ℕ). bit_at n bit) (eqb-true both 0 (not-false (both == 0) apart)) in
        omega (arith, m, x, y, z, none)

-- ---- a first mention

-- the first mention is in the list, and the entry there mentions the bit
pub at_mention : (case : Case) (bit : ℕ) (entries : List Ace) (k : ℕ) (d : Ace) → first_mention case bit entries ≡ Some k → (k < length entries) × (mentions case bit (get_or entries k d) ≡ true)
unfolding first_mention
at_mention case bit entries k d e = let p = position-Some (mentions case bit) entries k d e in (p.0, p.1)

pub within_mention : (case : Case) (bit : ℕ) (entries : List Ace) (k : ℕ) → first_mention case bit entries ≡ Some k → k < length entries
unfolding first_mention
within_mention case bit [] k e = absurd (cc)
within_mention case bit (x ∷ xs) k e = (at_mention case bit (x ∷ xs) k x e).0

-- an entry that mentions the bit is its first mention, where none is earlier
pub first_at : (case : Case) (bit : ℕ) (entries : List Ace) (n : ℕ) (x : Ace) → slice_get entries n ≡ Some x → mentions case bit x ≡ true → ((k : ℕ) → first_mention case bit entries ≡ Some k → n ≤ k) → first_mention case bit entries ≡ Some n
unfolding first_mention
first_at case bit entries n x at is earliest = elim (cases_lt (position_or_len (mentions case bit) entries) (length entries)) [ inl l ↦ go (rw (lt-ltb (position_or_len (mentions case bit) entries) (length entries) l) refl) | inr l ↦ absurd (later (let within = slice_get_within entries n x at in omega (arith, l, within))) ]
  where
    later : n < position_or_len (mentions case bit) entries → ⊥
    later l = both_ways (mentions case bit x) (ap (mentions case bit) (sym (get_or_from_slice_get entries n x x at)) ∙ fails_before_first (mentions case bit) entries n x l) is

    go : position (mentions case bit) entries ≡ Some (position_or_len (mentions case bit) entries) → position (mentions case bit) entries ≡ Some n
    go e = elim (cases_lt n (position_or_len (mentions case bit) entries)) [ inl l ↦ absurd (later l) | inr l ↦ (let least = earliest (position_or_len (mentions case bit) entries) e in let same : position_or_len (mentions case bit) entries ≡ n = omega (arith, least, l) in e ∙ ap (λ (k : ℕ). Some k) same) ]

-- no index has an entry of two types
pub two_sorts : (entries : List Ace) (i : ℕ) → IsSortAt Allowed entries i → IsSortAt Denied entries i → ⊥
two_sorts entries i = go (slice_get entries i)
  where
    go : (o : Option Ace) → IsSomeAnd o (λ entry. entry.sort ≡ Allowed) → IsSomeAnd o (λ entry. entry.sort ≡ Denied) → ⊥
    go None a d = a
    go (Some x) a d = cc

-- ---- what is given

pub no_bits : (mask : Mask) → mask_bits mask ≡ 0 → (bit : ℕ) → has_bit mask bit ≡ false
no_bits mask none = bit_of_none mask (eq-eqb (mask_bits mask) 0 none)

one_bit : (k bit : ℕ) → (bit_at (2 ^ k) bit == 1) ≡ (bit == k)
one_bit k bit = elim (cases_eq bit k) [ inl same ↦ rw same (eq-eqb (bit_at (2 ^ k) k) 1 (bit_at-pow_same k) ∙ sym (eq-eqb k k refl)) | inr other ↦ rw (ne_eqb bit k other) (let none = bit_at-pow_other k bit other in false_from_ne_true (bit_at (2 ^ k) bit == 1) (λ is. let one = eqb-true (bit_at (2 ^ k) bit) 1 is in absurd (omega (arith, none, one)))) ]

pub two_bits : (mask : Mask) → mask_bits mask ≡ 0x60000 → (bit : ℕ) → has_bit mask bit ≡ (bit == 17 || bit == 18)
two_bits mask both bit = rw (both, ← one_bit 17 bit, ← one_bit 18 bit) (either (bit_at 0x20000 bit) (bit_at 0x40000 bit) (bit_at 0x60000 bit) (bit_at-lt 0x20000 bit) (bit_at-lt 0x40000 bit) (bit_at_or 0x20000 0x40000 bit))
  where
    either : (a b c : ℕ) → a < 2 → b < 2 → c ≡ max a b → (c == 1) ≡ (a == 1 || b == 1)
    either a b c small few most = grind (arith, nat_tests)

-- the bits of a mask without those of another
pub without_has : (mask other new : Mask) → mask_bits mask < 2 ^ 32 → mask_bits other < 2 ^ 32 → mask_bits new ≡ bit_and (mask_bits mask) (bit_not w32 (mask_bits other)) → (bit : ℕ) → has_bit new bit ≡ (has_bit mask bit && not (has_bit other bit))
without_has mask other new small few is bit = elim (cases_lt bit 32) [ inl l ↦ one_alone (bit_at (mask_bits new) bit) (bit_at (mask_bits mask) bit) (bit_at (mask_bits other) bit) (bit_at-lt (mask_bits mask) bit) (bit_at-lt (mask_bits other) bit) (least ∙ ap (min (bit_at (mask_bits mask) bit)) (bit_at_not w32 (mask_bits other) bit few l)) | inr l ↦ none_alone (bit_at (mask_bits new) bit) (bit_at (mask_bits mask) bit) (bit_at (mask_bits other) bit) (bit_at (bit_not w32 (mask_bits other)) bit) (bit_at_above (mask_bits mask) 32 bit small l) least ]
  where
    least : bit_at (mask_bits new) bit ≡ min (bit_at (mask_bits mask) bit) (bit_at (bit_not w32 (mask_bits other)) bit)
    least = ap (λ (n : ℕ). bit_at n bit) is ∙ bit_at_and (mask_bits mask) (bit_not w32 (mask_bits other)) bit

    one_alone : (x y z : ℕ) → y < 2 → z < 2 → x ≡ min y (1 - z) → (x == 1) ≡ ((y == 1) && not (z == 1))
    one_alone x y z small few is = grind (arith, nat_tests)

    none_alone : (x y z w : ℕ) → y ≡ 0 → x ≡ min y w → (x == 1) ≡ ((y == 1) && not (z == 1))
    none_alone x y z w none is = let clear : x ≡ 0 = omega (arith, is, none) in rw (clear, none) refl
