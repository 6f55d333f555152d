-- Numbers that are flagged, for `Stopped`: which are among them, and one more.
use Rattle.std.proofs.Common.{◌≡◌, ℕ, zero, suc, ◌+◌, ◌<◌, Bool, true, false, cond, ◌||◌, ◌==◌, List, [], ◌∷◌, length, replicate, set, get_or, refl, sym, ap, ◌∙◌, arith}
use Rattle.std.specs.List.{list_any}
use Rattle.std.proofs.lemmas.Bool.{ne_eqb, eq-eqb, lt-ltb, le-ltb}
use Rattle.album_world.specs.Flags.{flagged}
use Rattle.album_world.specs.State.{with_number}

-- where no flag is set, no number is flagged
pub flagged_none : (count number : ℕ) → flagged number (replicate count false) ≡ []
flagged_none zero number = refl
flagged_none (suc count) number = flagged_none count (number + 1)

-- ---- one number

abbrev is_in : ℕ → List ℕ → Bool
is_in n xs = list_any (λ x. x == n) xs

-- a number before the first flag's isn't among them
before : (flags : List Bool) (number n : ℕ) → n < number → is_in n (flagged number flags) ≡ false
before [] number n h = refl
before (true ∷ flags) number n h =
    ap (λ b. b || is_in n (flagged (number + 1) flags)) (ne_eqb number n (λ e. omega arith))
    ∙ before flags (number + 1) n (omega arith)
before (false ∷ flags) number n h = before flags (number + 1) n (omega arith)

-- a number is among them where its flag is set
among : (flags : List Bool) (number k : ℕ) → is_in (number + k) (flagged number flags) ≡ get_or flags k false
among [] number k = refl
among (true ∷ flags) number zero =
    ap (λ b. b || is_in (number + 0) (flagged (number + 1) flags)) (eq-eqb number (number + 0) (omega arith))
among (false ∷ flags) number zero = before flags (number + 1) (number + 0) (omega arith)
among (true ∷ flags) number (suc k) =
    ap (λ b. b || is_in (number + suc k) (flagged (number + 1) flags)) (ne_eqb number (number + suc k) (λ e. omega arith))
    ∙ ap (λ n. is_in n (flagged (number + 1) flags)) (omega arith) ∙ among flags (number + 1) k
among (false ∷ flags) number (suc k) =
    ap (λ n. is_in n (flagged (number + 1) flags)) (omega arith) ∙ among flags (number + 1) k

pub has_flagged : (flags : List Bool) (n : ℕ) → get_or flags n false ≡ list_any (λ x. x == n) (flagged 0 flags)
has_flagged flags n = sym (ap (λ m. is_in m (flagged 0 flags)) (omega arith) ∙ among flags 0 n)

-- ---- one more

-- one before the first flag's comes first
first : (flags : List Bool) (number n : ℕ) → n < number → with_number n (flagged number flags) ≡ n ∷ flagged number flags
first [] number n h = refl
first (true ∷ flags) number n h =
    ap (λ b. cond b (n ∷ number ∷ flagged (number + 1) flags) (number ∷ with_number n (flagged (number + 1) flags)))
    (lt-ltb n number h)
first (false ∷ flags) number n h = first flags (number + 1) n (omega arith)

-- the flag of one that isn't flagged is set
more : (flags : List Bool) (number k : ℕ) → k < length flags → get_or flags k false ≡ false
    → flagged number (set flags k true) ≡ with_number (number + k) (flagged number flags)
more [] number k h e = absurd (omega arith)
more (true ∷ flags) number zero h e = absurd (cc)
more (false ∷ flags) number zero h e =
    sym (first flags (number + 1) (number + 0) (omega arith) ∙ ap (λ n. n ∷ flagged (number + 1) flags) (omega arith))
more (true ∷ flags) number (suc k) h e =
    ap (λ xs. number ∷ xs) (more flags (number + 1) k (omega arith) e ∙ ap (λ n. with_number n (flagged (number + 1) flags)) (omega arith))
    ∙ sym (ap (λ b. cond b ((number + suc k) ∷ number ∷ flagged (number + 1) flags)
    (number ∷ with_number (number + suc k) (flagged (number + 1) flags))) (le-ltb (number + suc k) number (omega arith)))
more (false ∷ flags) number (suc k) h e =
    more flags (number + 1) k (omega arith) e ∙ ap (λ n. with_number n (flagged (number + 1) flags)) (omega arith)

pub flagged_more : (flags : List Bool) (n : ℕ) → n < length flags → list_any (λ x. x == n) (flagged 0 flags) ≡ false
    → flagged 0 (set flags n true) ≡ with_number n (flagged 0 flags)
flagged_more flags n h e =
    more flags 0 n h (has_flagged flags n ∙ e) ∙ ap (λ m. with_number m (flagged 0 flags)) (omega arith)

same_flag : (flags : List Bool) (n : ℕ) (b d : Bool) → n < length flags → get_or flags n b ≡ get_or flags n d
same_flag [] n b d h = absurd (omega arith)
same_flag (f ∷ flags) zero b d h = refl
same_flag (f ∷ flags) (suc n) b d h = same_flag flags n b d (omega arith)

pub flag_is : (flags : List Bool) (n : ℕ) (b : Bool) → n < length flags → b ≡ get_or flags n b
    → b ≡ list_any (λ x. x == n) (flagged 0 flags)
flag_is flags n b inside e = e ∙ same_flag flags n b false inside ∙ has_flagged flags n
