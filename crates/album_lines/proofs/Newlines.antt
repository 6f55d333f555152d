-- The first newline of a text. For `first_line`; `parts_at` is its main lemma.
use Rattle.std.proofs.Common.{◌≡◌, Option, Some, None, ℕ, suc, ◌+◌, ◌<◌, List, [], ◌∷◌, ◌++◌, length, take, drop, get_or, Bool, true, false, cond, nat_lt, not, IsTrue, refl, subst, arith}
use Rattle.std.specs.Prelude.{◌==◌}
use Rattle.std.specs.List.{list_all, position, position_or_len, prefix_len}
use Rattle.std.proofs.lemmas.Bool.{ltb-true, ltb-false, lt-ltb, le-ltb, eqb-true}
use Rattle.std.proofs.lemmas.List.{take_all}
use Rattle.std.proofs.lemmas.List.Sums.{split_at_first, passes_at_first, position_or_len_is}
use Rattle.memchr.specs.Find.{IsFirstByte, is_byte}
use Rattle.album_lines.specs.Lines.{has_no_newline}

abbrev is_newline : ℕ → Bool
is_newline byte = byte == 10

-- where the first newline is, or the length where there is none
abbrev newline_at : List ℕ → ℕ
newline_at text = position_or_len is_newline text

not_true : (b : Bool) → ¬ (b ≡ true) → b ≡ false
not_true true h = absurd (h refl)
not_true false h = refl

pub all_in_prefix : (p : ℕ → Bool) (xs : List ℕ) → list_all p (take (prefix_len p xs) xs) ≡ true
all_in_prefix p [] = refl
all_in_prefix p (x ∷ xs) = by_test (p x) refl (prefix_len p xs) (all_in_prefix p xs)
  where
    by_test : (e : Bool) → p x ≡ e → (n : ℕ) → list_all p (take n xs) ≡ true
        → list_all p (take (cond e (1 + n) 0) (x ∷ xs)) ≡ true
    by_test true is n rest = let step : 1 + n ≡ suc n = omega arith in rw (step, is, rest) refl
    by_test false is n rest = refl

none_before_first : (text : List ℕ) → IsTrue (has_no_newline (take (newline_at text) text))
none_before_first text = all_in_prefix (λ byte. not (is_newline byte)) text

-- the first newline, as a search for it returns it
pub at_first : (text : List ℕ) (r : Option ℕ) → IsFirstByte (is_byte 10) text r → r ≡ position is_newline text
at_first text None h =
    let past : newline_at text ≡ length text =
    position_or_len_is is_newline text (length text) 0 (omega arith) (λ k below. not_true _ (h k (omega arith) below)) (λ below. absurd (omega (arith, below))) in
    rw (past, le-ltb (length text) (length text) (omega arith)) refl
at_first text (Some k) h =
    let there : newline_at text ≡ k =
    position_or_len_is is_newline text k 0 (omega (arith, h.0.high)) (λ i below. not_true _ (h.0.before i (omega arith) below)) (λ _. h.1) in
    rw (there, lt-ltb k (length text) h.0.high) refl

-- no newline is before the first one
pub none_before : (text : List ℕ) (at : ℕ) → position is_newline text ≡ Some at → IsTrue (has_no_newline (take at text))
none_before text at is = by_test (nat_lt _ (length text)) is
  where
    by_test : (e : Bool) → cond e (Some (newline_at text)) None ≡ Some at → IsTrue (has_no_newline (take at text))
    by_test true some =
        let first : newline_at text ≡ at = cc in
        let P : ℕ → Type 0 = λ n. IsTrue (has_no_newline (take n text)) in
        subst P first (none_before_first text)
    by_test false none = cc

-- a text is what is before its first newline, that newline, and what is after it
pub parts_at : (text : List ℕ) (at : ℕ)
    → position is_newline text ≡ Some at
    → text ≡ take at text ++ 10 ∷ drop (at + 1) text
parts_at text at is = by_test (nat_lt _ (length text)) refl is
  where
    by_test : (e : Bool) → nat_lt (newline_at text) (length text) ≡ e → cond e (Some (newline_at text)) None ≡ Some at
        → text ≡ take at text ++ 10 ∷ drop (at + 1) text
    by_test true below some =
        let first : newline_at text ≡ at = cc in
        let P : ℕ → Type 0 = λ n. text ≡ take n text ++ 10 ∷ drop (n + 1) text in
        let within : newline_at text < length text = ltb-true _ _ below in
        let newline : get_or text (newline_at text) 0 ≡ 10 = eqb-true _ _ (passes_at_first is_newline text 0 within) in
        let parts = split_at_first is_newline text 0 within in
        subst P first (rw newline at parts)
    by_test false above none = cc

-- where no first newline is, there is none
pub none_at_all : (text : List ℕ) → position is_newline text ≡ None → IsTrue (has_no_newline text)
none_at_all text is = by_test (nat_lt _ (length text)) refl is
  where
    by_test : (e : Bool) → nat_lt (newline_at text) (length text) ≡ e → cond e (Some (newline_at text)) None ≡ None
        → IsTrue (has_no_newline text)
    by_test true below some = cc
    by_test false above none =
        let P : List ℕ → Type 0 = λ xs. IsTrue (has_no_newline xs) in
        subst P (take_all _ text (ltb-false _ _ above)) (none_before_first text)
