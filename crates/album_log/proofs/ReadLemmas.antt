-- What is before the first zero of bytes in two parts, for `read_text`.
use Rattle.std.proofs.Common.{◌≡◌, ◌≢◌, ℕ, ◌+◌, ◌-◌, ◌<◌, ◌≤◌, ◌==◌, not, List, [], ◌++◌, length, take, drop, slice_index, refl, sym, ◌∙◌, ap, arith, inl, inr, suc, ◌∷◌}
use Rattle.std.specs.List.{position_or_len, suffix_len}
use Rattle.std.proofs.lemmas.List.{length-append, length-drop, get_or-drop, get_or_append_left, get_or-append_right, take_all, take-append-le, append_assoc}
use Rattle.std.proofs.lemmas.List.Sums.{position_or_len_is, suffix_len_is}
use Rattle.std.proofs.lemmas.List.Folds.{prefix_len-append}
use Rattle.std.proofs.lemmas.Grind.{same_number_lists}
use Rattle.std.proofs.lemmas.Bool.{cases_lt, cond-true, cond-false, eq-eqb, ne_eqb, not_from_true, not_from_false}
use Rattle.sqlite_disk.specs.Disk.{Holds}
use Rattle.album_log.specs.Texts.{before_zero}

take_past : (xs ys : List ℕ) (n : ℕ) → take (length xs + n) (xs ++ ys) ≡ xs ++ take n ys
take_past [] ys n = ap (λ (m : ℕ). take m ys) (omega arith)
take_past (x ∷ xs) ys n =
    let one : length (x ∷ xs) + n ≡ suc (length xs + n) = omega arith in
    ap (λ (m : ℕ). take m (x ∷ (xs ++ ys))) one ∙ ap (λ (zs : List ℕ). x ∷ zs) (take_past xs ys n)

pub first_zero_is :
    (bytes : List ℕ) (n : ℕ)
    → n ≤ length bytes
    → ((k : ℕ) → k < n → slice_index bytes k ≢ 0)
    → (n < length bytes → slice_index bytes n ≡ 0)
    → position_or_len (λ byte. byte == 0) bytes ≡ n
first_zero_is bytes n within none here =
    position_or_len_is (λ byte. byte == 0) bytes n 0 within (λ k low. ne_eqb _ _ (none k low)) (λ low. eq-eqb _ _ (here low))

pub text_end_is :
    (text : List ℕ) (end : ℕ)
    → end ≤ length text
    → ((k : ℕ) → end ≤ k → k < length text → slice_index text k ≢ 10)
    → (0 < end → slice_index text (end - 1) ≡ 10)
    → length text - suffix_len (λ byte. not (byte == 10)) text ≡ end
text_end_is text end within none here =
    let behind = suffix_len_is (λ byte. not (byte == 10)) text end 0 within
    (λ k low high. not_from_false _ (ne_eqb _ _ (none k low high)))
    (λ some. not_from_true _ (eq-eqb _ _ (here some))) in
    omega arith

pub before_zero_all :
    (piece rest : List ℕ)
    → position_or_len (λ byte. byte == 0) piece ≡ length piece
    → before_zero (piece ++ rest) ≡ piece ++ before_zero rest
before_zero_all piece rest all =
    let n = position_or_len (λ byte. byte == 0) rest in
    let both : position_or_len (λ byte. byte == 0) (piece ++ rest) ≡ length piece + n =
    prefix_len-append (λ byte. not (byte == 0)) piece rest ∙ cond-true _ _ _ (eq-eqb _ _ all) in
    ap (λ (m : ℕ). take m (piece ++ rest)) both ∙ take_past piece rest n

pub before_zero_part :
    (piece rest : List ℕ)
    → position_or_len (λ byte. byte == 0) piece < length piece
    → before_zero (piece ++ rest) ≡ before_zero piece
before_zero_part piece rest part =
    let front : position_or_len (λ byte. byte == 0) (piece ++ rest) ≡ position_or_len (λ byte. byte == 0) piece =
    prefix_len-append (λ byte. not (byte == 0)) piece rest ∙ cond-false _ _ _ (ne_eqb _ _ (λ (e : position_or_len (λ byte. byte == 0) piece ≡ length piece). omega arith)) in
    ap (λ (m : ℕ). take m (piece ++ rest)) front ∙ take-append-le _ piece rest (omega arith)

-- a file from `at` on is the piece that it has there, and what is behind
pub split_at_piece : (file piece : List ℕ) (at : ℕ) → Holds file at piece → drop at file ≡ piece ++ drop (at + length piece) file
split_at_piece file piece at holds =
    let n = length piece in
    let rest = drop (at + n) file in
    let long : length (drop at file) ≡ length (piece ++ rest) =
    omega (arith, length-drop at file, length-append piece rest, length-drop (at + n) file, holds.within) in
    same_number_lists (drop at file) (piece ++ rest) long (λ k low. get_or-drop at file k 0 ∙ elim (cases_lt k n) [
      | inl early ↦ holds.each k early ∙ sym (get_or_append_left piece rest 0 k early)
      | inr late ↦
          let here : at + k ≡ at + n + (k - n) = omega arith in
          ap (slice_index file) here ∙ sym (get_or-append_right piece rest n k 0 refl late ∙ get_or-drop (at + n) file (k - n) 0)
    ])

-- after a piece with no zero, the text so far and what is to come are the same
pub read_all :
    (file piece text more total : List ℕ) (at n : ℕ)
    → text ++ before_zero (drop at file) ≡ total
    → Holds file at piece
    → length piece ≡ n
    → more ≡ text ++ before_zero piece
    → position_or_len (λ byte. byte == 0) piece ≡ length piece
    → more ++ before_zero (drop (at + n) file) ≡ total
read_all file piece text more total at n so_far holds long pushed all =
    let rest = drop (at + length piece) file in
    let whole : before_zero piece ≡ piece = take_all _ piece (omega arith) in
    let here : before_zero (drop at file) ≡ piece ++ before_zero rest =
    ap before_zero (split_at_piece file piece at holds) ∙ before_zero_all piece rest all in
    ap (λ (m : ℕ). more ++ before_zero (drop (at + m) file)) (sym long)
    ∙ ap (λ (xs : List ℕ). xs ++ before_zero rest) (pushed ∙ ap (λ (xs : List ℕ). text ++ xs) whole)
    ∙ append_assoc text piece (before_zero rest)
    ∙ ap (λ (xs : List ℕ). text ++ xs) (sym here)
    ∙ so_far

-- after a piece with a zero, the text is all
pub read_part :
    (file piece text more total : List ℕ) (at : ℕ)
    → text ++ before_zero (drop at file) ≡ total
    → Holds file at piece
    → more ≡ text ++ before_zero piece
    → position_or_len (λ byte. byte == 0) piece < length piece
    → more ≡ total
read_part file piece text more total at so_far holds pushed part =
    let rest = drop (at + length piece) file in
    let here : before_zero (drop at file) ≡ before_zero piece =
    ap before_zero (split_at_piece file piece at holds) ∙ before_zero_part piece rest part in
    pushed ∙ ap (λ (xs : List ℕ). text ++ xs) (sym here) ∙ so_far
