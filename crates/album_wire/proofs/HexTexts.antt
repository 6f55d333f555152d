-- What is read of a text in hexadecimal is what it spells. For `hex_spelled` and `spelled_hex`.
use Rattle.std.proofs.Common.{◌≡◌, ◌+◌, ◌*◌, ◌%◌, ◌==◌, ℕ, List, [], ◌∷◌, length, Bool, true, false, cond, Option, Some, None, Result, Ok, Err, refl, sym, ap, ◌∙◌, subst, arith}
use Rattle.hex.specs.Hex.{hex_digit_value, digit_or_error, value_at, pair_value, decode_pairs, decode_of, ◌>>=◌}
use Rattle.hex.specs.declared.error.FromHexError.{FromHexError}
use Rattle.hex.specs.declared.error.FromHexError.TheVariants.{OddLength}
use Rattle.hex.proofs.Pairs.{cons_byte, decode_pairs-ok_pair}
use Rattle.hex.proofs.HexLemmas.{decode_of-even}
use Rattle.album_wire.specs.ItemSpelling.{AreDigits, IsHexText}

-- a step that has given a value
hex_step : {A B : Type 0} (x : Result A FromHexError) (f : A → Result B FromHexError) (b : B)
    → (x >>= f) ≡ Ok b
    → (a : A) × (x ≡ Ok a) × (f a ≡ Ok b)
hex_step (Ok a) f b h = (a, refl, h)
hex_step (Err e) f b h = cc

same_hex : {A : Type 0} (a b : A) → ◌≡◌ {A = Result A FromHexError} (Ok a) (Ok b) → a ≡ b
same_hex a b h = cc

digit_taken : (c i : ℕ) (o : Option ℕ) (v : ℕ) → digit_or_error c i o ≡ Ok v → o ≡ Some v
digit_taken c i None v h = cc
digit_taken c i (Some w) v h = ap Some (same_hex w v h)

pairs_spelled : (i : ℕ) (text bytes : List ℕ) → decode_pairs i text ≡ Ok bytes → IsHexText bytes text
unfolding decode_pairs
pairs_spelled i [] [] h = tt
pairs_spelled i [] (byte ∷ bytes) h = cc
pairs_spelled i (c ∷ []) bytes h = cc
pairs_spelled i (c ∷ e ∷ text) bytes h =
    let pair = hex_step (pair_value c e i) _ bytes h in
    let first = hex_step (value_at c i) _ pair.0 pair.1 in
    let second = hex_step (value_at e (i + 1)) _ pair.0 first.2 in
    let rest = hex_step (decode_pairs (i + 2) text) _ bytes pair.2 in
    let whole : first.0 * 16 + second.0 ≡ pair.0 = same_hex _ _ second.2 in
    let all : pair.0 ∷ rest.0 ≡ bytes = same_hex _ _ rest.2 in
    let digits : AreDigits pair.0 c e = record {
      high = first.0;
      low = second.0;
      first_digit = digit_taken c i (hex_digit_value c) first.0 first.1;
      second_digit = digit_taken e (i + 1) (hex_digit_value e) second.0 second.1;
      together = sym whole;
    } in
    subst (λ bs. IsHexText bs (c ∷ e ∷ text)) all (digits, pairs_spelled (i + 2) text rest.0 rest.1)

spelled_pairs : (i : ℕ) (text bytes : List ℕ) → IsHexText bytes text → decode_pairs i text ≡ Ok bytes
unfolding decode_pairs
spelled_pairs i [] [] is = refl
spelled_pairs i [] (byte ∷ bytes) is = absurd is
spelled_pairs i (c ∷ []) [] is = absurd is
spelled_pairs i (c ∷ []) (byte ∷ bytes) is = absurd is
spelled_pairs i (c ∷ e ∷ text) [] is = absurd is
spelled_pairs i (c ∷ e ∷ text) (byte ∷ bytes) is =
    let digits = is.0 in
    let high : value_at c i ≡ Ok digits.high = ap (digit_or_error c i) digits.first_digit in
    let low : value_at e (i + 1) ≡ Ok digits.low = ap (digit_or_error e (i + 1)) digits.second_digit in
    let pair : pair_value c e i ≡ Ok (digits.high * 16 + digits.low) = rw (high, low) refl in
    decode_pairs-ok_pair i c e _ text pair
    ∙ ap (cons_byte (digits.high * 16 + digits.low)) (spelled_pairs (i + 2) text bytes is.1)
    ∙ ap (λ (v : ℕ). Ok (v ∷ bytes)) (sym digits.together)

-- two digits a byte are an even number
even : (text bytes : List ℕ) → IsHexText bytes text → length text % 2 ≡ 0
even [] bytes is = refl
even (c ∷ []) [] is = absurd is
even (c ∷ []) (byte ∷ bytes) is = absurd is
even (c ∷ e ∷ text) [] is = absurd is
even (c ∷ e ∷ text) (byte ∷ bytes) is = let others = even text bytes is.1 in omega (arith, others)

pub hex_spelled : (text bytes : List ℕ) → decode_of text ≡ Ok bytes → IsHexText bytes text
hex_spelled text bytes = go (length text % 2 == 1)
  where
    go : (b : Bool) → cond b (Err OddLength) (decode_pairs 0 text) ≡ Ok bytes → IsHexText bytes text
    go true h = cc
    go false h = pairs_spelled 0 text bytes h

pub spelled_hex : (text bytes : List ℕ) → IsHexText bytes text → decode_of text ≡ Ok bytes
spelled_hex text bytes is = decode_of-even text (even text bytes is) ∙ spelled_pairs 0 text bytes is
