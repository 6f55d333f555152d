-- A number that is read digit by digit. For `tokens::number_at_front`.
use Rattle.std.proofs.Common.{◌≡◌, ◌≢◌, ℕ, ◌+◌, ◌-◌, ◌*◌, ◌^◌, ◌<◌, ◌≤◌, List, [], ◌∷◌, ◌++◌, length, take, get_or, decimal, refl, sym, ap, ◌∙◌, add-one, arith}
use Rattle.std.specs.Char.{IsAsciiDigit, digit_value}
use Rattle.std.specs.Str.Parse.{AllDigits, digits_value}
use Rattle.std.proofs.Math.Seq.{take-suc}
use Rattle.std.proofs.lemmas.Fmt.{decimal_digit, decimal-digits_value}
use Rattle.std.proofs.lemmas.Int.Digits.{digits_value_more}
use Rattle.std.proofs.lemmas.List.{length-take-le, get_or-take}
use Rattle.std.proofs.lemmas.Str.{digit_value_digit}
use Rattle.std.proofs.lemmas.Str.Parse.{IsNumeralModel, numerals_by_value, tells_digits, digits_value_short}

own : IsNumeralModel (AllDigits 10) (digits_value 10)
own = numerals_by_value (AllDigits 10) tells_digits

all_digits-push : (ds : List ℕ) (c : ℕ) → AllDigits 10 ds → digit_value c < 10 → AllDigits 10 (ds ++ c ∷ [])
all_digits-push [] c d h = (h, tt)
all_digits-push (x ∷ ds) c d h = (d.0, all_digits-push ds c d.1 h)

-- the number that the first digits of a text write
pub record IsRead (text : List ℕ) (n len : ℕ) : Type 0 where
  pub value : n ≡ digits_value 10 (take len text)
  pub digits : AllDigits 10 (take len text)
  pub within : len ≤ length text

pub nothing_read : (text : List ℕ) → IsRead text 0 0
nothing_read text = record { value = refl; digits = tt; within = omega arith }

short_value : (text : List ℕ) (n len k : ℕ) → IsRead text n len → len ≤ k → n < 10 ^ k
short_value text n len k h l =
    let short : length (take len text) ≤ k = omega (arith, length-take-le len text h.within) in
    rw h.value (digits_value_short own (take len text) k h.digits short)

pub is_small : (text : List ℕ) (n len : ℕ) → IsRead text n len → len < 18 → n < 10 ^ 17
is_small text n len h l = short_value text n len 17 h (omega arith)

pub one_more : (text : List ℕ) (n len d : ℕ) → IsRead text n len → len < length text → IsAsciiDigit (get_or text len 0)
    → d ≡ get_or text len 0 - 48 → IsRead text (n * 10 + d) (len + 1)
one_more text n len d h l digit is =
    let worth = digit_value_digit (get_or text len 0) digit in
    record {
      value = (let more = digits_value_more 10 text len l in omega (arith, more, worth, is, h.value));
      digits = rw (add-one, take-suc text len 0) (all_digits-push (take len text) (get_or text len 0) h.digits (omega (arith, worth, digit)));
      within = omega arith;
    }

pub read_decimal : (text : List ℕ) (n len : ℕ) → IsRead text n len → 0 < len → len ≤ 18 → get_or text 0 0 ≢ 48
    → (n < 2 ^ 64) × (take len text ≡ decimal n)
read_decimal text n len h some few lead =
    let small : n < 10 ^ 18 = short_value text n len 18 h few in
    let first : get_or (take len text) 0 0 ≡ get_or text 0 0 = get_or-take len text 0 0 some in
    let written : decimal (digits_value 10 (take len text)) ≡ take len text =
    decimal-digits_value own (take len text) h.digits (omega (arith, length-take-le len text h.within))
    (λ e. absurd (lead (sym first ∙ e))) (omega (arith, h.value)) in
    (omega arith, sym written ∙ ap decimal (sym h.value))

pub one_zero : (text : List ℕ) → 0 < length text → get_or text 0 0 ≡ 48 → take 1 text ≡ decimal 0
one_zero [] l e = absurd (omega arith)
one_zero (x ∷ text) l e = ap (λ k. k ∷ []) e ∙ sym (decimal_digit 0 (omega arith))
