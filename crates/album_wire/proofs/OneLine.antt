-- What is written of a JSON value has no newline. For `openings_read_back` and `marks_read_back`, by `text_in_line`.
use Rattle.std.proofs.Common.{◌≡◌, ℕ, zero, suc, ◌^◌, ◌<◌, ◌==◌, ◌&&◌, List, [], ◌∷◌, ◌++◌, Bool, true, false, not, inl, inr, decimal, refl, ◌∙◌, arith}
use Rattle.std.specs.Char.{digit_value}
use Rattle.std.specs.List.{list_all}
use Rattle.std.specs.Str.Parse.{AllDigits}
use Rattle.std.proofs.lemmas.Bool.{and_parts, and_from, cases_lt, cases_eq, ne_eqb}
use Rattle.std.proofs.lemmas.Fmt.{decimal_is_IsNumeral}
use Rattle.std.proofs.lemmas.List.Folds.{list_all-append}
use Rattle.json.specs.Print.{escape_byte, escape, quoted}
use Rattle.json.proofs.Printed.Strings.{escape_byte_plain}
use Rattle.serde_json.specs.Data.{Data, null, boolean, number, unsigned, negative, float, string, array, object, Items, no_items, item, Members, no_members, member}
use Rattle.serde_json.specs.Written.{comma_if, compact_text, items_text, members_text}
use Rattle.album_wire.proofs.ReadBack.{IsSound, ItemsAreSound, MembersAreSound}

-- no byte is a newline
abbrev in_line : List ℕ → Bool
in_line bytes = list_all (λ byte. not (byte == 10)) bytes

both_in_line : (xs ys : List ℕ) → in_line xs ≡ true → in_line ys ≡ true → in_line (xs ++ ys) ≡ true
both_in_line xs ys h k = list_all-append (λ byte. not (byte == 10)) xs ys ∙ and_from _ _ h k

-- ---- texts

-- the escapes of the bytes below n
abbrev escapes_below : ℕ → Bool
escapes_below zero = true
escapes_below (suc n) = in_line (escape_byte n) && escapes_below n

escape_below : (n : ℕ) → escapes_below n ≡ true → (x : ℕ) → x < n → in_line (escape_byte x) ≡ true
escape_below zero e x h = absurd (omega arith)
escape_below (suc n) e x h =
    let both = and_parts _ _ e in
    elim (cases_eq x n) [ inl same ↦ rw same both.0 | inr other ↦ escape_below n both.1 x (omega arith) ]

low_escapes : escapes_below 128 ≡ true
unfolding escape_byte
low_escapes = refl

escape_in_line : (x : ℕ) → in_line (escape_byte x) ≡ true
escape_in_line x = elim (cases_lt x 128) [
  | inl low ↦ escape_below 128 low_escapes x low
  | inr high ↦
      rw (escape_byte_plain x (λ e. omega arith) (λ e. omega arith) (omega arith), ne_eqb x 10 (λ e. omega arith)) refl
]

escapes_in_line : (text : List ℕ) → in_line (escape text) ≡ true
escapes_in_line [] = refl
escapes_in_line (x ∷ text) = both_in_line (escape_byte x) (escape text) (escape_in_line x) (escapes_in_line text)

quoted_in_line : (text : List ℕ) → in_line (quoted text) ≡ true
quoted_in_line text = both_in_line (escape text) (34 ∷ []) (escapes_in_line text) refl

-- ---- numbers

digits_in_line : (digits : List ℕ) → AllDigits 10 digits → in_line digits ≡ true
digits_in_line [] h = refl
digits_in_line (d ∷ digits) h =
    let digit : digit_value d < 10 = h.0 in
    let other : not (d == 10) ≡ true = rw (ne_eqb d 10 (λ e. not_digit d e digit)) refl in
    and_from _ _ other (digits_in_line digits h.1)
  where
    not_digit : (d : ℕ) → d ≡ 10 → digit_value d < 10 → ⊥
    not_digit d e h = grind arith

decimal_in_line : (n : ℕ) → n < 2 ^ 64 → in_line (decimal n) ≡ true
decimal_in_line n h = digits_in_line (decimal n) (decimal_is_IsNumeral n h).0.1

-- ---- values

comma_in_line : (later : Bool) → in_line (comma_if later) ≡ true
comma_in_line true = refl
comma_in_line false = refl

mutual
  pub text_in_line : (d : Data) (n : ℕ) → IsSound d n → in_line (compact_text d) ≡ true
  text_in_line null n h = refl
  text_in_line (boolean true) n h = refl
  text_in_line (boolean false) n h = refl
  text_in_line (number (unsigned m)) n h = decimal_in_line m h
  text_in_line (number (negative z)) n h = absurd h
  text_in_line (number (float x)) n h = absurd h
  text_in_line (string s) n h = quoted_in_line s
  text_in_line (array ds) zero h = absurd h
  text_in_line (array ds) (suc n) h = items_in_line false ds n h
  text_in_line (object ms) zero h = absurd h
  text_in_line (object ms) (suc n) h = members_in_line false ms n h.0

  items_in_line : (later : Bool) (ds : Items) (n : ℕ) → ItemsAreSound ds n → in_line (items_text later ds) ≡ true
  items_in_line later no_items n h = refl
  items_in_line later (item d ds) n h =
      both_in_line (comma_if later) _ (comma_in_line later)
      (both_in_line (compact_text d) _ (text_in_line d n h.0) (items_in_line true ds n h.1))

  members_in_line : (later : Bool) (ms : Members) (n : ℕ) → MembersAreSound ms n
      → in_line (members_text later ms) ≡ true
  members_in_line later no_members n h = refl
  members_in_line later (member k d ms) n h =
      both_in_line (comma_if later) _ (comma_in_line later)
      (both_in_line (quoted k) _ (quoted_in_line k)
      (both_in_line (58 ∷ []) (compact_text d ++ members_text true ms) refl
      (both_in_line (compact_text d) (members_text true ms) (text_in_line d n h.1) (members_in_line true ms n h.2))))
