-- What is written of a JSON value is read back. For `openings_read_back` and `marks_read_back`; `read_back` is of any
-- value that is sound.
use Rattle.std.proofs.Common.{◌≡◌, ℕ, zero, suc, ◌^◌, ◌<◌, ◌≤◌, [], ◌∷◌, Bool, true, false, Some, option_map, option_and_then, IsUtf8, refl, sym, ap, ◌∙◌, arith, append-nil}
use Rattle.std.specs.Prelude.{⊤}
use Rattle.std.proofs.lemmas.Fmt.{IsAscii-decimal}
use Rattle.std.proofs.lemmas.Str.{IsUtf8-append, IsUtf8-nil, IsUtf8-from_ascii}
use Rattle.json.specs.Json as json
use Rattle.json.specs.Lex.{tokens}
use Rattle.json.specs.Print.{quoted}
use Rattle.json.specs.Tree as tree
use Rattle.json.proofs.Printed.Decimals.{IsNumber-decimal}
use Rattle.json.proofs.Printed.Tokens.{tokens-print}
use Rattle.json.proofs.Printed.Trees.{value-json_tokens, ArePrintable-json_tokens}
use Rattle.json.proofs.Printed.Utf8.{IsUtf8-are_ascii, IsUtf8-quoted, IsUtf8-boolean}
use Rattle.serde_json.specs.Data.{Data, null, boolean, number, unsigned, negative, float, string, array, object, Items, no_items, item, Members, no_members, member, put}
use Rattle.serde_json.specs.Read.{read, of_json, of_items, of_members, max_depth}
use Rattle.serde_json.specs.Written.{outline, items_outline, members_outline, comma_if, compact_text, items_text, members_text}
use Rattle.serde_json.proofs.Numbers.{number_of-decimal}
use Rattle.serde_json.proofs.Texts.{print-outline}

-- ---- values that are sound

-- these members, put one after another among those that are there
abbrev pub puts : Members → Members → Members
puts no_members found = found
puts (member k d ms) found = puts ms (put k d found)

-- it nests at most so deep, its numbers fit 64 bits, its texts are UTF-8, and its members are in order
abbrev mutual
  pub IsSound : Data → ℕ → Type 0
  IsSound null n = ⊤
  IsSound (boolean b) n = ⊤
  IsSound (number (unsigned m)) n = m < 2 ^ 64
  IsSound (number (negative z)) n = ⊥
  IsSound (number (float x)) n = ⊥
  IsSound (string s) n = IsUtf8 s
  IsSound (array ds) zero = ⊥
  IsSound (array ds) (suc n) = ItemsAreSound ds n
  IsSound (object ms) zero = ⊥
  IsSound (object ms) (suc n) = MembersAreSound ms n × (puts ms no_members ≡ ms)

  pub ItemsAreSound : Items → ℕ → Type 0
  ItemsAreSound no_items n = ⊤
  ItemsAreSound (item d ds) n = IsSound d n × ItemsAreSound ds n

  pub MembersAreSound : Members → ℕ → Type 0
  MembersAreSound no_members n = ⊤
  MembersAreSound (member k d ms) n = IsUtf8 k × IsSound d n × MembersAreSound ms n

-- ---- its tree

mutual
  of_outline : (d : Data) (n : ℕ) → IsSound d n → of_json (outline d) ≡ Some d
  of_outline null n h = refl
  of_outline (boolean b) n h = refl
  of_outline (number (unsigned m)) n h = ap (option_map number) (number_of-decimal m h)
  of_outline (number (negative z)) n h = absurd h
  of_outline (number (float x)) n h = absurd h
  of_outline (string s) n h = refl
  of_outline (array ds) zero h = absurd h
  of_outline (array ds) (suc n) h = ap (option_map array) (of_items_outline ds n h)
  of_outline (object ms) zero h = absurd h
  of_outline (object ms) (suc n) h =
      ap (option_map object) (of_members_outline ms n no_members h.0) ∙ ap (λ ns. Some (object ns)) h.1

  of_items_outline : (ds : Items) (n : ℕ) → ItemsAreSound ds n → of_items (items_outline ds) ≡ Some ds
  of_items_outline no_items n h = refl
  of_items_outline (item d ds) n h =
      ap (option_and_then (λ e. option_map (item e) (of_items (items_outline ds)))) (of_outline d n h.0)
      ∙ ap (option_map (item d)) (of_items_outline ds n h.1)

  of_members_outline : (ms : Members) (n : ℕ) (found : Members) → MembersAreSound ms n
      → of_members (members_outline ms) found ≡ Some (puts ms found)
  of_members_outline no_members n found h = refl
  of_members_outline (member k d ms) n found h =
      ap (option_and_then (λ e. of_members (members_outline ms) (put k e found))) (of_outline d n h.1)
      ∙ of_members_outline ms n (put k d found) h.2

mutual
  shallow : (d : Data) (n : ℕ) → IsSound d n → tree.depth (outline d) ≤ n
  shallow null n h = omega arith
  shallow (boolean b) n h = omega arith
  shallow (number (unsigned m)) n h = omega arith
  shallow (number (negative z)) n h = absurd h
  shallow (number (float x)) n h = absurd h
  shallow (string s) n h = omega arith
  shallow (array ds) zero h = absurd h
  shallow (array ds) (suc n) h = omega (arith, shallow_items ds n h)
  shallow (object ms) zero h = absurd h
  shallow (object ms) (suc n) h = omega (arith, shallow_members ms n h.0)

  shallow_items : (ds : Items) (n : ℕ) → ItemsAreSound ds n → tree.items_depth (items_outline ds) ≤ n
  shallow_items no_items n h = omega arith
  shallow_items (item d ds) n h = omega (arith, shallow d n h.0, shallow_items ds n h.1)

  shallow_members : (ms : Members) (n : ℕ) → MembersAreSound ms n → tree.members_depth (members_outline ms) ≤ n
  shallow_members no_members n h = omega arith
  shallow_members (member k d ms) n h = omega (arith, shallow d n h.1, shallow_members ms n h.2)

mutual
  numbered : (d : Data) (n : ℕ) → IsSound d n → tree.HasNumbers (outline d)
  numbered null n h = tt
  numbered (boolean b) n h = tt
  numbered (number (unsigned m)) n h = IsNumber-decimal m h
  numbered (number (negative z)) n h = absurd h
  numbered (number (float x)) n h = absurd h
  numbered (string s) n h = tt
  numbered (array ds) zero h = absurd h
  numbered (array ds) (suc n) h = numbered_items ds n h
  numbered (object ms) zero h = absurd h
  numbered (object ms) (suc n) h = numbered_members ms n h.0

  numbered_items : (ds : Items) (n : ℕ) → ItemsAreSound ds n → tree.ItemsHaveNumbers (items_outline ds)
  numbered_items no_items n h = tt
  numbered_items (item d ds) n h = (numbered d n h.0, numbered_items ds n h.1)

  numbered_members : (ms : Members) (n : ℕ) → MembersAreSound ms n → tree.MembersHaveNumbers (members_outline ms)
  numbered_members no_members n h = tt
  numbered_members (member k d ms) n h = (numbered d n h.1, numbered_members ms n h.2)

-- ---- its text

comma_utf8 : (later : Bool) → IsUtf8 (comma_if later)
comma_utf8 true = IsUtf8-are_ascii (44 ∷ []) refl
comma_utf8 false = IsUtf8-nil

mutual
  pub text_utf8 : (d : Data) (n : ℕ) → IsSound d n → IsUtf8 (compact_text d)
  text_utf8 null n h = IsUtf8-are_ascii _ refl
  text_utf8 (boolean b) n h = IsUtf8-boolean b
  text_utf8 (number (unsigned m)) n h = IsUtf8-from_ascii _ (IsAscii-decimal m h)
  text_utf8 (number (negative z)) n h = absurd h
  text_utf8 (number (float x)) n h = absurd h
  text_utf8 (string s) n h = IsUtf8-quoted s h
  text_utf8 (array ds) zero h = absurd h
  text_utf8 (array ds) (suc n) h =
      IsUtf8-append (91 ∷ []) (items_text false ds) (IsUtf8-are_ascii _ refl) (items_utf8 false ds n h)
  text_utf8 (object ms) zero h = absurd h
  text_utf8 (object ms) (suc n) h =
      IsUtf8-append (123 ∷ []) (members_text false ms) (IsUtf8-are_ascii _ refl) (members_utf8 false ms n h.0)

  items_utf8 : (later : Bool) (ds : Items) (n : ℕ) → ItemsAreSound ds n → IsUtf8 (items_text later ds)
  items_utf8 later no_items n h = IsUtf8-are_ascii (93 ∷ []) refl
  items_utf8 later (item d ds) n h =
      IsUtf8-append (comma_if later) _ (comma_utf8 later)
      (IsUtf8-append (compact_text d) _ (text_utf8 d n h.0) (items_utf8 true ds n h.1))

  members_utf8 : (later : Bool) (ms : Members) (n : ℕ) → MembersAreSound ms n → IsUtf8 (members_text later ms)
  members_utf8 later no_members n h = IsUtf8-are_ascii (125 ∷ []) refl
  members_utf8 later (member k d ms) n h =
      IsUtf8-append (comma_if later) _ (comma_utf8 later)
      (IsUtf8-append (quoted k) _ (IsUtf8-quoted k h.0)
      (IsUtf8-append (58 ∷ []) _ (IsUtf8-are_ascii _ refl)
      (IsUtf8-append (compact_text d) _ (text_utf8 d n h.1) (members_utf8 true ms n h.2))))

-- the value that its text reads as
pub read_back : (d : Data) → IsSound d max_depth → read (compact_text d) ≡ Some d
read_back d h =
    let printed : tokens (compact_text d) ≡ tree.json_tokens (outline d) =
    ap tokens (sym (print-outline d))
    ∙ tokens-print (tree.json_tokens (outline d)) (ArePrintable-json_tokens (outline d) (numbered d max_depth h)) in
    ap (λ o. option_and_then of_json (option_and_then (λ p. json.if_last p.0 p.1) o))
    (ap (json.value max_depth) (printed ∙ sym (append-nil _))
    ∙ value-json_tokens (outline d) max_depth [] (shallow d max_depth h))
    ∙ of_outline d max_depth h
