-- What is read of an item's text is what is spelled by it.
use Rattle.std.proofs.Common.{◌≡◌, ◌<◌, ◌+◌, ◌^◌, ℕ, zero, suc, List, ◌∷◌, ◌++◌, codes, Bool, true, false, cond, bytes_eq, Option, Some, None, option_map, option_and_then, length, get_or, refl, sym, ◌∙◌, ap, subst, arith, append_assoc, length-drop}
use Rattle.std.specs.Fmt.{decimal}
use Rattle.std.specs.List.{before_first, after_first, position_or_len}
use Rattle.std.proofs.lemmas.List.Sums.{split_at_first, passes_at_first}
use Rattle.std.proofs.lemmas.Bool.Decides.{Decides-eqb}
use Rattle.std.proofs.lemmas.Slice.Eq.{bytes_eq-Decides}
use Rattle.std.proofs.lemmas.Fmt.{decimal_nonempty}
use Rattle.album_lists.specs.Whos.{whole_number_of}
use Rattle.album_lists.proofs.Numbers.{number_spelled, spelled_number}
use Rattle.album_items.specs.ItemBack.{kind_of-item, number_of-item}
use Rattle.album_items.specs.ItemIds.{item, kind_of, number_of, IsItemText, word_of, is_slash, code_named, item_of}

-- a text that is a number's has a byte
number_long : (text : List ℕ) (n : ℕ) → whole_number_of text ≡ Some n → 0 < length text
number_long text n e =
    let is = number_spelled n text e in
    let long : 0 < length (decimal n) = decimal_nonempty n is.0 in
    rw is.1 long

-- so there is a slash before it
slash_in : (text : List ℕ) (n : ℕ) → whole_number_of (after_first is_slash text) ≡ Some n → position_or_len is_slash text < length text
slash_in text n e =
    let long : 0 < length (after_first is_slash text) = number_long (after_first is_slash text) n e in
    omega (arith, long, length-drop (position_or_len is_slash text + 1) text)

pub no_slash : (text : List ℕ) → position_or_len is_slash text ≡ length text → item_of text ≡ None
unfolding item_of
no_slash text at = go (code_named (before_first is_slash text)) (whole_number_of (after_first is_slash text)) refl
  where
    go : (c : Option ℕ) (n : Option ℕ) → whole_number_of (after_first is_slash text) ≡ n → option_and_then (λ code. option_map (item code) n) c ≡ None
    go None n e = refl
    go (Some code) None e = refl
    go (Some code) (Some number) e = let before = slash_in text number e in absurd (omega (arith, at, before))

-- the text round its first slash
round_slash : (text : List ℕ) → position_or_len is_slash text < length text → text ≡ before_first is_slash text ++ codes "/" ++ after_first is_slash text
round_slash text at =
    let slash : get_or text (position_or_len is_slash text) 0 ≡ 47 = (Decides-eqb _ 47).0 (passes_at_first is_slash text 0 at) in
    split_at_first is_slash text 0 at ∙ ap (λ (b : ℕ). before_first is_slash text ++ (b ∷ after_first is_slash text)) slash ∙ sym (append_assoc (before_first is_slash text) (codes "/") (after_first is_slash text))

code_spelled : (word : List ℕ) (code : ℕ) → code_named word ≡ Some code → (code < 4) × (word ≡ word_of code)
unfolding code_named
code_spelled word code = go (bytes_eq word (codes "picture")) refl (bytes_eq word (codes "album")) refl (bytes_eq word (codes "list")) refl (bytes_eq word (codes "group")) refl
  where
    at : (c : ℕ) → c < 4 → bytes_eq word (word_of c) ≡ true → Some c ≡ Some code → (code < 4) × (word ≡ word_of code)
    at c small t e =
        let same : c ≡ code = cc in
        subst (λ (k : ℕ). (k < 4) × (word ≡ word_of k)) same (small, (bytes_eq-Decides word (word_of c)).0 t)

    go : (a : Bool) → bytes_eq word (codes "picture") ≡ a → (b : Bool) → bytes_eq word (codes "album") ≡ b → (c : Bool) → bytes_eq word (codes "list") ≡ c → (d : Bool) → bytes_eq word (codes "group") ≡ d
        → cond a (Some 0) (cond b (Some 1) (cond c (Some 2) (cond d (Some 3) None))) ≡ Some code → (code < 4) × (word ≡ word_of code)
    go true ta b tb c tc d td e = at 0 (omega arith) ta e
    go false ta true tb c tc d td e = at 1 (omega arith) tb e
    go false ta false tb true tc d td e = at 2 (omega arith) tc e
    go false ta false tb false tc true td e = at 3 (omega arith) td e
    go false ta false tb false tc false td e = absurd (cc)

pub item_spelled : (i : ℕ) (text : List ℕ) → item_of text ≡ Some i → IsItemText i text
unfolding item_of
item_spelled i text = go (code_named (before_first is_slash text)) refl (whole_number_of (after_first is_slash text)) refl
  where
    at : (code number : ℕ) → code < 4 → before_first is_slash text ≡ word_of code → whole_number_of (after_first is_slash text) ≡ Some number → IsItemText (item code number) text
    at code number small word e =
        let is = number_spelled number (after_first is_slash text) e in
        let whole : text ≡ word_of code ++ codes "/" ++ decimal number = round_slash text (slash_in text number e) ∙ ap (λ (w : List ℕ). w ++ codes "/" ++ after_first is_slash text) word ∙ ap (λ (d : List ℕ). word_of code ++ codes "/" ++ d) is.1 in
        rw (number_of-item code number small, kind_of-item code number small) (is.0, whole)

    go : (c : Option ℕ) → code_named (before_first is_slash text) ≡ c → (n : Option ℕ) → whole_number_of (after_first is_slash text) ≡ n → option_and_then (λ code. option_map (item code) n) c ≡ Some i → IsItemText i text
    go None named n e is = absurd (cc)
    go (Some code) named None e is = absurd (cc)
    go (Some code) named (Some number) e is =
        let word = code_spelled (before_first is_slash text) code named in
        let same : item code number ≡ i = cc in
        subst (λ (k : ℕ). IsItemText k text) same (at code number word.0 word.1 e)

read_at : (code number : ℕ) → code < 4 → number < 2 ^ 64 → item_of (word_of code ++ codes "/" ++ decimal number) ≡ Some (item code number)
unfolding item_of code_named
read_at zero number few small = rw (spelled_number number (decimal number) (small, refl)) refl
read_at (suc zero) number few small = rw (spelled_number number (decimal number) (small, refl)) refl
read_at (suc (suc zero)) number few small = rw (spelled_number number (decimal number) (small, refl)) refl
read_at (suc (suc (suc zero))) number few small = rw (spelled_number number (decimal number) (small, refl)) refl
read_at (suc (suc (suc (suc n)))) number few small = absurd (omega arith)

pub spelled_item : (i : ℕ) (text : List ℕ) → IsItemText i text → item_of text ≡ Some i
spelled_item i text is =
    let small : kind_of i < 4 = omega arith in
    let same : item (kind_of i) (number_of i) ≡ i = omega arith in
    ap item_of is.1 ∙ read_at (kind_of i) (number_of i) small is.0 ∙ ap (λ (k : ℕ). Some k) same
