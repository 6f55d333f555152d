-- The token at the front of a text, and what follows it. For `tokens`.
use Rattle.std.proofs.Common.{nat_lt, ◌≡◌, ◌<◌, ◌+◌, ◌^◌, ℕ, suc, List, [], ◌∷◌, ◌++◌, length, take, drop, Bool, true, false, cond, not, ◌||◌, ◌==◌, Some, None, decimal, refl, sym, ap, ap₂, ◌∙◌, arith}
use Rattle.std.specs.List.{list_all, prefix_len, slice_get}
use Rattle.std.proofs.lemmas.List.{take-append-drop}
use Rattle.std.proofs.lemmas.Bool.{and_parts, ltb-false}
use Rattle.std.proofs.lemmas.Bool.Decides.{Decides-eqb}
use Rattle.json.specs.Token.{Token, begin_object, end_object, begin_array, end_array, key, string, number}
use Rattle.json.specs.Lex as lexed
use Rattle.json.specs.Lex.{Lexeme, between, in_string, lex, punctuate, may_begin, may_close, begins_colon, token, comma, colon, string_token}
use Rattle.json.specs.Text.{content, plain}
use Rattle.json.specs.Print.{escape, escape_byte}
use Rattle.json.specs.Run.{is_plain}
use Rattle.json.specs.Word.{ends_word}
use Rattle.json.proofs.Printed.Strings.{escape_byte_plain, content-escape, lex-escape}
use Rattle.json.proofs.Printed.Numbers.{lex-number}
use Rattle.json.proofs.Printed.Decimals.{IsNumber-decimal}
use Rattle.album_lines.specs.Front.{MayBegin, MayClose, GoesOn, is_blank}
use Rattle.album_lines.proofs.Newlines.{all_in_prefix}

-- ---- a text

itself : (x : ℕ) → is_plain x ≡ true → escape_byte x ≡ x ∷ []
itself x = go (x == 34) refl (x == 92) refl (nat_lt x 32) refl
  where
    go : (a : Bool) → (x == 34) ≡ a → (b : Bool) → (x == 92) ≡ b → (c : Bool) → nat_lt x 32 ≡ c
        → not ((a || b) || c) ≡ true → escape_byte x ≡ x ∷ []
    go false e false f false g h =
        escape_byte_plain x (λ is. let yes = (Decides-eqb x 34).1 is in absurd (cc)) (λ is. let yes = (Decides-eqb x 92).1 is in absurd (cc))
        (ltb-false x 32 g)
    go true e b f c g h = cc
    go false e true f c g h = cc
    go false e false f true g h = cc

all_themselves : (s : List ℕ) → list_all is_plain s ≡ true → escape s ≡ s
all_themselves [] h = refl
all_themselves (x ∷ s) h =
    let both = and_parts _ _ h in
    ap₂ (λ (a b : List ℕ). a ++ b) (itself x both.0) (all_themselves s both.1)

lex_text : (s more : List ℕ) → list_all is_plain s ≡ true
    → lex between (34 ∷ (s ++ 34 ∷ more)) ≡ token (string s) ∷ lex between more
unfolding lex
lex_text s more h =
    let same : s ++ 34 ∷ more ≡ escape s ++ 34 ∷ more = ap (λ (a : List ℕ). a ++ 34 ∷ more) (sym (all_themselves s h)) in
    ap₂ (λ o l. token (string_token o) ∷ l) (ap (content plain) same ∙ content-escape s more) (ap (lex in_string) same ∙ lex-escape s more)

pub a_quoted : (text body front back more : List ℕ)
    → text ≡ 34 ∷ body
    → front ≡ take (prefix_len is_plain body) body
    → body ≡ front ++ back
    → back ≡ 34 ∷ more
    → lex between text ≡ token (string front) ∷ lex between more
a_quoted text body front back more first is parts last =
    let plain_front : list_all is_plain front ≡ true = ap (list_all is_plain) is ∙ all_in_prefix is_plain body in
    ap (lex between) (first ∙ ap (λ b. 34 ∷ b) (parts ∙ ap (λ b. front ++ b) last)) ∙ lex_text front more plain_front

-- a text that was split
pub split_parts : (text front back : List ℕ) (n : ℕ) → front ≡ take n text → back ≡ drop n text → text ≡ front ++ back
split_parts text front back n is_front is_back = sym (ap₂ (λ (a b : List ℕ). a ++ b) is_front is_back ∙ take-append-drop n text)

-- ---- a number

pub a_number : (text front more : List ℕ) (n : ℕ)
    → text ≡ front ++ more
    → n < 2 ^ 64
    → front ≡ decimal n
    → ends_word more ≡ true
    → (n < 2 ^ 64) × (lex between text ≡ token (number (decimal n)) ∷ lex between more)
a_number text front more n parts small is ended =
    (small, ap (lex between) (parts ∙ ap (λ f. f ++ more) is) ∙ lex-number (decimal n) more (IsNumber-decimal n small) ended)

-- ---- blanks

blank_first : (x : ℕ) (xs : List ℕ) → is_blank x ≡ true → lex between (x ∷ xs) ≡ lex between xs
unfolding lex
blank_first x xs = go (x == 32) refl (x == 9) refl (x == 10) refl (x == 13) refl
  where
    at : (k : ℕ) → (x == k) ≡ true → x ≡ k
    at k e = (Decides-eqb x k).0 e

    go : (a : Bool) → (x == 32) ≡ a → (b : Bool) → (x == 9) ≡ b → (c : Bool) → (x == 10) ≡ c → (d : Bool) → (x == 13) ≡ d
        → (a || (b || (c || d))) ≡ true → lex between (x ∷ xs) ≡ lex between xs
    go true e b f c g d i h = ap (λ k. lex between (k ∷ xs)) (at 32 e)
    go false e true f c g d i h = ap (λ k. lex between (k ∷ xs)) (at 9 f)
    go false e false f true g d i h = ap (λ k. lex between (k ∷ xs)) (at 10 g)
    go false e false f false g true i h = ap (λ k. lex between (k ∷ xs)) (at 13 i)
    go false e false f false g false i h = cc

pub blanks_passed : (xs : List ℕ) → lex between (drop (prefix_len is_blank xs) xs) ≡ lex between xs
blanks_passed [] = refl
blanks_passed (x ∷ xs) = go (is_blank x) refl (prefix_len is_blank xs) (blanks_passed xs)
  where
    go : (b : Bool) → is_blank x ≡ b → (n : ℕ) → lex between (drop n xs) ≡ lex between xs
        → lex between (drop (cond b (1 + n) 0) (x ∷ xs)) ≡ lex between (x ∷ xs)
    go true e n rest = let step : 1 + n ≡ suc n = omega arith in rw step (rest ∙ sym (blank_first x xs e))
    go false e n rest = refl

-- ---- where a token is

begun_text : (p : lexed.Place) (s : List ℕ) (ls : List Lexeme) → may_begin p ≡ true → begins_colon ls ≡ false
    → punctuate p (token (string s) ∷ ls) ≡ string s ∷ punctuate lexed.after_value ls
unfolding punctuate
begun_text lexed.fresh s ls e f = rw f refl
begun_text lexed.after_value s ls e f = cc
begun_text lexed.after_comma s ls e f = rw f refl
begun_text lexed.after_key s ls e f = cc

begun_number : (p : lexed.Place) (s : List ℕ) (ls : List Lexeme) → may_begin p ≡ true
    → punctuate p (token (number s) ∷ ls) ≡ number s ∷ punctuate lexed.after_value ls
unfolding punctuate
begun_number lexed.fresh s ls e = refl
begun_number lexed.after_value s ls e = cc
begun_number lexed.after_comma s ls e = refl
begun_number lexed.after_key s ls e = cc

begun_key : (p : lexed.Place) (s : List ℕ) (ls : List Lexeme) → may_begin p ≡ true
    → punctuate p (token (string s) ∷ colon ∷ ls) ≡ key s ∷ punctuate lexed.fresh ls
unfolding punctuate
begun_key lexed.fresh s ls e = refl
begun_key lexed.after_value s ls e = cc
begun_key lexed.after_comma s ls e = refl
begun_key lexed.after_key s ls e = cc

begun_list : (p : lexed.Place) (xs : List ℕ) → may_begin p ≡ true
    → punctuate p (lex between (91 ∷ xs)) ≡ begin_array ∷ punctuate lexed.fresh (lex between xs)
unfolding punctuate lex
begun_list lexed.fresh xs e = refl
begun_list lexed.after_value xs e = cc
begun_list lexed.after_comma xs e = refl
begun_list lexed.after_key xs e = cc

begun_object : (p : lexed.Place) (xs : List ℕ) → may_begin p ≡ true
    → punctuate p (lex between (123 ∷ xs)) ≡ begin_object ∷ punctuate lexed.fresh (lex between xs)
unfolding punctuate lex
begun_object lexed.fresh xs e = refl
begun_object lexed.after_value xs e = cc
begun_object lexed.after_comma xs e = refl
begun_object lexed.after_key xs e = cc

closed_list : (p : lexed.Place) (xs : List ℕ) → may_close p ≡ true
    → punctuate p (lex between (93 ∷ xs)) ≡ end_array ∷ punctuate lexed.after_value (lex between xs)
unfolding punctuate lex
closed_list lexed.fresh xs e = refl
closed_list lexed.after_value xs e = refl
closed_list lexed.after_comma xs e = cc
closed_list lexed.after_key xs e = cc

closed_object : (p : lexed.Place) (xs : List ℕ) → may_close p ≡ true
    → punctuate p (lex between (125 ∷ xs)) ≡ end_object ∷ punctuate lexed.after_value (lex between xs)
unfolding punctuate lex
closed_object lexed.fresh xs e = refl
closed_object lexed.after_value xs e = refl
closed_object lexed.after_comma xs e = cc
closed_object lexed.after_key xs e = cc

pub text_taken : (old new : List Token) (text more s : List ℕ) → MayBegin old text
    → lex between text ≡ token (string s) ∷ lex between more
    → GoesOn more new
    → old ≡ string s ∷ new
text_taken old new text more s m e g =
    m.2 ∙ ap (punctuate m.0) e ∙ begun_text m.0 s (lex between more) m.1 g.0 ∙ ap (λ ts. string s ∷ ts) g.1

pub number_taken : (old new : List Token) (text more s : List ℕ) → MayBegin old text
    → lex between text ≡ token (number s) ∷ lex between more
    → GoesOn more new
    → old ≡ number s ∷ new
number_taken old new text more s m e g =
    m.2 ∙ ap (punctuate m.0) e ∙ begun_number m.0 s (lex between more) m.1 ∙ ap (λ ts. number s ∷ ts) g.1

pub lex_colon : (xs : List ℕ) → lex between (58 ∷ xs) ≡ colon ∷ lex between xs
unfolding lex
lex_colon xs = refl

pub key_taken : (old : List Token) (text more behind rest s : List ℕ) → MayBegin old text
    → lex between text ≡ token (string s) ∷ lex between more
    → lex between (58 ∷ behind) ≡ lex between more
    → lex between rest ≡ lex between behind
    → old ≡ key s ∷ punctuate lexed.fresh (lex between rest)
key_taken old text more behind rest s m e f g =
    m.2 ∙ ap (punctuate m.0) (e ∙ ap (λ ls. token (string s) ∷ ls) (sym f ∙ lex_colon behind)) ∙ begun_key m.0 s (lex between behind) m.1
    ∙ ap (λ ls. key s ∷ punctuate lexed.fresh ls) (sym g)

pub list_taken : (old : List Token) (text more rest : List ℕ) → MayBegin old text
    → text ≡ 91 ∷ more
    → lex between rest ≡ lex between more
    → old ≡ begin_array ∷ punctuate lexed.fresh (lex between rest)
list_taken old text more rest m e g =
    m.2 ∙ ap (λ t. punctuate m.0 (lex between t)) e ∙ begun_list m.0 more m.1 ∙ ap (λ ls. begin_array ∷ punctuate lexed.fresh ls) (sym g)

pub object_taken : (old : List Token) (text more rest : List ℕ) → MayBegin old text
    → text ≡ 123 ∷ more
    → lex between rest ≡ lex between more
    → old ≡ begin_object ∷ punctuate lexed.fresh (lex between rest)
object_taken old text more rest m e g =
    m.2 ∙ ap (λ t. punctuate m.0 (lex between t)) e ∙ begun_object m.0 more m.1 ∙ ap (λ ls. begin_object ∷ punctuate lexed.fresh ls) (sym g)

pub list_ended : (old new : List Token) (more : List ℕ) → MayClose old (93 ∷ more) → GoesOn more new → old ≡ end_array ∷ new
list_ended old new more m g = m.2 ∙ closed_list m.0 more m.1 ∙ ap (λ ts. end_array ∷ ts) g.1

pub object_ended : (old new : List Token) (more : List ℕ) → MayClose old (125 ∷ more) → GoesOn more new → old ≡ end_object ∷ new
object_ended old new more m g = m.2 ∙ closed_object m.0 more m.1 ∙ ap (λ ts. end_object ∷ ts) g.1

-- ---- after a value

pub comma_behind : (text text' more rest : List ℕ)
    → lex between text' ≡ lex between text
    → text' ≡ 44 ∷ more
    → lex between rest ≡ lex between more
    → GoesOn text (punctuate lexed.after_comma (lex between rest))
unfolding lex punctuate
comma_behind text text' more rest same e g =
    let first : lex between text ≡ comma ∷ lex between more = sym same ∙ ap (lex between) e in
    (ap begins_colon first, ap (punctuate lexed.after_value) first ∙ ap (punctuate lexed.after_comma) (sym g))

pub end_behind : (text text' : List ℕ)
    → lex between text' ≡ lex between text
    → begins_colon (lex between text') ≡ false
    → GoesOn text (punctuate lexed.after_value (lex between text'))
end_behind text text' same e = (ap begins_colon (sym same) ∙ e, ap (punctuate lexed.after_value) (sym same))

-- a text without a byte
no_byte : (text : List ℕ) → (length text == 0) ≡ true → text ≡ []
no_byte [] e = refl
no_byte (x ∷ text) e = let never = (Decides-eqb (length (x ∷ text)) 0).0 e in absurd (omega (arith, never))

pub none_behind : (text : List ℕ) (test : Bool) → test ≡ (length text == 0) → test ≡ true
    → punctuate lexed.after_value (lex between text) ≡ []
unfolding lex punctuate
none_behind text test is e = rw (no_byte text (sym is ∙ e)) refl

pub first_none : (text : List ℕ) → None ≡ slice_get text 0 → begins_colon (lex between text) ≡ false
unfolding lex
first_none [] e = refl
first_none (x ∷ text) e = absurd (cc)

pub first_is : (text : List ℕ) (byte : ℕ) → Some byte ≡ slice_get text 0 → text ≡ byte ∷ drop 1 text
first_is [] byte e = absurd (cc)
first_is (x ∷ text) byte e = let same : x ≡ byte = cc in ap (λ y. y ∷ text) same

pub ends_at_bracket : (text : List ℕ) (byte : ℕ) → Some byte ≡ slice_get text 0 → byte ≡ 93 → begins_colon (lex between text) ≡ false
unfolding lex
ends_at_bracket text byte e is = ap (λ t. begins_colon (lex between t)) (first_is text byte e ∙ ap (λ b. b ∷ drop 1 text) is)

pub ends_at_brace : (text : List ℕ) (byte : ℕ) → Some byte ≡ slice_get text 0 → byte ≡ 125 → begins_colon (lex between text) ≡ false
unfolding lex
ends_at_brace text byte e is = ap (λ t. begins_colon (lex between t)) (first_is text byte e ∙ ap (λ b. b ∷ drop 1 text) is)
