-- What is taken of tokens, put together from its parts. For `judge_tokens`: values, the items of a list, and loops.
use Rattle.std.proofs.Common.{◌^◌, decimal, Bor, ◌≡◌, ◌≤◌, ◌<◌, ◌-◌, ◌++◌, ℕ, suc, List, [], ◌∷◌, length, map, is_some, IfSome, Vec, Global, true, Option, Some, None, option_map, unwrap_or, Result, Ok, refl, sym, ap, ◌∙◌, subst, arith}
use Rattle.std.proofs.lemmas.List.{append_assoc, append-nil}
use Rattle.std.proofs.lemmas.Bool.{and_from}
use Rattle.json.specs.Token.{Token}
use Rattle.json.specs.Json as json
use Rattle.json.specs.Json.{after_end_array, read_key}
use Rattle.json.proofs.Grammar.{left, value_is, value-begin_array, items_end, items_more, skip_value-shorter}
use Rattle.serde_json.specs.Data.{Data, number, unsigned, null, array, item, no_items}
use Rattle.serde_json.specs.Read.{number_of}
use Rattle.serde_json.proofs.Numbers.{number_of-decimal}
use Rattle.album_stamps.specs.declared.refusals.Refusal.{Refusal}
use Rattle.album_stamps.specs.Distinct.{are_distinct}
use Rattle.album_stamps.specs.Outcome.{◌>>=◌}
use Rattle.album_access.specs.declared.types.AceType.{AceType}
use Rattle.album_lists.specs.declared.lists.Holder.{Holder}
use Rattle.album_eval.specs.Policies.{policy_of}
use Rattle.album_eval.specs.declared.policies.Policy.{Policy}
use Rattle.album_lines.specs.Fields.{list_of, each, text_of, whole_of}
use Rattle.album_lines.specs.Shapes.{sort_of, spelled_entry, entry_shape_of, entry_shapes_of, texts_of}
use Rattle.album_lines.specs.declared.shapes.EntryShape.{EntryShape}
use Rattle.album_lines.specs.JudgeShape.{SpelledGroup, group_shape_of, groups_shape_of, numbers, holder_of, kind_shape_of, policy_shape_of}
use Rattle.album_lines.specs.Trees.{data_in}
use Rattle.album_lines.specs.Tokens.{Begins, BeginItems, Takes, TakesAll}

-- ---- one value

-- a value takes a token at least
pub shorter : (deep : ℕ) (ts rest : List Token) (j : json.Json) → Begins deep ts j rest → length rest < length ts
shorter deep ts rest j b = skip_value-shorter deep ts rest (ap left (b deep (omega arith)))

-- what begins a value closes no list
pub not_closed : (deep : ℕ) (ts rest : List Token) (j : json.Json) → Begins deep ts j rest → after_end_array ts ≡ None
not_closed deep [] rest j b = refl
not_closed deep (Token.begin_object ∷ ts) rest j b = refl
not_closed deep (Token.end_object ∷ ts) rest j b = refl
not_closed deep (Token.begin_array ∷ ts) rest j b = refl
not_closed deep (Token.end_array ∷ ts) rest j b =
    let never = sym (value_is deep (Token.end_array ∷ ts)) ∙ b deep (omega arith) in absurd (cc)
not_closed deep (Token.key s ∷ ts) rest j b = refl
not_closed deep (Token.string s ∷ ts) rest j b = refl
not_closed deep (Token.number s ∷ ts) rest j b = refl
not_closed deep (Token.boolean t ∷ ts) rest j b = refl
not_closed deep (Token.null ∷ ts) rest j b = refl
not_closed deep (Token.bad ∷ ts) rest j b = refl

pub deeper : (m n : ℕ) (ts rest : List Token) (j : json.Json) → m ≤ n → Begins m ts j rest → Begins n ts j rest
deeper m n ts rest j le b = λ depth more. b depth (omega (arith, le, more))

pub a_text : (ts rest : List Token) (s : List ℕ) → ts ≡ Token.string s ∷ rest → Takes 0 text_of ts s rest
a_text ts rest s e = (json.string s, λ depth le. ap (json.value depth) e ∙ value_is depth (Token.string s ∷ rest), refl, refl)

pub maybe_text : (ts rest : List Token) (o : Option (Bor (List ℕ)))
    → IfSome o (λ t. ts ≡ Token.string t.now ∷ rest)
    → IfSome o (λ t. Takes 0 text_of ts t.now rest)
maybe_text ts rest None e = tt
maybe_text ts rest (Some t) e = a_text ts rest t.now e

a_whole : (ts rest : List Token) (n : ℕ) → n < 2 ^ 64 → ts ≡ Token.number (decimal n) ∷ rest → Takes 0 whole_of ts n rest
a_whole ts rest n fits e =
    let read : number_of (decimal n) ≡ Some (unsigned n) = number_of-decimal n fits in (
      json.number (decimal n),
      λ depth le. ap (json.value depth) e ∙ value_is depth (Token.number (decimal n) ∷ rest),
      ap is_some read,
      ap (λ o. whole_of (unwrap_or (option_map number o) null)) read,
    )

pub maybe_whole : (ts rest : List Token) (o : Option ℕ)
    → IfSome o (λ n. (n < 2 ^ 64) × (ts ≡ Token.number (decimal n) ∷ rest))
    → IfSome o (λ n. Takes 0 whole_of ts n rest)
maybe_whole ts rest None e = tt
maybe_whole ts rest (Some n) e = a_whole ts rest n e.0 e.1

-- ---- the items of a list

pub end_items : (deep : ℕ) (ts rest : List Token) → after_end_array ts ≡ Some rest → BeginItems deep ts json.no_items rest
end_items deep ts rest e = λ depth n le many. items_end (json.value depth) n ts rest many e

pub more_items : (deep : ℕ) (ts mid rest : List Token) (j : json.Json) (js : json.Items)
    → Begins deep ts j mid
    → BeginItems deep mid js rest
    → BeginItems deep ts (json.item j js) rest
more_items deep ts mid rest j js b bs = λ depth n le many.
    let less : length mid < length ts = shorter deep ts mid j b in
    items_more (json.value depth) n ts mid j (omega (arith, less, many)) (not_closed deep ts mid j b) (b depth le)
    ∙ ap (json.parse_map (json.item j)) (bs depth (n - 1) le (omega (arith, less, many)))

pub a_list : (deep : ℕ) (ts rest : List Token) (js : json.Items)
    → BeginItems deep ts js rest
    → Begins (suc deep) (Token.begin_array ∷ ts) (json.array js) rest
a_list deep ts rest js bs = λ depth le.
    value-begin_array depth ts (omega (arith, le))
    ∙ ap (json.parse_map json.array) (bs (depth - 1) (length ts) (omega (arith, le)) (omega arith))

pub opened : (deep : ℕ) (ts us rest : List Token) (js : json.Items)
    → ts ≡ Token.begin_array ∷ us
    → BeginItems deep us js rest
    → Begins (suc deep) ts (json.array js) rest
opened deep ts us rest js e bs = subst (λ vs. Begins (suc deep) vs (json.array js) rest) (sym e) (a_list deep us rest js bs)

-- a list of items that are read one by one
pub all_taken : {A : Type 0} (deep : ℕ) (read : Data → Result A Refusal) (ts us rest : List Token) (xs : List A)
    → ts ≡ Token.begin_array ∷ us
    → TakesAll deep read us xs rest
    → Takes (suc deep) (λ d. list_of d >>= each read) ts xs rest
all_taken deep read ts us rest xs e all = (json.array all.0, opened deep ts us rest all.0 e all.1, all.2, all.3)

-- ---- a loop over the items: what was read comes before what is read of the rest

pub none_yet : {A : Type 0} (deep : ℕ) (read : Data → Result A Refusal) (ts : List Token) (front : List A)
    → front ≡ []
    → (xs : List A) (rest : List Token) → TakesAll deep read ts xs rest → TakesAll deep read ts (front ++ xs) rest
none_yet deep read ts front e xs rest all = rw e all

pub one_more : {A : Type 0} (deep : ℕ) (read : Data → Result A Refusal) (first ts mid : List Token) (front later : List A) (x : A)
    → ((xs : List A) (rest : List Token) → TakesAll deep read ts xs rest → TakesAll deep read first (front ++ xs) rest)
    → later ≡ front ++ x ∷ []
    → Takes deep read ts x mid
    → (xs : List A) (rest : List Token) → TakesAll deep read mid xs rest → TakesAll deep read first (later ++ xs) rest
one_more {A = A} deep read first ts mid front later x before e one xs rest all =
    let these : TakesAll deep read ts (x ∷ xs) rest = (
      json.item one.0 all.0,
      more_items deep ts mid rest one.0 all.0 one.1 all.1,
      and_from _ _ one.2 all.2,
      rw (one.3, all.3) refl,
    ) in
    let same : front ++ x ∷ xs ≡ later ++ xs = sym (append_assoc front (x ∷ []) xs) ∙ ap (λ ys. ys ++ xs) (sym e) in
    subst (λ ys. TakesAll deep read first ys rest) same (before (x ∷ xs) rest these)

pub all_there : {A : Type 0} (deep : ℕ) (read : Data → Result A Refusal) (first ts rest : List Token) (front : List A)
    → ((xs : List A) (rest : List Token) → TakesAll deep read ts xs rest → TakesAll deep read first (front ++ xs) rest)
    → after_end_array ts ≡ Some rest
    → TakesAll deep read first front rest
all_there {A = A} deep read first ts rest front before e =
    subst (λ ys. TakesAll deep read first ys rest) (append-nil front)
    (before [] rest (json.no_items, end_items deep ts rest e, refl, refl))

-- ---- an entry, and a group

entry_of_four : (a b c d : Data) (word who : List ℕ) (sort : AceType) (mask flags : ℕ)
    → text_of a ≡ Ok word
    → sort_of word ≡ Some sort
    → text_of b ≡ Ok who
    → whole_of c ≡ Ok mask
    → whole_of d ≡ Ok flags
    → entry_shape_of (array (item a (item b (item c (item d no_items)))))
    ≡ Ok (record { sort = sort; who = who; mask = mask; flags = flags })
unfolding entry_shape_of
entry_of_four a b c d word who sort mask flags is_word is_sort is_who is_mask is_flags =
    rw (is_word, is_sort, is_who, is_mask, is_flags) refl

pub an_entry : (t0 t1 t2 t3 t4 t5 rest : List Token) (word who : List ℕ) (sort : AceType) (mask flags : ℕ)
    → t0 ≡ Token.begin_array ∷ t1
    → Takes 0 text_of t1 word t2
    → sort_of word ≡ Some sort
    → Takes 0 text_of t2 who t3
    → Takes 0 whole_of t3 mask t4
    → Takes 0 whole_of t4 flags t5
    → t5 ≡ Token.end_array ∷ rest
    → Takes 1 entry_shape_of t0 (record { sort = sort; who = who; mask = mask; flags = flags }) rest
an_entry t0 t1 t2 t3 t4 t5 rest word who sort mask flags first a is b c d last =
    let items3 = more_items 0 t4 t5 rest d.0 json.no_items d.1 (end_items 0 t5 rest (ap after_end_array last)) in
    let items2 = more_items 0 t3 t4 rest c.0 _ c.1 items3 in
    let items1 = more_items 0 t2 t3 rest b.0 _ b.1 items2 in
    let items = more_items 0 t1 t2 rest a.0 _ a.1 items1 in (
      json.array (json.item a.0 (json.item b.0 (json.item c.0 (json.item d.0 json.no_items)))),
      opened 0 t0 t1 rest _ first items,
      and_from _ _ a.2 (and_from _ _ b.2 (and_from _ _ c.2 (and_from _ _ d.2 refl))),
      entry_of_four (data_in a.0) (data_in b.0) (data_in c.0) (data_in d.0) word who sort mask flags a.3 is b.3 c.3 d.3,
    )

pub maybe_entries : (ts us rest : List Token) (o : Option (Vec EntryShape Global))
    → ts ≡ Token.begin_array ∷ us
    → IfSome o (λ v. TakesAll 1 entry_shape_of us (map spelled_entry v.items) rest)
    → IfSome o (λ v. Takes 2 entry_shapes_of ts (map spelled_entry v.items) rest)
maybe_entries ts us rest None e all = tt
maybe_entries ts us rest (Some v) e all = all_taken 1 entry_shape_of ts us rest (map spelled_entry v.items) e all

group_of_two : (a b : Data) (n : ℕ) (members : List (List ℕ))
    → whole_of a ≡ Ok n
    → texts_of b ≡ Ok members
    → group_shape_of (array (item a (item b no_items))) ≡ Ok (record { number = n; members = members })
unfolding group_shape_of
group_of_two a b n members is_number are_members = rw (is_number, are_members) refl

pub a_group : (t0 t1 t2 t3 t4 rest : List Token) (n : ℕ) (members : List (List ℕ))
    → t0 ≡ Token.begin_array ∷ t1
    → Takes 0 whole_of t1 n t2
    → t2 ≡ Token.begin_array ∷ t3
    → TakesAll 0 text_of t3 members t4
    → t4 ≡ Token.end_array ∷ rest
    → Takes 2 group_shape_of t0 (record { number = n; members = members }) rest
a_group t0 t1 t2 t3 t4 rest n members first a second all last =
    let b : Takes 1 texts_of t2 members t4 = all_taken 0 text_of t2 t3 t4 members second all in
    let items1 = more_items 1 t2 t4 rest b.0 json.no_items b.1 (end_items 1 t4 rest (ap after_end_array last)) in
    let items = more_items 1 t1 t2 rest a.0 _ (deeper 0 1 t1 t2 a.0 (omega arith) a.1) items1 in (
      json.array (json.item a.0 (json.item b.0 json.no_items)),
      opened 1 t0 t1 rest _ first items,
      and_from _ _ a.2 (and_from _ _ b.2 refl),
      group_of_two (data_in a.0) (data_in b.0) n members a.3 b.3,
    )

-- a list of groups whose numbers differ
groups_apart : (d : Data) (groups : List SpelledGroup) → (list_of d >>= each group_shape_of) ≡ Ok groups
    → are_distinct (numbers groups) ≡ true
    → groups_shape_of (Some d) ≡ Ok groups
unfolding groups_shape_of
groups_apart d groups read apart = rw (read, apart) refl

pub some_groups : (ts us rest : List Token) (groups : List SpelledGroup)
    → ts ≡ Token.begin_array ∷ us
    → TakesAll 2 group_shape_of us groups rest
    → are_distinct (numbers groups) ≡ true
    → Takes 3 (λ d. groups_shape_of (Some d)) ts groups rest
some_groups ts us rest groups e all apart =
    let list = all_taken 2 group_shape_of ts us rest groups e all in
    (list.0, list.1, list.2, groups_apart (data_in list.0) groups list.3 apart)

-- ---- a kind, and a policy

pub a_kind : (ts rest : List Token) (word : List ℕ) (kind : Holder)
    → Takes 0 text_of ts word rest
    → holder_of word ≡ Some kind
    → Takes 0 (λ d. kind_shape_of (Some d)) ts kind rest
unfolding kind_shape_of
a_kind ts rest word kind t e = (t.0, t.1, t.2, rw (t.3, e) refl)

pub a_policy : (ts rest : List Token) (n : ℕ) (policy : Policy)
    → Takes 0 whole_of ts n rest
    → policy_of n ≡ Some policy
    → Takes 0 (λ d. policy_shape_of (Some d)) ts policy rest
unfolding policy_shape_of
a_policy ts rest n policy t e = (t.0, t.1, t.2, rw (t.3, e) refl)
