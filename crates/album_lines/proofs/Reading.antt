-- A value as the grammar has it, and the value that it is. For `data`: `in_range` and `is_read`; for `fields`, the
-- others.
use Rattle.std.proofs.Common.{◌≡◌, ℕ, zero, suc, List, [], ◌∷◌, length, map, Bool, true, false, cond, ◌&&◌, is_some, bytes_eq, Ordering, Less, Equal, Greater, Option, Some, None, option_map, option_and_then, unwrap_or, is_eq, Bor, Global, Vec, Err, refl, sym, ap, ◌∙◌}
use Rattle.std.specs.Cmp.Lexicographic.{slice_cmp}
use Rattle.std.specs.List.{list_any, list_all}
use Rattle.std.specs.Ordering.{nat_cmp, match_ordering}
use Rattle.std.proofs.lemmas.Map.Text.{is_eq-slice_cmp}
use Rattle.std.proofs.lemmas.Slice.Eq.{bytes_eq-Decides}
use Rattle.json.specs.Find as found
use Rattle.json.specs.Json as json
use Rattle.json.specs.Value.{value_view, members_view}
use Rattle.json.specs.declared.value.Value.{Value, Object}
use Rattle.json.proofs.Trees as trees
use Rattle.serde_json.specs.Data.{Num, Data, null, number, array, object, Items, item, Members, no_members, member, put}
use Rattle.serde_json.specs.Events.{items_len}
use Rattle.serde_json.specs.Find.{get, get_member, at, get_item, as_str, as_number}
use Rattle.serde_json.specs.Read.{number_of, of_json, of_items, of_members}
use Rattle.serde_json.proofs.Views.{get_member-put, get_member-put_other}
use Rattle.album_stamps.specs.declared.refusals.Refusal.TheVariants.{BadRequest}
use Rattle.album_lines.specs.Fields.{has_only, is_among, only_of}
use Rattle.album_lines.specs.Trees.{is_in_range, are_in_range, hold_in_range, data_in, items_in, members_in, value_data, items_data}

-- ---- what is read of a tree

abbrev where_true : {A : Type 0} → Bool → A → Option A
where_true b a = cond b (Some a) None

of_number : (o : Option Num) → option_map number o ≡ where_true (is_some o) (unwrap_or (option_map number o) null)
of_number None = refl
of_number (Some n) = refl

inside : {A B : Type 0} (f : A → B) (b : Bool) (a : A) → option_map f (where_true b a) ≡ where_true b (f a)
inside f true a = refl
inside f false a = refl

both_items : (a b : Bool) (d : Data) (ds : Items)
    → option_and_then (λ e. option_map (item e) (where_true b ds)) (where_true a d) ≡ where_true (a && b) (item d ds)
both_items true true d ds = refl
both_items true false d ds = refl
both_items false b d ds = refl

behind : (a : Bool) (d : Data) (f : Data → Option Members) (b : Bool) (ms : Members)
    → f d ≡ where_true b ms
    → option_and_then f (where_true a d) ≡ where_true (a && b) ms
behind true d f b ms is = is
behind false d f b ms is = refl

mutual
  pub in_range : (j : json.Json) → of_json j ≡ cond (is_in_range j) (Some (data_in j)) None
  in_range json.null = refl
  in_range (json.boolean b) = refl
  in_range (json.number s) = of_number (number_of s)
  in_range (json.string s) = refl
  in_range (json.array js) = ap (option_map array) (items_in_range js) ∙ inside array (are_in_range js) (items_in js)
  in_range (json.object ms) =
      ap (option_map object) (members_in_range ms no_members) ∙ inside object (hold_in_range ms) (members_in ms no_members)

  items_in_range : (js : json.Items) → of_items js ≡ cond (are_in_range js) (Some (items_in js)) None
  items_in_range json.no_items = refl
  items_in_range (json.item j js) =
      rw (in_range j, items_in_range js) (both_items (is_in_range j) (are_in_range js) (data_in j) (items_in js))

  members_in_range : (ms : json.Members) (before : Members)
      → of_members ms before ≡ cond (hold_in_range ms) (Some (members_in ms before)) None
  members_in_range json.no_members before = refl
  members_in_range (json.member k j ms) before =
      ap (option_and_then (λ d. of_members ms (put k d before))) (in_range j)
      ∙ behind (is_in_range j) (data_in j) (λ d. of_members ms (put k d before)) (hold_in_range ms) _
      (members_in_range ms (put k (data_in j) before))

-- ---- what is found in it

pub text_in : (j : json.Json) → as_str (data_in j) ≡ found.as_str j
text_in json.null = refl
text_in (json.boolean b) = refl
text_in (json.number s) = go (number_of s)
  where
    go : (o : Option Num) → as_str (unwrap_or (option_map number o) null) ≡ None
    go None = refl
    go (Some n) = refl
text_in (json.string s) = refl
text_in (json.array js) = refl
text_in (json.object ms) = refl

pub number_in : (j : json.Json) → as_number (data_in j) ≡ option_and_then number_of (found.as_number j)
number_in json.null = refl
number_in (json.boolean b) = refl
number_in (json.number s) = go (number_of s)
  where
    go : (o : Option Num) → as_number (unwrap_or (option_map number o) null) ≡ o
    go None = refl
    go (Some n) = refl
number_in (json.string s) = refl
number_in (json.array js) = refl
number_in (json.object ms) = refl

nth_in : (i : ℕ) (js : json.Items) → get_item i (items_in js) ≡ option_map data_in (found.get_item i js)
nth_in i json.no_items = refl
nth_in zero (json.item j js) = refl
nth_in (suc i) (json.item j js) = nth_in i js

pub item_in : (i : ℕ) (j : json.Json) → at i (data_in j) ≡ option_map data_in (found.at i j)
item_in i json.null = refl
item_in i (json.boolean b) = refl
item_in i (json.number s) = go (number_of s)
  where
    go : (o : Option Num) → at i (unwrap_or (option_map number o) null) ≡ None
    go None = refl
    go (Some n) = refl
item_in i (json.string s) = refl
item_in i (json.array js) = nth_in i js
item_in i (json.object ms) = refl

-- what was put at a name is found there, and elsewhere what was there
found_put : (k l : List ℕ) (d : Data) (ms : Members)
    → get_member k (put l d ms) ≡ cond (bytes_eq l k) (Some d) (get_member k ms)
found_put k l d ms = go (bytes_eq l k) refl
  where
    go : (b : Bool) → bytes_eq l k ≡ b → get_member k (put l d ms) ≡ cond b (Some d) (get_member k ms)
    go true e = ap (λ name. get_member k (put name d ms)) ((bytes_eq-Decides l k).0 e) ∙ get_member-put k d ms
    go false e =
        get_member-put_other k l d ms
        (λ same. let yes = (bytes_eq-Decides l k).1 (sym same) in cc)

-- the last member of a name, or what was there before
abbrev last_or : Option json.Json → Option Data → Option Data
last_or None before = before
last_or (Some j) before = Some (data_in j)

named_in : (k : List ℕ) (ms : json.Members) (before : Members)
    → get_member k (members_in ms before) ≡ last_or (found.get_member k ms) (get_member k before)
named_in k json.no_members before = refl
named_in k (json.member l j ms) before =
    named_in k ms (put l (data_in j) before)
    ∙ ap (last_or (found.get_member k ms)) (found_put k l (data_in j) before)
    ∙ go (found.get_member k ms) (bytes_eq l k)
  where
    go : (o : Option json.Json) (b : Bool)
        → last_or o (cond b (Some (data_in j)) (get_member k before))
        ≡ last_or (found.later_or o (cond b (Some j) None)) (get_member k before)
    go None true = refl
    go None false = refl
    go (Some i) b = refl

pub member_in : (k : List ℕ) (j : json.Json) → get k (data_in j) ≡ option_map data_in (found.get k j)
member_in k json.null = refl
member_in k (json.boolean b) = refl
member_in k (json.number s) = go (number_of s)
  where
    go : (o : Option Num) → get k (unwrap_or (option_map number o) null) ≡ None
    go None = refl
    go (Some n) = refl
member_in k (json.string s) = refl
member_in k (json.array js) = refl
member_in k (json.object ms) = named_in k ms no_members ∙ go (found.get_member k ms)
  where
    go : (o : Option json.Json) → last_or o None ≡ option_map data_in o
    go None = refl
    go (Some i) = refl

-- what a look-up gives, seen as its value
pub seen_in : (o : Option (Bor (Value Global)))
    → option_map (λ v. value_data v.now) o ≡ option_map data_in (option_map (λ v. value_view v.now) o)
seen_in None = refl
seen_in (Some v) = refl

-- ---- lists

-- as many items as values
pub len_of_items : (vs : List (Value Global)) → items_len (items_data vs) ≡ length vs
len_of_items [] = refl
len_of_items (v ∷ vs) = ap suc (len_of_items vs)

-- ---- names

among : (names : List (Bor (List ℕ))) (k : List ℕ)
    → list_any (λ n. bytes_eq n.now k) names ≡ is_among (map (λ n. n.now) names) k
among [] k = refl
among (n ∷ ns) k = rw (among ns k) refl

swapped : (a b c : Bool) → (a && (b && c)) ≡ (b && (a && c))
swapped true true c = refl
swapped true false c = refl
swapped false true c = refl
swapped false false c = refl

twice : (a b : Bool) → (a && b) ≡ (a && (a && b))
twice true b = refl
twice false b = refl

-- the names after one is put, by where it is put
only_put_at : (names : List (List ℕ)) (k l : List ℕ) (d e : Data) (ms : Members) (o : Ordering)
    → slice_cmp nat_cmp k l ≡ o
    → has_only names (put k d ms) ≡ (is_among names k && has_only names ms)
    → has_only names (match_ordering o (member k d (member l e ms)) (member l d ms) (member l e (put k d ms)))
    ≡ (is_among names k && (is_among names l && has_only names ms))
only_put_at names k l d e ms Less is later = refl
only_put_at names k l d e ms Equal is later =
    let same : k ≡ l = (bytes_eq-Decides k l).0 (sym (is_eq-slice_cmp k l) ∙ ap is_eq is) in
    rw same (twice (is_among names l) (has_only names ms))
only_put_at names k l d e ms Greater is later =
    ap (λ b. is_among names l && b) later ∙ swapped (is_among names l) (is_among names k) (has_only names ms)

pub only_put : (names : List (List ℕ)) (k : List ℕ) (d : Data) (ms : Members)
    → has_only names (put k d ms) ≡ (is_among names k && has_only names ms)
only_put names k d no_members = refl
only_put names k d (member l e ms) = only_put_at names k l d e ms (slice_cmp nat_cmp k l) refl (only_put names k d ms)

only_in : (names : List (Bor (List ℕ))) (ms : List (Bor (List ℕ) × Value Global)) (before : Members)
    → has_only (map (λ n. n.now) names) (members_in (members_view ms) before)
    ≡ (list_all (λ m. list_any (λ n. bytes_eq n.now m.0.now) names) ms && has_only (map (λ n. n.now) names) before)
only_in names [] before = refl
only_in names (m ∷ ms) before =
    only_in names ms (put m.0.now (data_in (value_view m.1)) before)
    ∙ rw (only_put (map (λ n. n.now) names) m.0.now (data_in (value_view m.1)) before, among names m.0.now)
    (go (list_all (λ m. list_any (λ n. bytes_eq n.now m.0.now) names) ms) (is_among (map (λ n. n.now) names) m.0.now) (has_only (map (λ n. n.now) names) before))
  where
    go : (a b c : Bool) → (a && (b && c)) ≡ ((b && a) && c)
    go true true c = refl
    go true false c = refl
    go false true c = refl
    go false false c = refl

-- the test of each name is the test of the members
pub all_known : (names : List (Bor (List ℕ))) (ms : List (Bor (List ℕ) × Value Global))
    → list_all (λ m. list_any (λ n. bytes_eq n.now m.0.now) names) ms
    ≡ has_only (map (λ n. n.now) names) (members_in (members_view ms) no_members)
all_known names ms = sym (only_in names ms no_members ∙ go (list_all (λ m. list_any (λ n. bytes_eq n.now m.0.now) names) ms))
  where
    go : (b : Bool) → (b && true) ≡ b
    go true = refl
    go false = refl

-- an object with another name
pub other_names : (names : List (List ℕ)) (v : Value Global) (ms : Vec (Bor (List ℕ) × Value Global) Global)
    → v ≡ Object ms
    → has_only names (members_in (members_view ms.items) no_members) ≡ false
    → only_of names (value_data v) ≡ Err BadRequest
other_names names v ms is other = rw (is, trees.view-Object ms, other) refl
