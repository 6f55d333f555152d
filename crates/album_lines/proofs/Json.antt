-- What is read of a JSON value is what it spells: its texts, numbers, lists and names. For the laws of lines.
use Rattle.std.proofs.Common.{◌≡◌, ◌==◌, ℕ, List, [], ◌∷◌, Bool, true, Ordering, Less, Equal, Greater, Option, Some, Ok, Contains, is_eq, refl, sym, ap, ◌∙◌, arith}
use Rattle.std.specs.Option.{ok_or}
use Rattle.std.specs.Ordering.{nat_cmp, match_ordering}
use Rattle.std.specs.Cmp.Lexicographic.{slice_cmp}
use Rattle.std.specs.Str.{bytes_eq}
use Rattle.std.proofs.lemmas.Bool.{eqb-true, and_parts, and_from}
use Rattle.std.proofs.lemmas.Cmp.{nat_list_cmp_total, tied_itself}
use Rattle.std.proofs.lemmas.List.Folds.{list_any_at}
use Rattle.std.proofs.lemmas.Map.Text.{is_eq-slice_cmp}
use Rattle.std.proofs.lemmas.Map.Views.{Contains-from_any}
use Rattle.std.proofs.lemmas.Slice.Eq.{bytes_eq-Decides}
use Rattle.serde_json.specs.Data.{Data, null, boolean, number, unsigned, negative, float, string, array, object, Items, no_items, item, Members, no_members, member}
use Rattle.serde_json.specs.Events.{items_len}
use Rattle.serde_json.specs.Find.{get, as_object, get_member}
use Rattle.serde_json.specs.View.{items_of}
use Rattle.album_stamps.specs.declared.refusals.Refusal.TheVariants.{BadRequest}
use Rattle.album_lines.specs.Fields.{guard, is_among, has_only, only_of, sized, text_of, whole_of, list_of}
use Rattle.album_lines.specs.Spelling.{whole_data, list_data, HasOnly}
use Rattle.album_lines.proofs.Steps.{step_taken, test_passed}

pub text_read : (d : Data) (text : List ℕ) → text_of d ≡ Ok text → d ≡ string text
text_read null text h = cc
text_read (boolean b) text h = cc
text_read (number n) text h = cc
text_read (string s) text h = cc
text_read (array ds) text h = cc
text_read (object ms) text h = cc

pub whole_read : (d : Data) (n : ℕ) → whole_of d ≡ Ok n → d ≡ whole_data n
whole_read null n h = cc
whole_read (boolean b) n h = cc
whole_read (number (unsigned m)) n h = cc
whole_read (number (negative z)) n h = cc
whole_read (number (float x)) n h = cc
whole_read (string s) n h = cc
whole_read (array ds) n h = cc
whole_read (object ms) n h = cc

pub list_read : (d : Data) (items : Items) → list_of d ≡ Ok items → d ≡ array items
list_read null items h = cc
list_read (boolean b) items h = cc
list_read (number n) items h = cc
list_read (string s) items h = cc
list_read (array ds) items h = cc
list_read (object ms) items h = cc

-- ---- lists of so many

pub two : (items : Items) → items_len items ≡ 2 → (a : Data) × (b : Data) × (items ≡ items_of (a ∷ b ∷ []))
two no_items h = absurd (omega (arith, h))
two (item a no_items) h = absurd (omega (arith, h))
two (item a (item b no_items)) h = (a, b, refl)
two (item a (item b (item c items))) h = absurd (omega (arith, h))

pub four : (items : Items) → items_len items ≡ 4
    → (a : Data) × (b : Data) × (c : Data) × (d : Data) × (items ≡ items_of (a ∷ b ∷ c ∷ d ∷ []))
four no_items h = absurd (omega (arith, h))
four (item a no_items) h = absurd (omega (arith, h))
four (item a (item b no_items)) h = absurd (omega (arith, h))
four (item a (item b (item c no_items))) h = absurd (omega (arith, h))
four (item a (item b (item c (item d no_items)))) h = (a, b, c, d, refl)
four (item a (item b (item c (item d (item e items))))) h = absurd (omega (arith, h))

pub sized_read : (n : ℕ) (d : Data) (b : Bool)
    → sized n d ≡ Ok b
    → (items : Items) × (d ≡ array items) × (items_len items ≡ n)
sized_read n d b h =
    let step = step_taken (list_of d) (λ items. guard (items_len items == n)) b h in
    (step.0, list_read d step.0 step.1, eqb-true _ _ (test_passed _ b step.2))

pub same_two : (a b c d : Data) → a ≡ c → b ≡ d → list_data (a ∷ b ∷ []) ≡ list_data (c ∷ d ∷ [])
same_two a b c d p q = cc

pub same_four : (a b c d e f g h : Data) → a ≡ e → b ≡ f → c ≡ g → d ≡ h
    → list_data (a ∷ b ∷ c ∷ d ∷ []) ≡ list_data (e ∷ f ∷ g ∷ h ∷ [])
same_four a b c d e f g h i j k l = cc

-- ---- the names in an object

object_read : (d : Data) (ms : Members) → ok_or (as_object d) BadRequest ≡ Ok ms → d ≡ object ms
object_read null ms h = cc
object_read (boolean b) ms h = cc
object_read (number n) ms h = cc
object_read (string s) ms h = cc
object_read (array ds) ms h = cc
object_read (object ns) ms h = cc

same_name : (name key : List ℕ) → slice_cmp nat_cmp name key ≡ Equal → name ≡ key
same_name name key e = (bytes_eq-Decides name key).0 (sym (is_eq-slice_cmp name key) ∙ ap is_eq e)

known_name : (names : List (List ℕ)) (name : List ℕ) → is_among names name ≡ true → Contains names name
known_name names name h =
    Contains-from_any {eq = λ q n. bytes_eq n q} (λ q n e. sym ((bytes_eq-Decides n q).0 e)) name names h

pub is_there : (names : List (List ℕ)) (name : List ℕ) → Contains names name → is_among names name ≡ true
is_there names name h = list_any_at (λ n. bytes_eq n name) names h.0 name h.1 ((bytes_eq-Decides _ name).1 h.2)

-- a name is found where it is first, or among the others
known_step : (names : List (List ℕ)) (name key : List ℕ) (first value : Data) (found : Option Data)
    → is_among names key ≡ true
    → (found ≡ Some value → Contains names name)
    → match_ordering (slice_cmp nat_cmp name key) found (Some first) found ≡ Some value
    → Contains names name
known_step names name key first value found known others = go (slice_cmp nat_cmp name key) refl
  where
    go : (o : Ordering) → slice_cmp nat_cmp name key ≡ o → match_ordering o found (Some first) found ≡ Some value
        → Contains names name
    go Less e h = others h
    go Equal e h = known_name names name (ap (is_among names) (same_name name key e) ∙ known)
    go Greater e h = others h

known_in : (names : List (List ℕ)) (ms : Members) → has_only names ms ≡ true
    → (name : List ℕ) (value : Data) → get_member name ms ≡ Some value → Contains names name
known_in names no_members all name value found = cc
known_in names (member key first ms) all name value found =
    let both = and_parts _ _ all in
    known_step names name key first value (get_member name ms) both.0 (known_in names ms both.1 name value) found

only_from : (names : List (List ℕ)) (ms : Members)
    → ((name : List ℕ) (value : Data) → get_member name ms ≡ Some value → Contains names name)
    → has_only names ms ≡ true
only_from names no_members known = refl
only_from names (member key first ms) known =
    and_from _ _ (is_there names key (known key first (rw (tied_itself nat_list_cmp_total key) refl)))
    (only_from names ms (λ name value found. go name value found (slice_cmp nat_cmp name key) refl))
  where
    go : (name : List ℕ) (value : Data)
        → get_member name ms ≡ Some value
        → (o : Ordering)
        → slice_cmp nat_cmp name key ≡ o
        → Contains names name
    go name value found Less e = known name value (rw e found)
    go name value found Equal e = known name first (rw e refl)
    go name value found Greater e = known name value (rw e found)

pub names_spelled : (names : List (List ℕ)) (d : Data) (b : Bool) → only_of names d ≡ Ok b → HasOnly names d
names_spelled names d b h =
    let step = step_taken (ok_or (as_object d) BadRequest) _ b h in
    let is = object_read d step.0 step.1 in
    record {
      members = step.0;
      is_object = is;
      known = λ name value found. known_in names step.0 (test_passed _ b step.2) name value (ap (get name) (sym is) ∙ found);
    }

pub names_read : (names : List (List ℕ)) (d : Data) → HasOnly names d → only_of names d ≡ Ok true
names_read names d is =
    let all =
    only_from names is.members (λ name value found. is.known name value (ap (get name) is.is_object ∙ found)) in
    ap (only_of names) is.is_object ∙ rw all refl
