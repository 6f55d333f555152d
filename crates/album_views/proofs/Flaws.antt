-- What is tested of new lists is tested of the objects of their ask, for the functions of `checks` and for `Ask::objects`
-- (`objects_lists`, `kinds_lists`, `single_lists`), and so it is of a share (`kinds_share`, `single_share`,
-- `count_share`); and what an ask without flaw keeps, for the law `asks_without_flaw` (`no_flaw`).
use Rattle.std.proofs.Common.{◌≡◌, ◌≢◌, ◌≤◌, ◌<◌, ◌+◌, ℕ, zero, suc, Contains, get_or, subst, Bool, true, false, not, ◌&&◌, ◌||◌, ◌==◌, List, [], ◌∷◌, ◌++◌, length, map, Option, Some, None, nat_lt, if◌then◌else◌, refl, sym, ap, ◌∙◌, arith}
use Rattle.std.specs.List.{list_all, list_any}
use Rattle.std.proofs.lemmas.Bool.{and_parts, not-true, eqb-false, ltb-false}
use Rattle.std.proofs.lemmas.List.{length-map, length-append}
use Rattle.std.proofs.lemmas.List.Folds.{list_all-map, list_all-append}
use Rattle.std.proofs.lemmas.Simd.{map-map}
use Rattle.album_stamps.specs.Distinct.{no_two, are_distinct}
use Rattle.album_stamps.specs.declared.limits.TheConstants.{MAX_TRANSACTION_ITEMS}
use Rattle.album_items.specs.declared.item_ids.Kind.TheVariants.{Group}
use Rattle.album_views.specs.Asks.{Wanted, want, headed, wanted, once, objects_of}
use Rattle.album_views.specs.Steps.{AreReadable}
use Rattle.album_views.specs.Checks.{is_one_of, has_kinds, has_single_objects, same_object, same_group, is_room_for, has_room, has_fitting_lists, flaw_of}
use Rattle.album_views.specs.declared.asks.Ask.{Ask}
use Rattle.album_views.specs.declared.asks.Ask.TheVariants as ask
use Rattle.album_views.specs.declared.asks.NewList.{NewList}
use Rattle.album_views.specs.declared.asks.NewMembership.{NewMembership}
use Rattle.album_views.proofs.Sets.{has, has-Contains, Contains-has, in-left, in-right, in-here, all-new, all-single, all-few}

-- ---- new lists

pub objects_lists : (lists : List NewList) → objects_of (ask.SetLists lists) ≡ map (λ (new : NewList). new.object) lists
objects_lists lists = map-map (λ wanted. wanted.object) (λ (new : NewList). want headed new.object) lists

pub kinds_lists :
    (lists : List NewList)
    → has_kinds (ask.SetLists lists) ≡ list_all (λ (new : NewList). is_one_of headed new.object) lists
kinds_lists lists =
    list_all-map (λ wanted. is_one_of wanted.kinds wanted.object) (λ (new : NewList). want headed new.object) lists

any_object :
    (object : ℕ) (lists : List NewList)
    → list_any (λ other. object == other) (map (λ (new : NewList). new.object) lists)
    ≡ list_any (λ (new : NewList). object == new.object) lists
any_object object [] = refl
any_object object (new ∷ lists) = ap (λ b. object == new.object || b) (any_object object lists)

single_objects :
    (lists : List NewList) → are_distinct (map (λ (new : NewList). new.object) lists) ≡ no_two same_object lists
single_objects [] = refl
single_objects (new ∷ lists) =
    ap (λ b. not b && are_distinct (map (λ (new : NewList). new.object) lists)) (any_object new.object lists)
    ∙ ap (λ b. not (list_any (same_object new) lists) && b) (single_objects lists)

pub single_lists : (lists : List NewList) → are_distinct (objects_of (ask.SetLists lists)) ≡ no_two same_object lists
single_lists lists = ap are_distinct (objects_lists lists) ∙ single_objects lists

pub count_lists : (lists : List NewList) → length (objects_of (ask.SetLists lists)) ≡ length lists
count_lists lists = ap length (objects_lists lists) ∙ length-map lists (λ (new : NewList). new.object)

-- ---- a share

abbrev headed_items : List NewList → List Wanted
headed_items lists = map (λ (new : NewList). want headed new.object) lists

abbrev group_items : List NewMembership → List Wanted
group_items members = map (λ (new : NewMembership). want (Group ∷ []) new.object) members

abbrev list_objects : List NewList → List ℕ
list_objects lists = map (λ (new : NewList). new.object) lists

abbrev groups : List NewMembership → List ℕ
groups members = map (λ (new : NewMembership). new.object) members

abbrev is_right : Wanted → Bool
is_right wanted = is_one_of wanted.kinds wanted.object

pub kinds_share :
    (lists : List NewList) (members : List NewMembership)
    → has_kinds (ask.Share lists members)
    ≡ (list_all (λ (new : NewList). is_one_of headed new.object) lists
    && list_all (λ (new : NewMembership). is_one_of (Group ∷ []) new.object) members)
kinds_share lists members =
    list_all-append is_right (headed_items lists) (group_items members)
    ∙ ap (λ b. b && list_all is_right (group_items members))
    (list_all-map is_right (λ (new : NewList). want headed new.object) lists)
    ∙ ap (λ b. list_all (λ (new : NewList). is_one_of headed new.object) lists && b)
    (list_all-map is_right (λ (new : NewMembership). want (Group ∷ []) new.object) members)

pub count_share :
    (lists : List NewList) (members : List NewMembership)
    → length (wanted (ask.Share lists members)) ≡ length lists + length members
count_share lists members =
    let both : length (headed_items lists ++ group_items members)
    ≡ length (headed_items lists) + length (group_items members) =
    length-append (headed_items lists) (group_items members) in
    let first : length (headed_items lists) ≡ length lists =
    length-map lists (λ (new : NewList). want headed new.object) in
    let second : length (group_items members) ≡ length members =
    length-map members (λ (new : NewMembership). want (Group ∷ []) new.object) in
    omega (arith, both, first, second)

count_items :
    (lists : List NewList) (members : List NewMembership)
    → length (list_objects lists ++ groups members) ≡ length lists + length members
count_items lists members =
    let both : length (list_objects lists ++ groups members)
    ≡ length (list_objects lists) + length (groups members) =
    length-append (list_objects lists) (groups members) in
    let first : length (list_objects lists) ≡ length lists = length-map lists (λ (new : NewList). new.object) in
    let second : length (groups members) ≡ length members =
    length-map members (λ (new : NewMembership). new.object) in
    omega (arith, both, first, second)

any_group :
    (object : ℕ) (members : List NewMembership)
    → list_any (λ other. object == other) (groups members)
    ≡ list_any (λ (new : NewMembership). object == new.object) members
any_group object [] = refl
any_group object (new ∷ members) = ap (λ b. object == new.object || b) (any_group object members)

single_groups : (members : List NewMembership) → are_distinct (groups members) ≡ no_two same_group members
single_groups [] = refl
single_groups (new ∷ members) =
    ap (λ b. not b && are_distinct (groups members)) (any_group new.object members)
    ∙ ap (λ b. not (list_any (same_group new) members) && b) (single_groups members)

pub single_share :
    (lists : List NewList) (members : List NewMembership)
    → has_single_objects (ask.Share lists members)
    ≡ (not (length lists + length members == 0) && (no_two same_object lists && no_two same_group members))
single_share lists members =
    ap (λ (n : ℕ). not (n == 0) && (are_distinct (list_objects lists) && are_distinct (groups members)))
    (count_share lists members)
    ∙ ap (λ b. not (length lists + length members == 0) && (b && are_distinct (groups members))) (single_objects lists)
    ∙ ap (λ b. not (length lists + length members == 0) && (no_two same_object lists && b)) (single_groups members)

-- an object with a new list, and a group with new members, are objects of the share
pub list-shared :
    (lists : List NewList) (members : List NewMembership) (object : ℕ)
    → Contains (list_objects lists) object → Contains (objects_of (ask.Share lists members)) object
list-shared lists members object c =
    has-Contains (once (list_objects lists ++ groups members)) object
    (all-new [] (list_objects lists ++ groups members) object
    (in-left (list_objects lists) (groups members) object (Contains-has (list_objects lists) object c)))

pub group-shared :
    (lists : List NewList) (members : List NewMembership) (object : ℕ)
    → Contains (groups members) object → Contains (objects_of (ask.Share lists members)) object
group-shared lists members object c =
    has-Contains (once (list_objects lists ++ groups members)) object
    (all-new [] (list_objects lists ++ groups members) object
    (in-right (list_objects lists) (groups members) object (Contains-has (groups members) object c)))

-- the members that a share sets, of each group
pub room_share :
    (members : List NewMembership)
    → list_all is_room_for (map (λ (new : NewMembership). new.members) members)
    ≡ list_all (λ (new : NewMembership). is_room_for new.members) members
room_share [] = refl
room_share (new ∷ members) = ap (λ (b : Bool). is_room_for new.members && b) (room_share members)

-- where there is an item, there is one once
some_once : (items : List ℕ) → length items ≢ 0 → length (once items) ≢ 0
some_once [] some none = some refl
some_once (x ∷ xs) some none = go (once (x ∷ xs)) (all-new [] (x ∷ xs) x (in-here x xs)) none
  where
    go : (keys : List ℕ) → has keys x ≡ true → length keys ≡ 0 → ⊥
    go [] there none = absurd (cc)
    go (key ∷ keys) there none = absurd (omega (arith, none))

-- ---- an ask without flaw

-- a test that was passed, and those after it
passed : {A : Type 0} (b : Bool) (x : A) (rest : Option A) → (if b then Some x else rest) ≡ None → (b ≡ false) × (rest ≡ None)
passed true x rest e = absurd (cc)
passed false x rest e = (refl, e)

pub record Passes (ask : Ask) : Type 0 where
  pub request : (has_kinds ask && has_single_objects ask) ≡ true
  pub few : nat_lt MAX_TRANSACTION_ITEMS (length (wanted ask)) ≡ false
  pub room : has_room ask ≡ true
  pub fitting : has_fitting_lists ask ≡ true

not-false : (b : Bool) → not b ≡ false → b ≡ true
not-false true e = refl
not-false false e = absurd (cc)

pub no_flaw : (ask : Ask) → flaw_of ask ≡ None → Passes ask
unfolding flaw_of
no_flaw ask e =
    let first = passed (not (has_kinds ask && has_single_objects ask)) _ _ e in
    let second = passed (nat_lt MAX_TRANSACTION_ITEMS (length (wanted ask))) _ _ first.1 in
    let third = passed (not (has_room ask)) _ _ second.1 in
    let fourth = passed (not (has_fitting_lists ask)) _ _ third.1 in
    record {
      request = not-false (has_kinds ask && has_single_objects ask) first.0;
      few = second.0;
      room = not-false (has_room ask) third.0;
      fitting = not-false (has_fitting_lists ask) fourth.0;
    }

-- what the ask of objects says, taken apart
pub asks_objects :
    (ask : Ask) → flaw_of ask ≡ None → (length (objects_of ask) ≢ 0) × (are_distinct (objects_of ask) ≡ true)
asks_objects (ask.Share lists members) e =
    let a : Ask = ask.Share lists members in
    let request = and_parts (has_kinds a) (has_single_objects a) (no_flaw a e).request in
    let parts = and_parts (not (length (wanted a) == 0))
    (are_distinct (list_objects lists) && are_distinct (groups members)) request.1 in
    let named : length (wanted a) ≢ 0 = eqb-false _ _ (not-true _ parts.0) in
    let items = list_objects lists ++ groups members in (
      some_once items (λ none. named (count_share lists members ∙ sym (count_items lists members) ∙ none)),
      all-single [] items refl,
    )
asks_objects a e =
    let request = and_parts (has_kinds a) (has_single_objects a) (no_flaw a e).request in
    let parts = and_parts (not (length (objects_of a) == 0)) (are_distinct (objects_of a)) request.1 in
    (eqb-false _ _ (not-true _ parts.0), parts.1)

pub named_few : (ask : Ask) → flaw_of ask ≡ None → length (wanted ask) ≤ MAX_TRANSACTION_ITEMS
named_few ask e = ltb-false MAX_TRANSACTION_ITEMS (length (wanted ask)) (no_flaw ask e).few

objects_below : (ask : Ask) → length (objects_of ask) ≤ length (wanted ask)
objects_below (ask.Share lists members) =
    let items = list_objects lists ++ groups members in
    omega (arith, all-few [] items, count_items lists members, count_share lists members)
objects_below a = omega (arith, length-map (wanted a) (λ (w : Wanted). w.object))

pub objects_few : (ask : Ask) → flaw_of ask ≡ None → length (objects_of ask) ≤ MAX_TRANSACTION_ITEMS
objects_few ask e = omega (arith, objects_below ask, named_few ask e)

each_object :
    (objects : List Wanted) → list_all (λ wanted. is_one_of wanted.kinds wanted.object) objects ≡ true
    → (object : Wanted) → Contains objects object → is_one_of object.kinds object.object ≡ true
each_object [] all object c = absurd (omega (arith, c.1))
each_object (x ∷ xs) all object c =
    let parts = and_parts (is_one_of x.kinds x.object) (list_all (λ wanted. is_one_of wanted.kinds wanted.object) xs) all in
    go parts.0 (each_object xs parts.1 object) c.0 c.1 c.2
  where
    go :
        is_one_of x.kinds x.object ≡ true → (Contains xs object → is_one_of object.kinds object.object ≡ true)
        → (k : ℕ) → k < length (x ∷ xs) → get_or (x ∷ xs) k object ≡ object → is_one_of object.kinds object.object ≡ true
    go first rest zero l same = subst (λ (w : Wanted). is_one_of w.kinds w.object ≡ true) same first
    go first rest (suc k) l same = rest (k, omega (arith, l), same)

pub objects_kinds :
    (ask : Ask) (object : Wanted) → flaw_of ask ≡ None
    → Contains (wanted ask) object → is_one_of object.kinds object.object ≡ true
objects_kinds ask object e c =
    each_object (wanted ask) (and_parts (has_kinds ask) (has_single_objects ask) (no_flaw ask e).request).0 object c

-- the objects of an ask without flaw can be read
pub objects_readable : (ask : Ask) → flaw_of ask ≡ None → AreReadable (objects_of ask)
objects_readable ask e = record {
  some = λ none. (asks_objects ask e).0 (ap length none);
  few = omega (arith, objects_few ask e);
  single = cc ((asks_objects ask e).1);
}
