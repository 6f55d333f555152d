-- A snapshot that passes the quick test is closed (`covered_closed`), for `covers`.
use Rattle.std.proofs.Common.{◌≡◌, ℕ, Bool, true, false, ◌||◌, ◌==◌, cond, List, [], ◌∷◌, Option, Some, find, Contains, refl, sym, ap, ◌∙◌}
use Rattle.std.specs.List.{list_all, flat_map}
use Rattle.std.specs.Option.{option_map, option_map_or}
use Rattle.std.proofs.lemmas.Bool.{and_parts, and_from}
use Rattle.std.proofs.lemmas.List.Folds.{list_all-append}
use Rattle.album_eval.specs.declared.facts.Principal.{Principal}
use Rattle.album_items.specs.Values.{list_of, head_group_of, groups_in_list, groups_in_group, group_of_who, group_of_member, entries_of, members_of}
use Rattle.album_items.specs.declared.values.Value.{Value}
use Rattle.album_items.specs.declared.values.Value.TheVariants.{Missing}
use Rattle.album_reader.specs.Answers.{ReadVersion}
use Rattle.album_reader.specs.Snapshots.{items_read, version_of}
use Rattle.album_views.specs.Covering.{has_subject, has_groups, has_groups_of_list, has_groups_of_group}
use Rattle.album_views.specs.ReadSets.{IsNamed, subjects_of, is_groupless}
use Rattle.album_views.specs.ReadSets.IsNamed.{Subject, ListOf, HeadGroupOf, GroupInListOf, GroupInGroup}
use Rattle.album_views.specs.Seen.{is_read, seen}
use Rattle.album_views.specs.Views.{IsClosed}
use Rattle.album_views.specs.declared.asks.Ask.{Ask}
use Rattle.album_views.proofs.Closing.{all-in}
use Rattle.album_views.proofs.Sets.{has-Contains, Contains-has}
use Rattle.album_views.proofs.Turns.{read-has}

-- what all of each list pass, all of them pass
all-flat :
    {X : Type 0} (f : X → List ℕ) (test : ℕ → Bool) (xs : List X)
    → list_all (λ x. list_all test (f x)) xs ≡ true → list_all test (flat_map f xs) ≡ true
all-flat f test [] e = refl
all-flat f test (x ∷ xs) e =
    let parts = and_parts (list_all test (f x)) (list_all (λ y. list_all test (f y)) xs) e in
    list_all-append test (f x) (flat_map f xs)
    ∙ and_from (list_all test (f x)) (list_all test (flat_map f xs)) parts.0 (all-flat f test xs parts.1)

-- what each value that was read passes, and what is missing, that passes what is seen of an item
seen-all :
    (test : Value → Bool) (rows : List ReadVersion) (item : ℕ)
    → test Missing ≡ true → list_all (λ (row : ReadVersion). test row.value) rows ≡ true → test (seen rows item) ≡ true
unfolding seen
seen-all test [] item none all = none
seen-all test (row ∷ rows) item none all =
    let parts = and_parts (test row.value) (list_all (λ (r : ReadVersion). test r.value) rows) all in
    go (row.item == item) refl parts.0 (seen-all test rows item none parts.1)
  where
    value_of : Option ReadVersion → Value
    value_of o = option_map_or (λ version. version.1) (option_map version_of o) Missing

    rest : Option ReadVersion
    rest = find (λ (r : ReadVersion). r.item == item) rows

    go :
        (b : Bool) → (row.item == item) ≡ b → test row.value ≡ true → test (value_of rest) ≡ true
        → test (value_of (cond (row.item == item) (Some row) rest)) ≡ true
    go true e here there = ap (λ b. test (value_of (cond b (Some row) rest))) e ∙ here
    go false e here there = ap (λ b. test (value_of (cond b (Some row) rest))) e ∙ there

-- where one of two is true, and the first isn't, the second is
second-of : (a b : Bool) → (a || b) ≡ true → a ≡ false → b ≡ true
second-of true b e f = absurd (cc)
second-of false b e f = e

pub covered_closed :
    (rows : List ReadVersion) (looker : Option Principal) (ask : Ask)
    → list_all (has_subject rows looker ask) (subjects_of (seen rows) ask) ≡ true
    → list_all (λ (row : ReadVersion). has_groups_of_group rows row.value) rows ≡ true
    → IsClosed looker ask rows
covered_closed rows looker ask by_subjects by_groups =
    λ item named. has-Contains (items_read rows) item (sym (read-has rows item) ∙ go item named)
  where
    subjects : List ℕ
    subjects = subjects_of (seen rows) ask

    of : (subject : ℕ) → Contains subjects subject → (is_read rows subject ≡ true)
        × (list_all (is_read rows) (list_of (seen rows subject)) ≡ true)
        × ((is_groupless (seen rows) looker ask subject || has_groups rows subject) ≡ true)
    of subject s =
        let whole = all-in (has_subject rows looker ask) subjects by_subjects subject (Contains-has subjects subject s) in
        let first = and_parts _ _ whole in
        let second = and_parts _ _ first.1 in
        (first.0, second.0, second.1)

    groups : (subject : ℕ) → Contains subjects subject → is_groupless (seen rows) looker ask subject ≡ false
        → (list_all (is_read rows) (head_group_of (seen rows subject)) ≡ true)
        × (list_all (λ list. has_groups_of_list rows (seen rows list)) (list_of (seen rows subject)) ≡ true)
    groups subject s bare = and_parts _ _
        (second-of (is_groupless (seen rows) looker ask subject) (has_groups rows subject) (of subject s).2 bare)

    go : (item : ℕ) → IsNamed (seen rows) looker ask item → is_read rows item ≡ true
    go i (Subject item s) = (of item s).0
    go i (ListOf subject item s h) =
        all-in (is_read rows) (list_of (seen rows subject)) (of subject s).1 item
        (Contains-has (list_of (seen rows subject)) item h)
    go i (HeadGroupOf subject item s bare h) =
        all-in (is_read rows) (head_group_of (seen rows subject)) (groups subject s bare).0 item
        (Contains-has (head_group_of (seen rows subject)) item h)
    go i (GroupInListOf subject list item s bare l h) =
        let of_list = all-in (λ (l : ℕ). has_groups_of_list rows (seen rows l)) (list_of (seen rows subject))
        (groups subject s bare).1 list (Contains-has (list_of (seen rows subject)) list l) in
        all-in (is_read rows) (groups_in_list (seen rows list))
        (all-flat (λ entry. group_of_who entry.who) (is_read rows) (entries_of (seen rows list)) of_list) item
        (Contains-has (groups_in_list (seen rows list)) item h)
    go i (GroupInGroup group item n h) =
        all-in (is_read rows) (groups_in_group (seen rows group))
        (all-flat group_of_member (is_read rows) (members_of (seen rows group))
        (seen-all (has_groups_of_group rows) rows group refl by_groups)) item
        (Contains-has (groups_in_group (seen rows group)) item h)
