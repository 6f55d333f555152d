-- What the names are: exactly what is named (`named-in`, `grown-named`), none twice (`grown-single`), and in the one
-- order that the rules leave (`same-names`). The loop of `named` gets there by `looked-first`, `looked-more` and
-- `looked-all`.
use Rattle.std.proofs.Common.{◌≡◌, ◌≤◌, ◌<◌, ℕ, ◌+◌, Bool, true, false, ◌==◌, if◌then◌else◌, Option, List, [], ◌∷◌, ◌++◌, length, take, get_or, inl, inr, refl, sym, ap, subst, ◌∙◌, arith}
use Rattle.std.specs.List.{flat_map}
use Rattle.std.proofs.lemmas.Grind.{flat_map-append, fold-append}
use Rattle.std.proofs.lemmas.List.{take_more, take-append-le, take_all, append_assoc, append-nil, length-append}
use Rattle.indexmap.specs.IndexSet.{insert_key, insert_all}
use Rattle.album_stamps.specs.Distinct.{are_distinct}
use Rattle.album_eval.specs.declared.facts.Principal.{Principal}
use Rattle.album_items.specs.Values.{list_of, head_group_of, groups_in_list, groups_in_group}
use Rattle.album_items.specs.declared.values.Value.{Value}
use Rattle.album_views.specs.Asks.{once}
use Rattle.album_views.specs.ReadSets.{IsNamed, subjects_of, is_groupless, named_by_head, named_by_list, first_names, grown}
use Rattle.album_views.specs.ReadSets.IsNamed.{Subject, ListOf, HeadGroupOf, GroupInListOf, GroupInGroup}
use Rattle.album_views.specs.declared.asks.Ask.{Ask}
use Rattle.album_views.proofs.Sets.{has, has-Contains, Contains-has, in-append, in-left, in-right, in-here, in-flat_map, flat_map-in, all-new, all-only, all-more, all-single, single-apart}

-- an item is among these where nothing takes their place
bare-in : (bare : Bool) (xs : List ℕ) (item : ℕ) → bare ≡ false → has xs item ≡ true → has (if bare then [] else xs) item ≡ true
bare-in true xs item e h = absurd (cc)
bare-in false xs item e h = h

in-bare : (bare : Bool) (xs : List ℕ) (item : ℕ) → has (if bare then [] else xs) item ≡ true → (bare ≡ false) × (has xs item ≡ true)
in-bare true xs item h = absurd (cc)
in-bare false xs item h = (refl, h)

-- the groups among the members of an item
abbrev pub inner_of : (ℕ → Value) → ℕ → List ℕ
inner_of seen item = groups_in_group (seen item)

module _ (seen : ℕ → Value) (looker : Option Principal) (ask : Ask) where
  abbrev inner : ℕ → List ℕ
  inner item = inner_of seen item

  -- each of the items is named
  abbrev pub AreNamed : List ℕ → Type 0
  AreNamed items = (item : ℕ) → has items item ≡ true → IsNamed seen looker ask item

  -- ---- what grows is named

  heads-named : AreNamed (flat_map (named_by_head seen looker ask) (subjects_of seen ask))
  heads-named item h =
      let at = in-flat_map (named_by_head seen looker ask) (subjects_of seen ask) item h in
      let subject = has-Contains (subjects_of seen ask) at.0 at.1 in
      let bare : Bool = is_groupless seen looker ask at.0 in
      elim (in-append (list_of (seen at.0)) (if bare then [] else head_group_of (seen at.0)) item at.2) [
        | inl q ↦ ListOf at.0 item subject (has-Contains (list_of (seen at.0)) item q)
        | inr q ↦ (let there = in-bare bare (head_group_of (seen at.0)) item q in
            HeadGroupOf at.0 item subject there.0 (has-Contains (head_group_of (seen at.0)) item there.1))
      ]

  lists-named : AreNamed (flat_map (named_by_list seen looker ask) (subjects_of seen ask))
  lists-named item h =
      let at = in-flat_map (named_by_list seen looker ask) (subjects_of seen ask) item h in
      let subject = has-Contains (subjects_of seen ask) at.0 at.1 in
      let there = in-bare (is_groupless seen looker ask at.0) (flat_map (λ list. groups_in_list (seen list)) (list_of (seen at.0)))
      item at.2 in
      let from = in-flat_map (λ list. groups_in_list (seen list)) (list_of (seen at.0)) item there.1 in
      GroupInListOf at.0 from.0 item subject there.0 (has-Contains (list_of (seen at.0)) from.0 from.1)
      (has-Contains (groups_in_list (seen from.0)) item from.2)

  first-named : AreNamed (first_names seen looker ask)
  unfolding first_names
  first-named item h =
      let heads : List ℕ = flat_map (named_by_head seen looker ask) (subjects_of seen ask) in
      let lists : List ℕ = flat_map (named_by_list seen looker ask) (subjects_of seen ask) in
      elim (in-append (subjects_of seen ask) (heads ++ lists) item h) [
        | inl q ↦ Subject item (has-Contains (subjects_of seen ask) item q)
        | inr q ↦ (elim (in-append heads lists item q) [ inl r ↦ heads-named item r | inr r ↦ lists-named item r ])
      ]

  inner-named : (items : List ℕ) → AreNamed items → AreNamed (flat_map inner items)
  inner-named items named item h =
      let at = in-flat_map inner items item h in
      GroupInGroup at.0 item (named at.0 at.1) (has-Contains (inner at.0) item at.2)

  pub grown-named : (items : List ℕ) → AreNamed items → AreNamed (grown seen looker ask items)
  grown-named items named item h =
      elim (all-only [] (first_names seen looker ask ++ flat_map inner items) item h) [
        | inl q ↦ absurd (cc)
        | inr q ↦ (elim (in-append (first_names seen looker ask) (flat_map inner items) item q) [
          | inl r ↦ first-named item r
          | inr r ↦ inner-named items named item r
        ])
      ]

  pub grown-single : (items : List ℕ) → are_distinct (grown seen looker ask items) ≡ true
  grown-single items = all-single [] (first_names seen looker ask ++ flat_map inner items) refl

  -- ---- what is named has grown

  -- where nothing more grows, all that is named is there
  pub named-in :
      (names : List ℕ) → names ≡ grown seen looker ask names
      → (item : ℕ) → IsNamed seen looker ask item → has names item ≡ true
  unfolding first_names
  named-in names fixed = go
    where
      subjects : List ℕ
      subjects = subjects_of seen ask

      heads : List ℕ
      heads = flat_map (named_by_head seen looker ask) (subjects_of seen ask)

      lists : List ℕ
      lists = flat_map (named_by_list seen looker ask) (subjects_of seen ask)

      put : (item : ℕ) → has (first_names seen looker ask ++ flat_map inner names) item ≡ true → has names item ≡ true
      put item h =
          subst (λ (ns : List ℕ). has ns item ≡ true) (sym fixed)
          (all-new [] (first_names seen looker ask ++ flat_map inner names) item h)

      early : (item : ℕ) → has (subjects ++ (heads ++ lists)) item ≡ true → has names item ≡ true
      early item h =
          put item (in-left (first_names seen looker ask) (flat_map inner names) item h)

      by-head :
          (subject item : ℕ) → has subjects subject ≡ true
          → has (named_by_head seen looker ask subject) item ≡ true → has names item ≡ true
      by-head subject item s h =
          early item (in-right subjects (heads ++ lists) item
          (in-left heads lists item (flat_map-in (named_by_head seen looker ask) subjects subject item s h)))

      go : (item : ℕ) → IsNamed seen looker ask item → has names item ≡ true
      go i (Subject item s) = early item (in-left subjects (heads ++ lists) item (Contains-has subjects item s))
      go i (ListOf subject item s h) =
          by-head subject item (Contains-has subjects subject s)
          (in-left (list_of (seen subject)) (if is_groupless seen looker ask subject then [] else head_group_of (seen subject)) item
          (Contains-has (list_of (seen subject)) item h))
      go i (HeadGroupOf subject item s e h) =
          by-head subject item (Contains-has subjects subject s)
          (in-right (list_of (seen subject)) (if is_groupless seen looker ask subject then [] else head_group_of (seen subject)) item
          (bare-in (is_groupless seen looker ask subject) (head_group_of (seen subject)) item e
          (Contains-has (head_group_of (seen subject)) item h)))
      go i (GroupInListOf subject list item s e l h) =
          early item (in-right subjects (heads ++ lists) item
          (in-right heads lists item
          (flat_map-in (named_by_list seen looker ask) subjects subject item (Contains-has subjects subject s)
          (bare-in (is_groupless seen looker ask subject) (flat_map (λ k. groups_in_list (seen k)) (list_of (seen subject))) item e
          (flat_map-in (λ k. groups_in_list (seen k)) (list_of (seen subject)) list item
          (Contains-has (list_of (seen subject)) list l) (Contains-has (groups_in_list (seen list)) item h))))))
      go i (GroupInGroup group item g h) =
          put item (in-right (first_names seen looker ask) (flat_map inner names) item
          (flat_map-in inner names group item (go group g) (Contains-has (inner group) item h)))

  -- ---- growing adds after what is there

  -- the second list extends the first
  abbrev pub GoesOn : List ℕ → List ℕ → Type 0
  GoesOn xs ys = (more : List ℕ) × (ys ≡ xs ++ more)

  pub grown-more : (xs more : List ℕ) → grown seen looker ask (xs ++ more) ≡ insert_all ◌==◌ (grown seen looker ask xs) (flat_map inner more)
  grown-more xs more =
      ap (λ (ms : List ℕ). once (first_names seen looker ask ++ ms)) (flat_map-append inner xs more)
      ∙ ap once (sym (append_assoc (first_names seen looker ask) (flat_map inner xs) (flat_map inner more)))
      ∙ fold-append (insert_key ◌==◌) [] (first_names seen looker ask ++ flat_map inner xs) (flat_map inner more)

  pub grown-goes_on : (xs ys : List ℕ) → GoesOn xs ys → GoesOn (grown seen looker ask xs) (grown seen looker ask ys)
  grown-goes_on xs ys on =
      let all = all-more (grown seen looker ask xs) (flat_map inner on.0) in
      (all.0, ap (grown seen looker ask) on.1 ∙ grown-more xs on.0 ∙ all.1)

  -- Two lists are one where nothing more grows out of either, one extends the other, and all of the longer one is
  -- named.
  pub same-names :
      (names all : List ℕ) → names ≡ grown seen looker ask names → all ≡ grown seen looker ask all
      → GoesOn names all → AreNamed all → all ≡ names
  same-names names all fixed whole on named = go on.0 on.1
    where
      go : (more : List ℕ) → all ≡ names ++ more → all ≡ names
      go [] e = e ∙ append-nil names
      go (item ∷ more) e =
          let there =
          named-in names fixed item (named item
          (subst (λ (ns : List ℕ). has ns item ≡ true) (sym e) (in-right names (item ∷ more) item (in-here item more)))) in
          let single =
          subst (λ (ns : List ℕ). are_distinct ns ≡ true) (sym whole ∙ e) (grown-single all) in
          let apart = single-apart names (item ∷ more) item single (in-here item more) in absurd (cc)

  -- ---- the loop

  -- the names after n of them were looked at
  pub record AreLookedAt (n : ℕ) (names : List ℕ) : Type 0 where
    pub within : n ≤ length names
    pub order : names ≡ grown seen looker ask (take n names)
    pub named : AreNamed names

  pub looked-first : (names : List ℕ) → names ≡ once (first_names seen looker ask) → AreLookedAt 0 names
  looked-first names e = record {
    within = omega arith;
    order = e ∙ ap once (sym (append-nil (first_names seen looker ask)));
    named = λ item h. elim (all-only [] (first_names seen looker ask) item (subst (λ (ns : List ℕ). has ns item ≡ true) e h)) [
      | inl q ↦ absurd (cc)
      | inr q ↦ first-named item q
    ];
  }

  pub looked-more :
      (n : ℕ) (names new : List ℕ) (item : ℕ) → n < length names → item ≡ get_or names n item
      → new ≡ insert_all ◌==◌ names (inner item) → AreLookedAt n names → AreLookedAt (n + 1) new
  looked-more n names new item l at e old =
      let more = all-more names (inner item) in
      let is : new ≡ names ++ more.0 = e ∙ more.1 in
      let long = ap (λ (ns : List ℕ). length ns) is ∙ length-append names more.0 in
      let same : take (n + 1) new ≡ take n names ++ item ∷ [] =
      ap (λ (ns : List ℕ). take (n + 1) ns) is
      ∙ take-append-le (n + 1) names more.0 (omega (arith, l))
      ∙ take_more names n item l
      ∙ ap (λ i. take n names ++ i ∷ []) (sym at) in
      let group : flat_map inner (item ∷ []) ≡ inner item = append-nil (inner item) in
      record {
        within = omega (arith, long, l);
        order =
            e
            ∙ ap (λ (ns : List ℕ). insert_all ◌==◌ ns (inner item)) old.order
            ∙ ap (insert_all ◌==◌ (grown seen looker ask (take n names))) (sym group)
            ∙ sym (grown-more (take n names) (item ∷ []))
            ∙ ap (grown seen looker ask) (sym same);
        named = λ x h. elim (all-only names (inner item) x (subst (λ (ns : List ℕ). has ns x ≡ true) e h)) [
          | inl q ↦ old.named x q
          | inr q ↦ GroupInGroup item x (old.named item (in-get names n item l at)) (has-Contains (inner item) x q)
        ];
      }
    where
      in-get : (xs : List ℕ) (n item : ℕ) → n < length xs → item ≡ get_or xs n item → has xs item ≡ true
      in-get xs n item l e = Contains-has xs item (n, l, sym e)

  pub looked-all : (n : ℕ) (names : List ℕ) → length names ≤ n → AreLookedAt n names → names ≡ grown seen looker ask names
  looked-all n names l old = old.order ∙ ap (grown seen looker ask) (take_all n names l)
