-- The names grow no more after as many turns as there are answers, and one (`names-fixed`), and all of them are named
-- (`names-named`); so they are what a loop over them finds (`names-one`). Until a turn adds no item that was read, each
-- adds one that no turn before had (`left`).
use Rattle.std.proofs.Common.{◌≡◌, ◌≤◌, ◌<◌, ℕ, zero, suc, ◌+◌, Bool, true, false, ◌||◌, ◌==◌, cond, List, [], ◌∷◌, ◌++◌, length, Option, Some, None, is_some, option_map, find, inl, inr, refl, sym, ap, subst, ◌∙◌, arith}
use Rattle.std.specs.Fn.{iterate}
use Rattle.std.specs.List.{flat_map, list_any}
use Rattle.std.specs.Option.{option_map_or}
use Rattle.std.proofs.lemmas.Bool.{or_left, or_parts, eqb-true}
use Rattle.indexmap.specs.IndexSet.{insert_all}
use Rattle.album_stamps.specs.Distinct.{are_distinct}
use Rattle.album_items.specs.Values.{groups_in_group}
use Rattle.album_items.specs.declared.values.Value.{Value}
use Rattle.album_items.specs.declared.values.Value.TheVariants.{Missing}
use Rattle.album_eval.specs.declared.facts.Principal.{Principal}
use Rattle.album_reader.specs.Answers.{ReadVersion}
use Rattle.album_reader.specs.Snapshots.{items_read, version_read, version_of}
use Rattle.album_reader.proofs.Snapshots.{sameness-sym, length-items}
use Rattle.album_views.specs.ReadSets.{grown, names_of}
use Rattle.album_views.specs.Seen.{is_read, seen}
use Rattle.album_views.specs.declared.asks.Ask.{Ask}
use Rattle.album_views.proofs.Sets.{has, one-of, in-left, in-right, in-any, single-apart}
use Rattle.album_views.proofs.Growing.{inner_of, AreNamed, GoesOn, grown-goes_on, grown-named, grown-single, grown-more, same-names}

-- ---- what was read

-- an item was read where it is among those that were
pub read-has : (rows : List ReadVersion) (item : ℕ) → is_read rows item ≡ has (items_read rows) item
read-has [] item = refl
read-has (row ∷ rows) item = go (row.item == item) refl (sameness-sym row.item item) (read-has rows item)
  where
    first : Bool → Bool
    first b = is_some (option_map version_of (cond b (Some row) (find (λ (r : ReadVersion). r.item == item) rows)))

    go :
        (b : Bool) → (row.item == item) ≡ b → (row.item == item) ≡ (item == row.item)
        → is_read rows item ≡ has (items_read rows) item
        → is_read (row ∷ rows) item ≡ has (items_read (row ∷ rows)) item
    go true e s rest = ap first e ∙ sym (or_left (item == row.item) (has (items_read rows) item) (sym s ∙ e))
    go false e s rest = ap first e ∙ rest ∙ sym (ap (λ b. b || has (items_read rows) item) (sym s ∙ e))

-- what was not read is of no group
unread-nothing : (rows : List ReadVersion) (item : ℕ) → has (items_read rows) item ≡ false → inner_of (seen rows) item ≡ []
unfolding seen
unread-nothing rows item e = go (version_read rows item) (read-has rows item ∙ e)
  where
    go :
        (o : Option (ℕ × Value)) → is_some o ≡ false
        → groups_in_group (option_map_or (λ version. version.1) o Missing) ≡ []
    go None e = refl
    go (Some version) e = absurd (cc)

unread-nothings :
    (rows : List ReadVersion) (items : List ℕ)
    → list_any (has (items_read rows)) items ≡ false → flat_map (inner_of (seen rows)) items ≡ []
unread-nothings rows [] e = refl
unread-nothings rows (item ∷ items) e =
    let parts = or_parts (has (items_read rows) item) (list_any (has (items_read rows)) items) e in
    ap (λ (gs : List ℕ). gs ++ flat_map (inner_of (seen rows)) items) (unread-nothing rows item parts.0)
    ∙ unread-nothings rows items parts.1

-- ---- how many are left

-- one more, unless it is there
abbrev more_unless : Bool → ℕ → ℕ
more_unless true n = n
more_unless false n = suc n

-- how many of the items are not among the names
abbrev left : List ℕ → List ℕ → ℕ
left [] names = 0
left (item ∷ items) names = more_unless (has names item) (left items names)

more_unless-le : (a b : Bool) (m n : ℕ) → (b ≡ true → a ≡ true) → m ≤ n → more_unless a m ≤ more_unless b n
more_unless-le true true m n h l = l
more_unless-le true false m n h l = omega (arith, l)
more_unless-le false true m n h l = absurd (cc (h refl))
more_unless-le false false m n h l = omega (arith, l)

more_unless-lt : (a b : Bool) (m n : ℕ) → (b ≡ true → a ≡ true) → m < n → more_unless a m < more_unless b n
more_unless-lt true true m n h l = l
more_unless-lt true false m n h l = omega (arith, l)
more_unless-lt false true m n h l = absurd (cc (h refl))
more_unless-lt false false m n h l = omega (arith, l)

left-le : (items names more : List ℕ) → left items (names ++ more) ≤ left items names
left-le [] names more = omega arith
left-le (item ∷ items) names more =
    more_unless-le (has (names ++ more) item) (has names item) _ _ (in-left names more item) (left-le items names more)

-- fewer, where one of them comes among the names
left-falls :
    (items names more : List ℕ) (item : ℕ)
    → has items item ≡ true → has names item ≡ false → has more item ≡ true
    → left items (names ++ more) < left items names
left-falls [] names more item i fresh m = absurd (cc)
left-falls (x ∷ items) names more item i fresh m =
    elim (one-of (item == x) (has items item) i) [
      | inl e ↦ (let same = eqb-true item x e in
          met (has (names ++ more) x) (has names x) (left items (names ++ more)) (left items names)
          (in-right names more x (subst (λ z. has more z ≡ true) same m))
          (subst (λ z. has names z ≡ false) same fresh) (left-le items names more))
      | inr r ↦ more_unless-lt (has (names ++ more) x) (has names x) _ _ (in-left names more x)
          (left-falls items names more item r fresh m)
    ]
  where
    met : (a b : Bool) (m n : ℕ) → a ≡ true → b ≡ false → m ≤ n → more_unless a m < more_unless b n
    met true false m n e f l = omega (arith, l)
    met true true m n e f l = absurd (cc)
    met false b m n e f l = absurd (cc)

left-all : (items : List ℕ) → left items [] ≤ length items
left-all [] = omega arith
left-all (item ∷ items) = omega (arith, left-all items)

-- ---- turns

module _ (rows : List ReadVersion) (looker : Option Principal) (ask : Ask) where
  abbrev turn : List ℕ → List ℕ
  turn names = grown (seen rows) looker ask names

  -- what a turn leaves as it is, each number of turns does
  turns-fixed : (n : ℕ) (names : List ℕ) → names ≡ turn names → iterate turn n names ≡ names
  turns-fixed zero names fixed = refl
  turns-fixed (suc n) names fixed = ap (iterate turn n) (sym fixed) ∙ turns-fixed n names fixed

  -- a turn that adds nothing that was read is the last one that adds anything
  last-turn :
      (names more : List ℕ) → turn names ≡ names ++ more
      → list_any (has (items_read rows)) more ≡ false → turn names ≡ turn (turn names)
  last-turn names more e none =
      sym (ap turn e
      ∙ grown-more (seen rows) looker ask names more
      ∙ ap (insert_all ◌==◌ (turn names)) (unread-nothings rows more none))

  -- it is the last one, or fewer items are left after it
  end-by :
      (n : ℕ) (names : List ℕ) → GoesOn (seen rows) looker ask names (turn names)
      → (left (items_read rows) (turn names) < left (items_read rows) names
      → iterate turn n (turn names) ≡ turn (iterate turn n (turn names)))
      → iterate turn n (turn names) ≡ turn (iterate turn n (turn names))
  end-by n names on deeper = go (list_any (has (items_read rows)) on.0) refl
    where
      fewer :
          list_any (has (items_read rows)) on.0 ≡ true
          → left (items_read rows) (turn names) < left (items_read rows) names
      fewer some =
          let at = in-any (has (items_read rows)) on.0 some in
          let single = subst (λ (ns : List ℕ). are_distinct ns ≡ true) on.1 (grown-single (seen rows) looker ask names) in
          subst (λ (ns : List ℕ). left (items_read rows) ns < left (items_read rows) names) (sym on.1)
          (left-falls (items_read rows) names on.0 at.0 at.2 (single-apart names on.0 at.0 single at.1) at.1)

      go :
          (b : Bool) → list_any (has (items_read rows)) on.0 ≡ b
          → iterate turn n (turn names) ≡ turn (iterate turn n (turn names))
      go false none =
          let fixed = last-turn names on.0 on.1 none in
          let same = turns-fixed n (turn names) fixed in
          same ∙ fixed ∙ ap turn (sym same)
      go true some = deeper (fewer some)

  -- after one turn more than items are left, nothing grows
  turns-end :
      (n : ℕ) (names : List ℕ) → GoesOn (seen rows) looker ask names (turn names)
      → left (items_read rows) names ≤ n
      → iterate turn (suc n) names ≡ turn (iterate turn (suc n) names)
  turns-end zero names on few = end-by zero names on (λ l. absurd (omega (arith, l, few)))
  turns-end (suc n) names on few =
      end-by (suc n) names on
      (λ l. turns-end n (turn names) (grown-goes_on (seen rows) looker ask names (turn names) on) (omega (arith, l, few)))

  pub names-fixed : names_of rows looker ask ≡ grown (seen rows) looker ask (names_of rows looker ask)
  unfolding names_of
  names-fixed =
      let count : length rows + 1 ≡ suc (length rows) = omega arith in
      let few : left (items_read rows) [] ≤ length rows =
      omega (arith, left-all (items_read rows), length-items rows) in
      subst (λ n. iterate turn n [] ≡ turn (iterate turn n [])) (sym count)
      (turns-end (length rows) [] (turn [], refl) few)

  turns-named : (n : ℕ) (names : List ℕ) → AreNamed (seen rows) looker ask names → AreNamed (seen rows) looker ask (iterate turn n names)
  turns-named zero names named = named
  turns-named (suc n) names named = turns-named n (turn names) (grown-named (seen rows) looker ask names named)

  pub names-named : AreNamed (seen rows) looker ask (names_of rows looker ask)
  unfolding names_of
  names-named = turns-named (length rows + 1) [] (λ item h. absurd (cc))

  -- a list that grows no more, and extends some names, extends what any number of turns makes of these
  turns-go_on :
      (n : ℕ) (names all : List ℕ) → all ≡ turn all
      → GoesOn (seen rows) looker ask names all → GoesOn (seen rows) looker ask (iterate turn n names) all
  turns-go_on zero names all fixed on = on
  turns-go_on (suc n) names all fixed on =
      turns-go_on n (turn names) all fixed
      (subst (λ (ns : List ℕ). GoesOn (seen rows) looker ask (turn names) ns) (sym fixed)
      (grown-goes_on (seen rows) looker ask names all on))

  -- items that grow no more, all of them named, are the names
  pub names-one :
      (names : List ℕ) → names ≡ grown (seen rows) looker ask names → AreNamed (seen rows) looker ask names → names ≡ names_of rows looker ask
  unfolding names_of
  names-one names fixed named =
      same-names (seen rows) looker ask (names_of rows looker ask) names names-fixed fixed
      (turns-go_on (length rows + 1) [] names fixed (names, refl)) named
