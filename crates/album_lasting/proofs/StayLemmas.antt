-- What a version has stays until a request changes it: the law `nothing_is_undone_unasked` cites the lemmas that are
-- `pub`.
use Rattle.std.proofs.Common.{◌≡◌, ◌≢◌, ℕ, suc, ◌<◌, ◌≤◌, ◌==◌, ◌||◌, Bool, true, false, List, [], ◌∷◌, Contains, Some, ◌⊎◌, inl, inr, ⊎_elim, refl, sym, ap, ◌∙◌, subst, arith}
use Rattle.std.proofs.lemmas.Bool.{and_parts, eqb-true}
use Rattle.album_eval.specs.declared.policies.Policy.{Policy}
use Rattle.album_lists.specs.declared.lists.Ace.{Ace}
use Rattle.album_items.specs.ItemBack.{kind_of-item}
use Rattle.album_items.specs.ItemIds.{picture, album, list, group, kind_of, number_of}
use Rattle.album_items.specs.Values.{head_of, home_of, children_of, list_of, members_of}
use Rattle.album_items.specs.declared.values.Head.{Head}
use Rattle.album_items.specs.declared.values.Value.{Value}
use Rattle.album_items.specs.declared.values.Value.TheVariants as value
use Rattle.album_partition.specs.Marks.{first_value}
use Rattle.album_passes.specs.Cuts.{Cut}
use Rattle.album_listing.specs.Fields.{title_field, content_field}
use Rattle.album_views.proofs.Flaws.{no_flaw}
use Rattle.album_views.specs.Asks.{made_by}
use Rattle.album_views.specs.Checks.{has_kinds, has_single_objects}
use Rattle.album_views.specs.Seen.{seen}
use Rattle.album_views.specs.Views.{IsView}
use Rattle.album_views.specs.declared.asks.Ask.{Ask}
use Rattle.album_views.specs.declared.asks.Ask.TheVariants as ask
use Rattle.album_permits.specs.Effects.{effect_of}
use Rattle.album_permits.specs.Permits.{PermitState}
use Rattle.album_world.specs.Staying.{TakesOut, SetsTitle, SetsContent, HandsOver, SetsList, SetsMembers}
use Rattle.album_world.specs.Staying.TakesOut.{Deletes as DeletesChild}
use Rattle.album_world.specs.Staying.SetsTitle.{Deletes as DeletesTitled}
use Rattle.album_world.specs.Staying.SetsContent.{Deletes as DeletesFilled}
use Rattle.album_world.specs.Staying.HandsOver.{Deletes}
use Rattle.album_world.specs.Staying.SetsList.{Deletes as DeletesHolder}
use Rattle.album_world.proofs.AgeLemmas.{first_missing, new_number}
use Rattle.album_world.proofs.ListLemmas.{in_nil, in_one, within}
use Rattle.album_world.proofs.ValueLemmas.{IsRewritten, IsWrittenAs, written_as}
use Rattle.album_world.proofs.ValueLemmas.IsWrittenAs.{Made, Rewritten, Gone, Listed}
use Rattle.album_lasting.specs.Staying.{IsOfCheckedService, IsCommittedAs, IsVersion, IsLaterVersion, IsWriteOf, IsMadeFrom, IsUndoneBetween}
use Rattle.album_lasting.specs.Staying.IsMadeFrom.{Same, Written}
use Rattle.album_lasting.proofs.AgeLemmas.{ages}
use Rattle.album_lasting.proofs.MadeLemmas.{made_from}
use Rattle.album_lasting.proofs.VersionLemmas.{version_high}

-- ---- kinds

pub list_kind : (v : Value) (i : ℕ) → Contains (list_of v) i → kind_of i ≡ 2
list_kind value.Missing i c = in_nil (within [] c)
list_kind (value.Picture x) i c = ap kind_of (in_one (within _ c)) ∙ kind_of-item 2 x.head.list (omega arith)
list_kind (value.Album x) i c = ap kind_of (in_one (within _ c)) ∙ kind_of-item 2 x.head.list (omega arith)
list_kind (value.List x) i c = in_nil (within [] c)
list_kind (value.Group x) i c = ap kind_of (in_one (within _ c)) ∙ kind_of-item 2 x.head.list (omega arith)

-- what is deleted is a picture
pub deleted_kind : (object : ℕ) → has_kinds (ask.Delete object) ≡ true → kind_of object ≡ 0
deleted_kind object kinds =
    sym (eqb-true 0 (kind_of object)
    (only (0 == kind_of object) (and_parts (0 == kind_of object || false) true kinds).0))
  where
    only : (b : Bool) → (b || false) ≡ true → b ≡ true
    only true e = refl
    only false e = e

module _ (policy : Policy) (c : Cut) (h : IsOfCheckedService policy c) where
  -- ---- what is kept from one version to the next

  -- what a write does is done between two stamps
  undone : (D : PermitState → Type 0) (i first top t : ℕ) (v : Value) (permit : PermitState) → IsWriteOf policy c i t v permit → first < t → t ≤ top
      → D permit → IsUndoneBetween policy c i first top D
  undone D i first top t v permit w above under does = record {
    stamp = t;
    value = v;
    above = above;
    within = under;
    committed = w.committed;
    asked = record {
      principal = w.asked.principal;
      ask = w.asked.ask;
      begun = w.asked.begun;
      then = w.asked.then;
      since = w.asked.since;
      permitted = record {
        rows = w.asked.permitted.rows;
        seen = w.asked.permitted.seen;
        view = w.asked.permitted.view;
        holds = (w.asked.permitted.holds.1, subst D (sym w.asked.permitted.holds.0) does);
      };
    };
  }

  -- each of these writes keeps the property, or does this
  abbrev KeepsOrDoes : (Value → Type 0) → (PermitState → Type 0) → ℕ → ℕ → Type 0
  KeepsOrDoes P D i first = (permit : PermitState) (t : ℕ) (v : Value) → first < t → IsWriteOf policy c i t v permit
      → IsWrittenAs (seen permit.view.rows) t permit.view.ask i v → P (seen permit.view.rows i) → P v ⊎ D permit

  -- how a write comes to its value
  write_as : (i t : ℕ) (v : Value) (permit : PermitState) → IsWriteOf policy c i t v permit → IsWrittenAs (seen permit.view.rows) t permit.view.ask i v
  write_as i t v permit w =
      written_as permit t i v
      (subst (λ (p : PermitState). Contains (effect_of p t) (i, v)) w.asked.permitted.holds.0 w.asked.permitted.holds.1.written)

  made_keeps : (P : Value → Type 0) (D : PermitState → Type 0) (i first : ℕ) (was : Value) {last : ℕ} {is : Value}
      → IsMadeFrom policy c i first was last is → (top : ℕ) → last ≤ top
      → (first ≤ last) × (KeepsOrDoes P D i first → P was → P is ⊎ IsUndoneBetween policy c i first top D)
  made_keeps P D i first was Same top under = (omega arith, λ keeps holds. inl holds)
  made_keeps P D i first was (Written t is permit w below rest) top under =
      let r = made_keeps P D i first was rest top (omega arith) in (
        omega (arith, r.0, below),
        λ keeps holds. ⊎_elim
            (λ p. ⊎_elim inl
            (λ d. inr (undone D i first top t is permit w (omega (arith, r.0, below)) under d))
            (keeps permit t is (omega (arith, r.0, below)) w (write_as i t is permit w) p))
            inr
            (r.1 keeps holds),
      )

  keep : (P : Value → Type 0) (D : PermitState → Type 0) (i first last : ℕ) (was is : Value) → IsLaterVersion c i first last was is
      → KeepsOrDoes P D i first → P was → P is ⊎ IsUndoneBetween policy c i first last D
  keep P D i first last was is after keeps holds =
      (made_keeps P D i first was (made_from policy c i first last was is h after) last (omega arith)).1 keeps holds

  -- ---- what a write can't be

  -- what is deleted is a picture
  flawless : (i t : ℕ) (v : Value) (permit : PermitState) (object : ℕ) → IsWriteOf policy c i t v permit → permit.view.ask ≡ ask.Delete object → kind_of object ≡ 0
  flawless i t v permit object w asked =
      let view = subst (λ (p : PermitState). IsView p.view) w.asked.permitted.holds.0 w.asked.permitted.view in
      deleted_kind object (subst (λ (a : Ask). has_kinds a ≡ true) asked
      (and_parts (has_kinds permit.view.ask) (has_single_objects permit.view.ask) (no_flaw permit.view.ask view.sound).request).0)

  -- neither deleted nor the list of what is deleted
  not_gone : {P : Type 0} (kind i t : ℕ) (v : Value) (permit : PermitState) (object : ℕ) → kind_of i ≡ kind → kind ≢ 0 → kind ≢ 2
      → IsWriteOf policy c i t v permit → permit.view.ask ≡ ask.Delete object
      → (object ≡ i) ⊎ Contains (list_of (seen permit.view.rows object)) i → P
  not_gone kind i t v permit object is picture lists w asked (inl same) =
      absurd (picture (sym is ∙ sym (ap kind_of same) ∙ flawless i t v permit object w asked))
  not_gone kind i t v permit object is picture lists w asked (inr whose) =
      absurd (lists (sym is ∙ list_kind (seen permit.view.rows object) i whose))

  -- what has a version is not made anew at a greater stamp, unless that is the opening's, and missing
  not_made : {P : Type 0} (i first t : ℕ) (was v : Value) (permit : PermitState) → IsVersion c i first was → IsWriteOf policy c i t v permit → first < t
      → Contains (made_by permit.view.ask t) i → (first ≡ 0 → was ≡ value.Missing → ⊥) → P
  not_made i first t was v permit from w less new there =
      let number : number_of i ≡ t = new_number permit.view.ask t i new in
      let high : h.above.greatest < t = version_high c i t v h.sound h.above w.committed.is in
      absurd (⊎_elim
      (λ (f : (first ≡ 0) × (was ≡ first_value c.opening i)).
      there f.0 (f.1 ∙ first_missing h.above.greatest c.opening i h.above.low (omega (arith, high, number))))
      (λ (k : IsCommittedAs c i first was).
      let known : number_of i ≤ first = (ages policy c h (suc first) first (omega arith) i was k).own in
      omega (arith, known, number, less))
      from)

  -- ---- what stays

  module _ (i first last : ℕ) (was is : Value) (after : IsLaterVersion c i first last was is) where
    pub child_stays : (child : ℕ) → kind_of i ≡ 1 → Contains (children_of was) child
        → Contains (children_of is) child ⊎ IsUndoneBetween policy c i first last (λ permit. TakesOut child permit.view.ask)
    child_stays child kind there =
        keep (λ v. Contains (children_of v) child) (λ permit. TakesOut child permit.view.ask) i first last was is after each there
      where
        each : KeepsOrDoes (λ v. Contains (children_of v) child) (λ permit. TakesOut child permit.view.ask) i first
        each permit t v less w (Made new own) p = not_made i first t was v permit after.earlier w less new
            (λ zero e. in_nil (within [] (subst (λ (x : Value). Contains (children_of x) child) e there)))
        each permit t v less w (Rewritten subject r) p = r.children child p
        each permit t v less w (Gone object subject asked whose e) p =
            not_gone 1 i t v permit object kind (λ q. omega (arith, q)) (λ q. omega (arith, q)) w asked whose
        each permit t v less w (Listed object subject whose sets entries e) p =
            let two = list_kind (seen permit.view.rows object) i whose in absurd (omega (arith, kind, two))

    -- a field that what is missing doesn't have so
    field_stays : {A : Type 0} (F : Value → A) (Does : Ask → Type 0) (x : A) → (F value.Missing ≡ x → ⊥) → Does (ask.Delete i)
        → ((shown : ℕ → Value) (stamp : ℕ) (a : Ask) (v : Value) → IsRewritten shown stamp a i (shown i) v → (F v ≡ F (shown i)) ⊎ Does a)
        → kind_of i ≢ 2 → F was ≡ x → (F is ≡ x) ⊎ IsUndoneBetween policy c i first last (λ permit. Does permit.view.ask)
    field_stays F Does x had deletes rewrites kind there =
        keep (λ v. F v ≡ x) (λ permit. Does permit.view.ask) i first last was is after each there
      where
        each : KeepsOrDoes (λ v. F v ≡ x) (λ permit. Does permit.view.ask) i first
        each permit t v less w (Made new own) p =
            not_made i first t was v permit after.earlier w less new (λ zero e. had (sym (ap F e) ∙ there))
        each permit t v less w (Rewritten subject r) p =
            ⊎_elim (λ e. inl (e ∙ p)) inr (rewrites (seen permit.view.rows) t permit.view.ask v r)
        each permit t v less w (Gone object subject asked whose e) p = ⊎_elim
            (λ (same : object ≡ i). inr (subst Does (sym (asked ∙ ap ask.Delete same)) deletes))
            (λ k. absurd (kind (list_kind (seen permit.view.rows object) i k)))
            whose
        each permit t v less w (Listed object subject whose sets entries e) p =
            absurd (kind (list_kind (seen permit.view.rows object) i whose))

    pub list_stays : (entries : List Ace) → kind_of i ≡ 2 → was ≡ value.List entries
        → (is ≡ value.List entries) ⊎ IsUndoneBetween policy c i first last (λ permit. SetsList (seen permit.view.rows) i permit.view.ask)
    list_stays entries kind there =
        keep (λ v. v ≡ value.List entries) (λ permit. SetsList (seen permit.view.rows) i permit.view.ask) i first last was is after each there
      where
        each : KeepsOrDoes (λ v. v ≡ value.List entries) (λ permit. SetsList (seen permit.view.rows) i permit.view.ask) i first
        each permit t v less w (Made new own) p = not_made i first t was v permit after.earlier w less new
            (λ zero e. let other : value.Missing ≡ value.List entries = sym e ∙ there in cc)
        each permit t v less w (Rewritten subject r) p = inl (r.entries entries p)
        each permit t v less w (Gone object subject asked whose e) p = ⊎_elim
            (λ (same : object ≡ i). let none : kind_of i ≡ 0 = sym (ap kind_of same) ∙ flawless i t v permit object w asked in
            absurd (omega (arith, kind, none)))
            (λ k. inr (subst (SetsList (seen permit.view.rows) i) (sym asked) (DeletesHolder object k)))
            whose
        each permit t v less w (Listed object subject whose sets others e) p = inr sets

    pub members_stay : kind_of i ≡ 3 → was ≢ value.Missing → (members_of is ≡ members_of was) ⊎ IsUndoneBetween policy c i first last (λ permit. SetsMembers i permit.view.ask)
    members_stay kind there =
        keep (λ v. members_of v ≡ members_of was) (λ permit. SetsMembers i permit.view.ask) i first last was is after each refl
      where
        each : KeepsOrDoes (λ v. members_of v ≡ members_of was) (λ permit. SetsMembers i permit.view.ask) i first
        each permit t v less w (Made new own) p = not_made i first t was v permit after.earlier w less new (λ zero e. there e)
        each permit t v less w (Rewritten subject r) p = ⊎_elim (λ e. inl (e ∙ p)) inr r.group
        each permit t v less w (Gone object subject asked whose e) p =
            not_gone 3 i t v permit object kind (λ q. omega (arith, q)) (λ q. omega (arith, q)) w asked whose
        each permit t v less w (Listed object subject whose sets entries e) p =
            let two = list_kind (seen permit.view.rows object) i whose in absurd (omega (arith, kind, two))

    gone_stays : kind_of i ≢ 2 → first ≢ 0 → was ≡ value.Missing → is ≡ value.Missing
    gone_stays kind some there =
        ⊎_elim (λ e. e) (λ (u : IsUndoneBetween policy c i first last (λ permit. ⊥)). absurd u.asked.permitted.holds.1)
        (keep (λ v. v ≡ value.Missing) (λ permit. ⊥) i first last was is after each there)
      where
        each : KeepsOrDoes (λ v. v ≡ value.Missing) (λ permit. ⊥) i first
        each permit t v less w (Made new own) p = not_made i first t was v permit after.earlier w less new (λ zero e. some zero)
        each permit t v less w (Rewritten subject r) p = inl (r.gone p)
        each permit t v less w (Gone object subject asked whose e) p = inl e
        each permit t v less w (Listed object subject whose sets entries e) p =
            absurd (kind (list_kind (seen permit.view.rows object) i whose))

-- ---- the promises

pub children_stay : (policy : Policy) (c : Cut) (number child first last : ℕ) (was is : Value) → IsOfCheckedService policy c
    → IsLaterVersion c (album number) first last was is → Contains (children_of was) child
    → Contains (children_of is) child ⊎ IsUndoneBetween policy c (album number) first last (λ permit. TakesOut child permit.view.ask)
children_stay policy c number child first last was is h after =
    child_stays policy c h (album number) first last was is after child (kind_of-item 1 number (omega arith))

pub titles_stay : (policy : Policy) (c : Cut) (object first last : ℕ) (was is : Value) (title : List ℕ) → IsOfCheckedService policy c
    → kind_of object ≢ 2 → IsLaterVersion c object first last was is → title_field was ≡ Some title
    → (title_field is ≡ Some title) ⊎ IsUndoneBetween policy c object first last (λ permit. SetsTitle object permit.view.ask)
titles_stay policy c object first last was is title h kind after =
    field_stays policy c h object first last was is after title_field (SetsTitle object) (Some title)
    (λ e. absurd (cc)) DeletesTitled (λ shown stamp a v r. r.title) kind

pub contents_stay : (policy : Policy) (c : Cut) (object first last : ℕ) (was is : Value) (content : List ℕ) → IsOfCheckedService policy c
    → kind_of object ≢ 2 → IsLaterVersion c object first last was is → content_field was ≡ Some content
    → (content_field is ≡ Some content) ⊎ IsUndoneBetween policy c object first last (λ permit. SetsContent object permit.view.ask)
contents_stay policy c object first last was is content h kind after =
    field_stays policy c h object first last was is after content_field (SetsContent object) (Some content)
    (λ e. absurd (cc)) DeletesFilled (λ shown stamp a v r. r.content) kind

pub homes_stay : (policy : Policy) (c : Cut) (object first last : ℕ) (was is : Value) (home : ℕ) → IsOfCheckedService policy c
    → kind_of object ≢ 2 → IsLaterVersion c object first last was is → home_of was ≡ home ∷ []
    → (home_of is ≡ home ∷ []) ⊎ IsUndoneBetween policy c object first last (λ permit. TakesOut object permit.view.ask)
homes_stay policy c object first last was is home h kind after =
    field_stays policy c h object first last was is after home_of (TakesOut object) (home ∷ [])
    (λ e. absurd (cc)) DeletesChild (λ shown stamp a v r. r.home) kind

pub heads_stay : (policy : Policy) (c : Cut) (object first last : ℕ) (was is : Value) (head : Head) → IsOfCheckedService policy c
    → kind_of object ≢ 2 → IsLaterVersion c object first last was is → head_of was ≡ Some head
    → (head_of is ≡ Some head) ⊎ IsUndoneBetween policy c object first last (λ permit. HandsOver object permit.view.ask)
heads_stay policy c object first last was is head h kind after =
    field_stays policy c h object first last was is after head_of (HandsOver object) (Some head)
    (λ e. absurd (cc)) Deletes (λ shown stamp a v r. r.head) kind

pub lists_stay : (policy : Policy) (c : Cut) (number first last : ℕ) (was is : Value) (entries : List Ace) → IsOfCheckedService policy c
    → IsLaterVersion c (list number) first last was is → was ≡ value.List entries
    → (is ≡ value.List entries)
    ⊎ IsUndoneBetween policy c (list number) first last (λ permit. SetsList (seen permit.view.rows) (list number) permit.view.ask)
lists_stay policy c number first last was is entries h after =
    list_stays policy c h (list number) first last was is after entries (kind_of-item 2 number (omega arith))

pub groups_stay : (policy : Policy) (c : Cut) (number first last : ℕ) (was is : Value) → IsOfCheckedService policy c
    → IsLaterVersion c (group number) first last was is → was ≢ value.Missing
    → (members_of is ≡ members_of was) ⊎ IsUndoneBetween policy c (group number) first last (λ permit. SetsMembers (group number) permit.view.ask)
groups_stay policy c number first last was is h after =
    members_stay policy c h (group number) first last was is after (kind_of-item 3 number (omega arith))

pub deleted_stays : (policy : Policy) (c : Cut) (object first last : ℕ) (was is : Value) → IsOfCheckedService policy c
    → kind_of object ≢ 2 → first ≢ 0 → IsLaterVersion c object first last was is → was ≡ value.Missing → is ≡ value.Missing
deleted_stays policy c object first last was is h kind some after = gone_stays policy c h object first last was is after kind some
