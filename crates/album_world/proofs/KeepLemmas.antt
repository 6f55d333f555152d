-- Acknowledged writes stay in a checked world: the law `acknowledged_writes_stay` cites the lemmas at the end.
use Rattle.std.proofs.Common.{◌≡◌, ◌≢◌, ℕ, suc, ◌<◌, ◌≤◌, ◌==◌, ◌||◌, Bool, true, false, List, [], ◌∷◌, Contains, Some, ◌⊎◌, inl, inr, ⊎_elim, refl, sym, ap, ◌∙◌, subst, arith}
use Rattle.std.proofs.lemmas.Bool.{and_parts, eqb-true}
use Rattle.album_lists.specs.declared.lists.Ace.{Ace}
use Rattle.album_items.specs.ItemBack.{kind_of-item}
use Rattle.album_items.specs.ItemIds.{picture, album, list, group, kind_of, number_of, place_of}
use Rattle.album_items.specs.Openings.{Row, is_base_opening, greatest_number}
use Rattle.album_items.specs.Transactions.{items_written}
use Rattle.album_items.specs.Values.{head_of, home_of, children_of, list_of, members_of}
use Rattle.album_items.specs.declared.openings.Opening.{Opening}
use Rattle.album_items.specs.declared.values.Head.{Head}
use Rattle.album_items.specs.declared.values.Value.{Value}
use Rattle.album_items.specs.declared.values.Value.TheVariants as value
use Rattle.album_partition.specs.Marks.{first_value, value_in}
use Rattle.album_reader.specs.Answers.{ReadVersion}
use Rattle.album_reader.specs.Atomic.{IsWrittenBy}
use Rattle.album_listing.specs.Fields.{title_field, content_field}
use Rattle.album_views.proofs.Flaws.{no_flaw}
use Rattle.album_views.specs.Asks.{made_by}
use Rattle.album_views.specs.Checks.{has_kinds, has_single_objects}
use Rattle.album_views.specs.Seen.{seen}
use Rattle.album_views.specs.declared.asks.Ask.{Ask}
use Rattle.album_views.specs.declared.asks.Ask.TheVariants as ask
use Rattle.album_permits.specs.declared.answers.Answer.TheVariants as answer
use Rattle.album_permits.specs.declared.events.Event.{Event}
use Rattle.album_client.specs.Steps.{Transaction}
use Rattle.album_client.specs.Terms.{terms_of}
use Rattle.album_world.specs.Atomic.{writes_in_world}
use Rattle.album_world.specs.Committing.{history, IsCommitted, IsCommittedEverywhere}
use Rattle.album_world.specs.Granted.{IsGranted}
use Rattle.album_world.specs.Outcomes.{IsOfWrite, IsTrueOutcome}
use Rattle.album_world.specs.Past.{World, PastAnswer, Read}
use Rattle.album_world.specs.Runs.{run_of}
use Rattle.album_world.specs.Staying.{IsCommittedAs, IsVersion, IsLaterVersion, IsKeptWhole, IsBetween, NoneBetween, TakesOut, SetsTitle, SetsContent, HandsOver, SetsList, SetsMembers}
use Rattle.album_world.specs.Staying.TakesOut.{Deletes as DeletesChild}
use Rattle.album_world.specs.Staying.SetsTitle.{Deletes as DeletesTitled}
use Rattle.album_world.specs.Staying.SetsContent.{Deletes as DeletesFilled}
use Rattle.album_world.specs.Staying.HandsOver.{Deletes}
use Rattle.album_world.specs.Staying.SetsList.{Deletes as DeletesHolder}
use Rattle.album_world.proofs.AgeLemmas.{ages, first_missing, new_number, pair_in}
use Rattle.album_world.proofs.AnsweredLemmas.{never_discarded}
use Rattle.album_world.proofs.ListLemmas.{contains, in_nil, in_one, within}
use Rattle.album_world.proofs.MarkLemmas.{version_is}
use Rattle.album_world.proofs.PlaceLemmas.{place_in, item_in}
use Rattle.album_world.proofs.PromiseLemmas.{outcomes_are_true, views_are_read_atomic, writes_are_granted}
use Rattle.album_world.proofs.RunLemmas.{always_kept, opening_is}
use Rattle.album_world.proofs.StayLemmas.{low_rows, stamps_high, views_whole, what_is_committed_stays}
use Rattle.album_world.proofs.ValueLemmas.{IsRewritten, IsWrittenAs, written_as}
use Rattle.album_world.proofs.ValueLemmas.IsWrittenAs.{Made, Rewritten, Gone, Listed}

-- ---- kinds

list_kind : (v : Value) (i : ℕ) → Contains (list_of v) i → kind_of i ≡ 2
list_kind value.Missing i c = in_nil (within [] c)
list_kind (value.Picture x) i c = ap kind_of (in_one (within _ c)) ∙ kind_of-item 2 x.head.list (omega arith)
list_kind (value.Album x) i c = ap kind_of (in_one (within _ c)) ∙ kind_of-item 2 x.head.list (omega arith)
list_kind (value.List x) i c = in_nil (within [] c)
list_kind (value.Group x) i c = ap kind_of (in_one (within _ c)) ∙ kind_of-item 2 x.head.list (omega arith)

-- what is deleted is a picture
deleted_kind : (object : ℕ) → has_kinds (ask.Delete object) ≡ true → kind_of object ≡ 0
deleted_kind object kinds =
    sym (eqb-true 0 (kind_of object)
    (only (0 == kind_of object) (and_parts (0 == kind_of object || false) true kinds).0))
  where
    only : (b : Bool) → (b || false) ≡ true → b ≡ true
    only true e = refl
    only false e = e

-- what is of another kind is no list
not_listed : {P : Type 0} (kind i : ℕ) (v : Value) → kind_of i ≡ kind → kind ≢ 2 → Contains (list_of v) i → P
not_listed kind i v is other c = absurd (other (sym is ∙ list_kind v i c))

module _ (o : Opening) (es : List Event) (opens : is_base_opening o ≡ true) where
  abbrev pub w : World
  w = run_of o es

  -- what has a version is not made anew at a greater stamp, unless that is the opening's, and missing
  not_made : {P : Type 0} (i first : ℕ) (was : Value) (by : Transaction) → IsVersion o w i first was
      → Contains w.past.transactions by → first < by.stamp
      → Contains (made_by by.permit.view.ask by.stamp) i
      → (first ≡ 0 → was ≡ value.Missing → ⊥) → P
  not_made i first was by from begun above new there =
      let number : number_of i ≡ by.stamp = new_number by.permit.view.ask by.stamp i new in
      let drawn : greatest_number o.first < by.stamp = stamps_high o es opens by begun in
      let high : greatest_number o.first < number_of i = omega (arith, number, drawn) in
      absurd (⊎_elim
      (λ (f : (first ≡ 0) × (was ≡ first_value o.items i)).
      there f.0 (f.1 ∙ first_missing (greatest_number o.first) o.items i (low_rows o opens) high))
      (λ (c : IsCommittedAs (terms_of o) w i first was).
      let granted = writes_are_granted o es opens in
      let one = granted.versions (place_of o.parts i) i first was c.is in
      let old = (ages o w (low_rows o opens) granted.granted (views_whole o es opens) (suc one.by.stamp) one.by one.begun
      (omega arith) i was one.wrote).own in
      let at : one.by.stamp ≡ first = one.at in
      let known : number_of i ≤ one.by.stamp = old.known high in
      omega (arith, known, number, at, above))
      from)

  module _ (checked : o.checked ≡ true) where
    -- a property that each value that is written has of the one that the view shows
    keep :
        (P : Value → Type 0) (i first last : ℕ) (was is : Value) → IsLaterVersion o w i first last was is
        → ((by : Transaction) (v : Value) → IsBetween (terms_of o) w i first last by v → IsGranted (terms_of o) w by
        → IsWrittenAs (seen by.permit.view.rows) by.stamp by.permit.view.ask i v → P (seen by.permit.view.rows i) → P v)
        → P was → P is
    keep P i first last was is after each =
        what_is_committed_stays o es P i first last was is opens checked after
        (λ by v between.
        let g = (writes_are_granted o es opens).granted by between.begun in
        each by v between g (written_as by.permit by.stamp i v
        (subst (λ (ws : List Row). Contains ws (i, v)) g.writes.effect (contains (pair_in by.writes i v between.wrote)))))

    -- what the rest of a proof has to say: the write is granted, and none like it does this
    flawless : (by : Transaction) (object : ℕ) → IsGranted (terms_of o) w by → by.permit.view.ask ≡ ask.Delete object
        → kind_of object ≡ 0
    flawless by object g asked =
        deleted_kind object (subst (λ (a : Ask). has_kinds a ≡ true) asked
        (and_parts (has_kinds by.permit.view.ask) (has_single_objects by.permit.view.ask)
        (no_flaw by.permit.view.ask g.view.sound).request).0)

    -- neither deleted nor the list of what is deleted
    not_gone : {P : Type 0} (kind i object : ℕ) (by : Transaction) → kind_of i ≡ kind → kind ≢ 0 → kind ≢ 2
        → IsGranted (terms_of o) w by → by.permit.view.ask ≡ ask.Delete object
        → (object ≡ i) ⊎ Contains (list_of (seen by.permit.view.rows object)) i → P
    not_gone kind i object by is picture lists g asked (inl same) =
        absurd (picture (sym is ∙ sym (ap kind_of same) ∙ flawless by object g asked))
    not_gone kind i object by is picture lists g asked (inr whose) =
        absurd (lists (sym is ∙ list_kind (seen by.permit.view.rows object) i whose))

    module _ (i first last : ℕ) (was is : Value) (after : IsLaterVersion o w i first last was is) where
      not_new : {P : Type 0} (by : Transaction) (v : Value) → IsBetween (terms_of o) w i first last by v
          → Contains (made_by by.permit.view.ask by.stamp) i → (first ≡ 0 → was ≡ value.Missing → ⊥) → P
      not_new by v between = not_made i first was by after.earlier between.begun between.above

      child_stays :
          (child : ℕ) → kind_of i ≡ 1
          → NoneBetween (terms_of o) w (λ by. TakesOut child by.permit.view.ask) i first last
          → Contains (children_of was) child → Contains (children_of is) child
      child_stays child kind none there = keep (λ v. Contains (children_of v) child) i first last was is after each there
        where
          each : (by : Transaction) (v : Value) → IsBetween (terms_of o) w i first last by v → IsGranted (terms_of o) w by
              → IsWrittenAs (seen by.permit.view.rows) by.stamp by.permit.view.ask i v
              → Contains (children_of (seen by.permit.view.rows i)) child → Contains (children_of v) child
          each by v between g (Made new own) p = not_new by v between new
              (λ zero e. in_nil (within [] (subst (λ (x : Value). Contains (children_of x) child) e there)))
          each by v between g (Rewritten subject r) p = ⊎_elim (λ c. c) (λ t. absurd (none by v between t)) (r.children child p)
          each by v between g (Gone object subject asked whose e) p =
              not_gone 1 i object by kind (λ q. omega (arith, q)) (λ q. omega (arith, q)) g asked whose
          each by v between g (Listed object subject whose sets entries e) p =
              not_listed 1 i (seen by.permit.view.rows object) kind (λ q. omega (arith, q)) whose

      -- a field that what is missing doesn't have so
      field_stays :
          {A : Type 0} (F : Value → A) (Does : Ask → Type 0) (x : A) → (F value.Missing ≡ x → ⊥) → Does (ask.Delete i)
          → ((shown : ℕ → Value) (stamp : ℕ) (a : Ask) (v : Value) → IsRewritten shown stamp a i (shown i) v
          → (F v ≡ F (shown i)) ⊎ Does a)
          → kind_of i ≢ 2 → NoneBetween (terms_of o) w (λ by. Does by.permit.view.ask) i first last → F was ≡ x → F is ≡ x
      field_stays F Does x had deletes rewrites kind none there = keep (λ v. F v ≡ x) i first last was is after each there
        where
          each : (by : Transaction) (v : Value) → IsBetween (terms_of o) w i first last by v → IsGranted (terms_of o) w by
              → IsWrittenAs (seen by.permit.view.rows) by.stamp by.permit.view.ask i v
              → F (seen by.permit.view.rows i) ≡ x → F v ≡ x
          each by v between g (Made new own) p = not_new by v between new (λ zero e. had (sym (ap F e) ∙ there))
          each by v between g (Rewritten subject r) p = ⊎_elim (λ e. e ∙ p) (λ t. absurd (none by v between t))
              (rewrites (seen by.permit.view.rows) by.stamp by.permit.view.ask v r)
          each by v between g (Gone object subject asked whose e) p = ⊎_elim
              (λ (same : object ≡ i). absurd (none by v between
              (subst Does (sym (asked ∙ ap ask.Delete same)) deletes)))
              (λ c. absurd (kind (list_kind (seen by.permit.view.rows object) i c)))
              whose
          each by v between g (Listed object subject whose sets entries e) p =
              absurd (kind (list_kind (seen by.permit.view.rows object) i whose))

      list_stays :
          (entries : List Ace) → kind_of i ≡ 2
          → NoneBetween (terms_of o) w (λ by. SetsList (seen by.permit.view.rows) i by.permit.view.ask) i first last
          → was ≡ value.List entries → is ≡ value.List entries
      list_stays entries kind none there = keep (λ v. v ≡ value.List entries) i first last was is after each there
        where
          each : (by : Transaction) (v : Value) → IsBetween (terms_of o) w i first last by v → IsGranted (terms_of o) w by
              → IsWrittenAs (seen by.permit.view.rows) by.stamp by.permit.view.ask i v
              → seen by.permit.view.rows i ≡ value.List entries → v ≡ value.List entries
          each by v between g (Made new own) p = not_new by v between new
              (λ zero e. let other : value.Missing ≡ value.List entries = sym e ∙ there in cc)
          each by v between g (Rewritten subject r) p = r.entries entries p
          each by v between g (Gone object subject asked whose e) p = ⊎_elim
              (λ (same : object ≡ i). let none_of : kind_of i ≡ 0 = sym (ap kind_of same) ∙ flawless by object g asked in
              absurd (omega (arith, kind, none_of)))
              (λ c. absurd (none by v between
              (subst (SetsList (seen by.permit.view.rows) i) (sym asked) (DeletesHolder object c))))
              whose
          each by v between g (Listed object subject whose sets others e) p = absurd (none by v between sets)

      members_stay :
          kind_of i ≡ 3 → was ≢ value.Missing
          → NoneBetween (terms_of o) w (λ by. SetsMembers i by.permit.view.ask) i first last
          → members_of is ≡ members_of was
      members_stay kind there none = keep (λ v. members_of v ≡ members_of was) i first last was is after each refl
        where
          each : (by : Transaction) (v : Value) → IsBetween (terms_of o) w i first last by v → IsGranted (terms_of o) w by
              → IsWrittenAs (seen by.permit.view.rows) by.stamp by.permit.view.ask i v
              → members_of (seen by.permit.view.rows i) ≡ members_of was → members_of v ≡ members_of was
          each by v between g (Made new own) p = not_new by v between new (λ zero e. there e)
          each by v between g (Rewritten subject r) p = ⊎_elim (λ e. e ∙ p) (λ t. absurd (none by v between t)) r.group
          each by v between g (Gone object subject asked whose e) p =
              not_gone 3 i object by kind (λ q. omega (arith, q)) (λ q. omega (arith, q)) g asked whose
          each by v between g (Listed object subject whose sets entries e) p =
              not_listed 3 i (seen by.permit.view.rows object) kind (λ q. omega (arith, q)) whose

      gone_stays : kind_of i ≢ 2 → first ≢ 0 → was ≡ value.Missing → is ≡ value.Missing
      gone_stays kind some = keep (λ v. v ≡ value.Missing) i first last was is after each
        where
          each : (by : Transaction) (v : Value) → IsBetween (terms_of o) w i first last by v → IsGranted (terms_of o) w by
              → IsWrittenAs (seen by.permit.view.rows) by.stamp by.permit.view.ask i v
              → seen by.permit.view.rows i ≡ value.Missing → v ≡ value.Missing
          each by v between g (Made new own) p = not_new by v between new (λ zero e. some zero)
          each by v between g (Rewritten subject r) p = r.gone p
          each by v between g (Gone object subject asked whose e) p = e
          each by v between g (Listed object subject whose sets entries e) p =
              absurd (kind (list_kind (seen by.permit.view.rows object) i whose))

  -- what a write that is committed somewhere wrote is committed as it was written
  committed_as :
      (by : Transaction) → Contains w.past.transactions by → IsCommitted w by.stamp → (i : ℕ) (v : Value)
      → value_in by.writes i ≡ Some v → IsCommittedAs (terms_of o) w i by.stamp v
  committed_as by begun done i v wrote =
      let k = always_kept o es opens in
      let s = (k.sound done.0).committed by.stamp done.1 in
      let same : s.of ≡ by = k.unique s.of by s.begun (within _ begun) s.stamp in
      record {
        committed = done;
        is = version_is (history w (place_of o.parts i)) i by.stamp
            (never_discarded o es by.stamp done.0 (place_of o.parts i) opens done.1)
            ∙ s.ready i v (ap (λ (t : Transaction). value_in t.writes i) same ∙ wrote);
      }

  -- so it is of a write that is committed everywhere
  committed_whole :
      (by : Transaction) → Contains w.past.transactions by → IsCommittedEverywhere (terms_of o) w by
      → IsKeptWhole (terms_of o) w by
  committed_whole by begun done i v wrote =
      let p = place_of o.parts i in
      committed_as by begun (
        p,
        done p (contains (place_in o.parts (items_written by.writes) i (opening_is o opens).some
            (item_in by.writes i v wrote))),
      ) i v wrote

-- ---- the promises

pub acknowledged :
    (o : Opening) (es : List Event) (given : PastAnswer) (stamp : ℕ) → is_base_opening o ≡ true
    → Contains (run_of o es).past.answers given → given.answer ≡ answer.Committed stamp
    → IsOfWrite (run_of o es) given.client stamp (IsKeptWhole (terms_of o) (run_of o es))
acknowledged o es given stamp opens here e =
    let h = subst (IsTrueOutcome (terms_of o) (run_of o es) given) e (outcomes_are_true o es opens given here) in
    record { by = h.by; begun = h.begun; own = h.own; at = h.at; holds = committed_whole o es opens h.by h.begun h.holds }

pub what_is_read :
    (o : Opening) (es : List Event) (read : Read) (rows : List ReadVersion) (row : ReadVersion) → is_base_opening o ≡ true
    → Contains (run_of o es).past.reads read → read.rows ≡ Some rows → Contains rows row
    → IsVersion o (run_of o es) row.item row.stamp row.value
what_is_read o es read rows row opens made shown here = ⊎_elim inl
    (λ (write : IsWrittenBy (writes_in_world (run_of o es)) row).
    inr (subst (λ (s : ℕ). IsCommittedAs (terms_of o) (run_of o es) row.item s row.value) write.at
    (committed_as o es opens write.by.by write.by.begun write.committed row.item row.value write.wrote)))
    ((views_are_read_atomic o es opens read rows made shown).written row here)

pub children_stay :
    (o : Opening) (es : List Event) (number child first last : ℕ) (was is : Value) → is_base_opening o ≡ true → o.checked ≡ true
    → IsLaterVersion o (run_of o es) (album number) first last was is
    → NoneBetween (terms_of o) (run_of o es) (λ by. TakesOut child by.permit.view.ask) (album number) first last
    → Contains (children_of was) child → Contains (children_of is) child
children_stay o es number child first last was is opens checked after =
    child_stays o es opens checked (album number) first last was is after child (kind_of-item 1 number (omega arith))

pub titles_stay :
    (o : Opening) (es : List Event) (object first last : ℕ) (was is : Value) (title : List ℕ) → is_base_opening o ≡ true
    → o.checked ≡ true → kind_of object ≢ 2 → IsLaterVersion o (run_of o es) object first last was is
    → NoneBetween (terms_of o) (run_of o es) (λ by. SetsTitle object by.permit.view.ask) object first last
    → title_field was ≡ Some title → title_field is ≡ Some title
titles_stay o es object first last was is title opens checked kind after =
    field_stays o es opens checked object first last was is after title_field (SetsTitle object) (Some title)
    (λ e. absurd (cc)) DeletesTitled (λ shown stamp a v r. r.title) kind

pub contents_stay :
    (o : Opening) (es : List Event) (object first last : ℕ) (was is : Value) (content : List ℕ) → is_base_opening o ≡ true
    → o.checked ≡ true → kind_of object ≢ 2 → IsLaterVersion o (run_of o es) object first last was is
    → NoneBetween (terms_of o) (run_of o es) (λ by. SetsContent object by.permit.view.ask) object first last
    → content_field was ≡ Some content → content_field is ≡ Some content
contents_stay o es object first last was is content opens checked kind after =
    field_stays o es opens checked object first last was is after content_field (SetsContent object) (Some content)
    (λ e. absurd (cc)) DeletesFilled (λ shown stamp a v r. r.content) kind

pub homes_stay :
    (o : Opening) (es : List Event) (object first last : ℕ) (was is : Value) (home : ℕ) → is_base_opening o ≡ true
    → o.checked ≡ true → kind_of object ≢ 2 → IsLaterVersion o (run_of o es) object first last was is
    → NoneBetween (terms_of o) (run_of o es) (λ by. TakesOut object by.permit.view.ask) object first last
    → home_of was ≡ home ∷ [] → home_of is ≡ home ∷ []
homes_stay o es object first last was is home opens checked kind after =
    field_stays o es opens checked object first last was is after home_of (TakesOut object) (home ∷ [])
    (λ e. absurd (cc)) DeletesChild (λ shown stamp a v r. r.home) kind

pub heads_stay :
    (o : Opening) (es : List Event) (object first last : ℕ) (was is : Value) (head : Head) → is_base_opening o ≡ true
    → o.checked ≡ true → kind_of object ≢ 2 → IsLaterVersion o (run_of o es) object first last was is
    → NoneBetween (terms_of o) (run_of o es) (λ by. HandsOver object by.permit.view.ask) object first last
    → head_of was ≡ Some head → head_of is ≡ Some head
heads_stay o es object first last was is head opens checked kind after =
    field_stays o es opens checked object first last was is after head_of (HandsOver object) (Some head)
    (λ e. absurd (cc)) Deletes (λ shown stamp a v r. r.head) kind

pub lists_stay :
    (o : Opening) (es : List Event) (number first last : ℕ) (was is : Value) (entries : List Ace) → is_base_opening o ≡ true
    → o.checked ≡ true → IsLaterVersion o (run_of o es) (list number) first last was is
    → NoneBetween (terms_of o) (run_of o es)
    (λ by. SetsList (seen by.permit.view.rows) (list number) by.permit.view.ask) (list number) first last
    → was ≡ value.List entries → is ≡ value.List entries
lists_stay o es number first last was is entries opens checked after =
    list_stays o es opens checked (list number) first last was is after entries (kind_of-item 2 number (omega arith))

pub groups_stay :
    (o : Opening) (es : List Event) (number first last : ℕ) (was is : Value) → is_base_opening o ≡ true
    → o.checked ≡ true → IsLaterVersion o (run_of o es) (group number) first last was is
    → was ≢ value.Missing
    → NoneBetween (terms_of o) (run_of o es) (λ by. SetsMembers (group number) by.permit.view.ask) (group number) first last
    → members_of is ≡ members_of was
groups_stay o es number first last was is opens checked after =
    members_stay o es opens checked (group number) first last was is after (kind_of-item 3 number (omega arith))

pub deleted_stays :
    (o : Opening) (es : List Event) (object first last : ℕ) (was is : Value) → is_base_opening o ≡ true
    → o.checked ≡ true → kind_of object ≢ 2 → first ≢ 0 → IsLaterVersion o (run_of o es) object first last was is
    → was ≡ value.Missing → is ≡ value.Missing
deleted_stays o es object first last was is opens checked kind some after =
    gone_stays o es opens checked object first last was is after kind some
