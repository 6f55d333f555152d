-- What is committed stays in a checked world: the law `what_is_committed_stays` cites `made_from` and the lemma of its
-- name.
use Rattle.std.proofs.Common.{◌≡◌, ◌≢◌, ℕ, zero, suc, ◌<◌, ◌≤◌, ◌+◌, ◌*◌, ◌&&◌, Bool, true, false, List, Contains, Some, None, is_some, ◌==◌, ◌⊎◌, inl, inr, ⊎_elim, if◌then◌else◌, refl, sym, ap, ◌∙◌, subst, arith}
use Rattle.std.specs.List.{list_any, list_all}
use Rattle.std.proofs.lemmas.Bool.{eqb-true, eqb-false}
use Rattle.album_items.specs.ItemIds.{number_of, place_of}
use Rattle.album_items.specs.Openings.{Row, is_base_opening, has_counts, has_own_value, has_single_rows, is_low_row, greatest_number}
use Rattle.album_items.specs.declared.openings.Opening.{Opening}
use Rattle.album_items.specs.declared.values.Value.{Value}
use Rattle.album_items.specs.declared.values.Value.TheVariants.{Missing}
use Rattle.album_terminate.specs.declared.deciding.StampState.TheVariants as state
use Rattle.album_partition.specs.declared.marks.Mark.{Mark}
use Rattle.album_partition.specs.Bases.{IsMadeOn}
use Rattle.album_partition.specs.Marks.{commits, discards, prepares, state_by, state_of, value_in, version, first_value, latest}
use Rattle.album_partition.proofs.StateLemmas.{committed_tells}
use Rattle.album_reader.specs.Atomic.{IsReadAtomic, IsWrittenBy}
use Rattle.album_views.specs.Asks.{made_by}
use Rattle.album_views.specs.ReadSets.{IsNamed}
use Rattle.album_views.specs.ReadSets.IsNamed.{Subject, ListOf}
use Rattle.album_views.specs.Seen.{seen}
use Rattle.album_listing.specs.ViewLookups.{stamp_seen}
use Rattle.album_permits.specs.Permits.{PermitState}
use Rattle.album_client.specs.Steps.{Transaction}
use Rattle.album_client.specs.Terms.{Terms, terms_of}
use Rattle.album_permits.specs.declared.events.Event.{Event}
use Rattle.album_world.specs.Atomic.{writes_in_world}
use Rattle.album_world.specs.Committing.{history}
use Rattle.album_world.specs.Granted.{WritesAreGranted}
use Rattle.album_world.specs.Past.{World}
use Rattle.album_world.specs.Runs.{run_of}
use Rattle.album_world.specs.Staying.{IsCommittedAs, IsVersion, IsLaterVersion, IsKeptBetween, IsMadeFrom}
use Rattle.album_world.specs.Staying.IsMadeFrom.{Same, Written}
use Rattle.album_world.specs.Updates.{IsPendingFor, IsMadeOnItsView, LosesNoUpdate}
use Rattle.album_world.proofs.AgeLemmas.{first_missing, new_number, pair_in}
use Rattle.album_world.proofs.ListLemmas.{and_left, and_right, contains, none_some, some_same, within}
use Rattle.album_world.proofs.MarkLemmas.{some_is, wrote, wrote_none, version_wrote, latest_least}
use Rattle.album_world.proofs.PromiseLemmas.{views_are_read_atomic, writes_are_granted}
use Rattle.album_world.proofs.ShareLemmas.{drawn}
use Rattle.album_world.proofs.RunLemmas.{always_kept}
use Rattle.album_world.proofs.ShownLemmas.{IsShownBy, shown_by, shown_read, shown_or_missing}
use Rattle.album_world.proofs.UpdateLemmas.{no_update_is_lost, pending_is_made}
use Rattle.album_world.proofs.ValueLemmas.{IsWrittenAs, written_as}
use Rattle.album_world.proofs.ValueLemmas.IsWrittenAs.{Made, Rewritten, Gone, Listed}

-- ---- what stays

-- a stamp at which the item has a version is pending or committed
live : (ms : List Mark) (i t : ℕ) (v : Value) → version ms i t ≡ Some v
    → (state_of ms t ≡ state.Pending) ⊎ (state_of ms t ≡ state.Committed)
live ms i t v is = go (list_any (commits t) ms) (list_any (discards t) ms) (list_any (prepares t) ms) refl refl refl
  where
    at : (a b c : Bool) → list_any (commits t) ms ≡ a → list_any (discards t) ms ≡ b → list_any (prepares t) ms ≡ c
        → state_of ms t ≡ state_by a b c
    at a b c e f g j = state_by (e j) (f j) (g j)

    go : (a b c : Bool) → list_any (commits t) ms ≡ a → list_any (discards t) ms ≡ b → list_any (prepares t) ms ≡ c
        → (state_of ms t ≡ state.Pending) ⊎ (state_of ms t ≡ state.Committed)
    go true b c e f g = inr (at true b c e f g)
    go false true c e f g = none_some (sym (ap (λ (b : Bool). if b then None else wrote ms t i) f) ∙ is)
    go false false true e f g = inl (at false false true e f g)
    go false false false e f g = wrote_none ms t i v g (version_wrote ms i t v is)

module _ (o : Opening) (w : World) (granted : WritesAreGranted (terms_of o) w) (updates : LosesNoUpdate (terms_of o) w)
    (right : list_all (is_low_row (greatest_number o.first)) o.items ≡ true)
    (drawn_high : (by : Transaction) → Contains w.past.transactions by → greatest_number o.first < by.stamp)
    (pending : (i t : ℕ) → IsPendingFor (terms_of o) w i t → IsMadeOnItsView (terms_of o) w i t)
    (atomic : (by : Transaction) → Contains w.past.transactions by
    → IsReadAtomic (writes_in_world w) (first_value o.items) by.permit.view.rows) where
  -- nothing is committed at 0
  above_none : (i s : ℕ) (v : Value) → IsCommittedAs (terms_of o) w i s v → s ≢ 0
  above_none i s v c none =
      let one = granted.versions (place_of o.parts i) i s v c.is in
      absurd (drawn w one.by one.by.client (granted.granted one.by one.begun).drawn (one.at ∙ none))

  -- what the view of a write shows of an item at the stamp of a version is that version
  shows :
      (by : Transaction) (i : ℕ) (v : Value) → Contains w.past.transactions by → stamp_seen by.permit.view.rows i ≢ 0
      → version (history w (place_of o.parts i)) i (stamp_seen by.permit.view.rows i) ≡ Some v
      → seen by.permit.view.rows i ≡ v
  shows by i v begun some is =
      let shown = shown_by by.permit.view.rows i some in
      let one = granted.versions (place_of o.parts i) i (stamp_seen by.permit.view.rows i) v is in
      shown.value ∙ ⊎_elim
      (λ (first : (shown.row.stamp ≡ 0) × (shown.row.value ≡ first_value o.items shown.row.item)).
      absurd (some (shown.stamp ∙ first.0)))
      (λ (write : IsWrittenBy (writes_in_world w) shown.row).
      let same : write.by.by ≡ one.by =
      one.alone write.by.by write.by.begun (write.at ∙ sym shown.stamp) in
      some_same (sym write.wrote ∙ ap (λ (t : Transaction). value_in t.writes shown.row.item) same
      ∙ ap (value_in one.by.writes) shown.of ∙ one.wrote))
      ((atomic by begun).written shown.row shown.there)

  -- a version that is committed, here or elsewhere, was made on the view of its write
  made : (i t : ℕ) (v : Value) → version (history w (place_of o.parts i)) i t ≡ Some v → IsMadeOnItsView (terms_of o) w i t
  made i t v is = ⊎_elim
      (λ p. pending i t (record { pending = p; there = ap is_some is }))
      (λ c. updates.made_on i t (record { committed = c; there = ap is_some is }))
      (live (history w (place_of o.parts i)) i t v is)

  -- and on none that is older than an earlier one
  not_older : (i first last base : ℕ) (was is : Value) → version (history w (place_of o.parts i)) i first ≡ Some was
      → version (history w (place_of o.parts i)) i last ≡ Some is → first < last
      → IsMadeOn (history w (place_of o.parts i)) i last base → first ≤ base
  not_older i first last base was is from here less on = ⊎_elim
      (λ (p : state_of ms first ≡ state.Pending). ⊎_elim
      (λ (q : state_of ms last ≡ state.Pending).
      let same : first ≡ last = updates.one_pending i first last (record { pending = p; there = ap is_some from })
      (record { pending = q; there = ap is_some here }) in
      absurd (omega (arith, same, less)))
      (λ (c : state_of ms last ≡ state.Committed).
      let above : latest ms i < first = updates.above i first (record { pending = p; there = ap is_some from }) in
      let least : last ≤ latest ms i = latest_least ms last i is (committed_tells _ _ _ c) here in
      absurd (omega (arith, above, least, less)))
      (live ms i last is here))
      (λ (c : state_of ms first ≡ state.Committed). on.next first c (ap is_some from) less)
      (live ms i first was from)
    where
      ms : List Mark
      ms = history w (place_of o.parts i)

  -- what a write does not make is in its view
  read_or_made :
      (by : Transaction) (i : ℕ) (v : Value) → Contains w.past.transactions by → value_in by.writes i ≡ Some v
      → IsShownBy by.permit.view.rows i ⊎ Contains (made_by by.permit.view.ask by.stamp) i
  read_or_made by i v begun wrote_it =
      let g = granted.granted by begun in
      go (λ item named. shown_read by.permit.view.rows item (g.view.closed item named))
      (written_as by.permit by.stamp i v
      (subst (λ (ws : List Row). Contains ws (i, v)) g.writes.effect (contains (pair_in by.writes i v wrote_it))))
    where
      go :
          ((item : ℕ) → IsNamed (seen by.permit.view.rows) by.permit.view.looker by.permit.view.ask item → IsShownBy by.permit.view.rows item)
          → IsWrittenAs (seen by.permit.view.rows) by.stamp by.permit.view.ask i v
          → IsShownBy by.permit.view.rows i ⊎ Contains (made_by by.permit.view.ask by.stamp) i
      go read (Made new own) = inr new
      go read (Rewritten subject r) = inl (read i (Subject i subject))
      go read (Gone object subject asked whose e) = inl (⊎_elim
          (λ (same : object ≡ i). subst (IsShownBy by.permit.view.rows) same (read object (Subject object subject)))
          (λ c. read i (ListOf object i subject c))
          whose)
      go read (Listed object subject whose sets entries e) = inl (read i (ListOf object i subject whose))

  -- what the view of a write shows of an item at 0 is the opening's
  shows_first :
      (by : Transaction) (i : ℕ) (v : Value) → Contains w.past.transactions by → value_in by.writes i ≡ Some v
      → stamp_seen by.permit.view.rows i ≡ 0 → seen by.permit.view.rows i ≡ first_value o.items i
  shows_first by i v begun wrote_it none = ⊎_elim of_row
      (λ (gone : seen by.permit.view.rows i ≡ Missing). ⊎_elim of_row
      (λ new. gone ∙ sym (first_missing (greatest_number o.first) o.items i right
      (let number : number_of i ≡ by.stamp = new_number by.permit.view.ask by.stamp i new in
      let high : greatest_number o.first < by.stamp = drawn_high by begun in omega (arith, number, high))))
      (read_or_made by i v begun wrote_it))
      (shown_or_missing by.permit.view.rows i)
    where
      of_row : IsShownBy by.permit.view.rows i → seen by.permit.view.rows i ≡ first_value o.items i
      of_row shown = shown.value ∙ ⊎_elim
          (λ (first : (shown.row.stamp ≡ 0) × (shown.row.value ≡ first_value o.items shown.row.item)).
          first.1 ∙ ap (first_value o.items) shown.of)
          (λ (write : IsWrittenBy (writes_in_world w) shown.row).
          absurd (drawn w write.by.by write.by.by.client (granted.granted write.by.by write.by.begun).drawn
          (write.at ∙ sym shown.stamp ∙ none)))
          ((atomic by begun).written shown.row shown.there)

  -- so it shows a version, whatever the stamp
  shows_version :
      (by : Transaction) (i : ℕ) (v : Value) → Contains w.past.transactions by → value_in by.writes i ≡ Some v
      → IsMadeOn (history w (place_of o.parts i)) i by.stamp (stamp_seen by.permit.view.rows i)
      → IsVersion o w i (stamp_seen by.permit.view.rows i) (seen by.permit.view.rows i)
  shows_version by i v begun wrote_it on = go (stamp_seen by.permit.view.rows i == 0) refl
    where
      base : ℕ
      base = stamp_seen by.permit.view.rows i

      go : (b : Bool) → (base == 0) ≡ b → IsVersion o w i base (seen by.permit.view.rows i)
      go true e = let none = eqb-true base 0 e in inl (none, shows_first by i v begun wrote_it none)
      go false e =
          let some : base ≢ 0 = eqb-false base 0 e in
          let there = some_is (version (history w (place_of o.parts i)) i base) (on.there some) in
          inr (subst (IsCommittedAs (terms_of o) w i base) (sym (shows by i there.0 begun some there.1))
          (record { committed = (place_of o.parts i, committed_tells _ _ _ (on.committed some)); is = there.1 }))

  module _ (i first : ℕ) (was : Value) (from : IsVersion o w i first was) where
    -- a version at a stamp that is below a bound
    made_below :
        (n last : ℕ) (is : Value) → last < n → first ≤ last → IsVersion o w i last is
        → IsMadeFrom (terms_of o) w i first was last is
    made_below zero last is low after here = absurd (omega arith)
    made_below (suc n) last is low after (inl here) = ⊎_elim
        (λ (f : (first ≡ 0) × (was ≡ first_value o.items i)).
        subst (λ (p : ℕ × Value). IsMadeFrom (terms_of o) w i first was p.0 p.1)
        (λ j. ((f.0 ∙ sym here.0) j, (f.1 ∙ sym here.1) j)) Same)
        (λ c. let none : last ≡ 0 = here.0 in absurd (above_none i first was c (omega (arith, after, none))))
        from
    made_below (suc n) last is low after (inr here) = go (first == last) refl (made_below n)
      where
        ms : List Mark
        ms = history w (place_of o.parts i)

        go :
            (b : Bool) → (first == last) ≡ b
            → ((s : ℕ) (v : Value) → s < n → first ≤ s → IsVersion o w i s v → IsMadeFrom (terms_of o) w i first was s v)
            → IsMadeFrom (terms_of o) w i first was last is
        go true same rest =
            let e : first ≡ last = eqb-true first last same in
            let v : was ≡ is = ⊎_elim
            (λ (f : (first ≡ 0) × (was ≡ first_value o.items i)). absurd (above_none i last is here (sym e ∙ f.0)))
            (λ (c : IsCommittedAs (terms_of o) w i first was).
            some_same (sym c.is ∙ ap (λ (s : ℕ). version ms i s) e ∙ here.is)) from in
            subst (λ (p : ℕ × Value). IsMadeFrom (terms_of o) w i first was p.0 p.1) (λ j. (e j, v j)) Same
        go false other rest =
            let m = made i last is here.is in
            let base = stamp_seen m.by.permit.view.rows i in
            let apart = eqb-false first last other in
            let low_base : base < last = m.on.below in
            let below : first ≤ base = ⊎_elim
            (λ (f : (first ≡ 0) × (was ≡ first_value o.items i)). let none : first ≡ 0 = f.0 in omega (arith, none))
            (λ (c : IsCommittedAs (terms_of o) w i first was).
            not_older i first last base was is c.is here.is (omega (arith, after, apart)) m.on) from in
            let one = granted.versions (place_of o.parts i) i last is here.is in
            let alike : m.by ≡ one.by = one.alone m.by m.begun m.stamp_is in
            let wrote_it : value_in m.by.writes i ≡ Some is = ap (λ (t : Transaction). value_in t.writes i) alike ∙ one.wrote in
            let shown = shows_version m.by i is m.begun wrote_it
            (subst (λ (s : ℕ). IsMadeOn ms i s base) (sym m.stamp_is) m.on) in
            subst (λ (s : ℕ). IsMadeFrom (terms_of o) w i first was s is) m.stamp_is
            (Written m.by is m.begun wrote_it
            (subst (λ (s : ℕ). IsCommittedAs (terms_of o) w i s is) (sym m.stamp_is) here)
            (subst (λ (s : ℕ). base < s) (sym m.stamp_is) low_base)
            (rest base (seen m.by.permit.view.rows i) (omega (arith, low_base, low)) below shown))

-- what is made from a version keeps what each write in between keeps
pub made_keeps :
    (t : Terms) (w : World) (P : Value → Type 0) (i first : ℕ) (was : Value) {last : ℕ} {is : Value}
    → IsMadeFrom t w i first was last is → (top : ℕ) → last ≤ top
    → (first ≤ last) × (IsKeptBetween t w P i first top → P was → P is)
made_keeps t w P i first was Same top under = (omega arith, λ kept holds. holds)
made_keeps t w P i first was (Written by is begun wrote committed below rest) top under =
    let h = made_keeps t w P i first was rest top (omega arith) in (
      omega (arith, h.0, below),
      λ kept holds.
          kept by is (record {
            begun = begun;
            wrote = wrote;
            committed = committed;
            above = omega (arith, h.0, below);
            within = under;
          }) (h.1 kept holds),
    )

-- ---- the promises

-- the view of each write is read atomic
pub views_whole :
    (o : Opening) (es : List Event) → is_base_opening o ≡ true → (by : Transaction)
    → Contains (run_of o es).past.transactions by
    → IsReadAtomic (writes_in_world (run_of o es)) (first_value o.items) by.permit.view.rows
views_whole o es opens by begun =
    let g = (writes_are_granted o es opens).granted by begun in
    subst (λ (p : PermitState). IsReadAtomic (writes_in_world (run_of o es)) (first_value o.items) p.view.rows) (sym g.on)
    (views_are_read_atomic o es opens g.read g.rows g.made g.shown)

-- the rows of an opening have low numbers
pub low_rows : (o : Opening) → is_base_opening o ≡ true → list_all (is_low_row (greatest_number o.first)) o.items ≡ true
low_rows o opens =
    and_right (has_single_rows o.items && list_all has_own_value o.items)
    (list_all (is_low_row (greatest_number o.first)) o.items)
    (and_right (has_counts o)
    (has_single_rows o.items && list_all has_own_value o.items && list_all (is_low_row (greatest_number o.first)) o.items)
    opens)

-- no opening has the number of a stamp that was drawn
pub stamps_high :
    (o : Opening) (es : List Event) → is_base_opening o ≡ true → (by : Transaction)
    → Contains (run_of o es).past.transactions by → greatest_number o.first < by.stamp
stamps_high o es opens by begun =
    let d = (always_kept o es opens).drawn by (within _ begun) in
    let rises : o.first < d.counter = d.rises in
    let low : 0 < d.client = d.low in
    let is : by.stamp ≡ d.counter * 65536 + d.client = d.is in
    omega (arith, rises, low, is)

pub made_from :
    (o : Opening) (es : List Event) (i first last : ℕ) (was is : Value) → is_base_opening o ≡ true → o.checked ≡ true
    → IsLaterVersion o (run_of o es) i first last was is
    → IsMadeFrom (terms_of o) (run_of o es) i first was last is
made_from o es i first last was is opens checked after =
    made_below o (run_of o es) (writes_are_granted o es opens) (no_update_is_lost o es opens checked)
    (low_rows o opens) (stamps_high o es opens) (pending_is_made o es opens checked) (views_whole o es opens)
    i first was after.earlier (suc last) last is (omega arith) after.order after.later

pub what_is_committed_stays :
    (o : Opening) (es : List Event) (P : Value → Type 0) (i first last : ℕ) (was is : Value) → is_base_opening o ≡ true
    → o.checked ≡ true → IsLaterVersion o (run_of o es) i first last was is
    → IsKeptBetween (terms_of o) (run_of o es) P i first last → P was → P is
what_is_committed_stays o es P i first last was is opens checked after kept holds =
    (made_keeps (terms_of o) (run_of o es) P i first was (made_from o es i first last was is opens checked after) last
    (omega arith)).1 kept holds
