-- No update is lost in a checked world: the law `no_update_is_lost` cites the lemma of its name. A version that is
-- pending was made on its view too (`pending_on_view`), for `StayLemmas`. Restarts cite `base_is` and `chained_at`.
use Rattle.std.proofs.Common.{◌≡◌, ℕ, ◌<◌, ◌++◌, Bool, true, false, cond, ◌==◌, List, [], ◌∷◌, map, Contains, Option, Some, None, is_some, refl, sym, ap, ◌∙◌, subst, arith}
use Rattle.std.specs.List.{slice_get, zip}
use Rattle.std.proofs.lemmas.Bool.Decides.{Decides-eqb}
use Rattle.std.proofs.lemmas.List.{append_assoc}
use Rattle.album_items.specs.ItemIds.{place_of}
use Rattle.album_items.specs.Openings.{Row, is_base_opening}
use Rattle.album_items.specs.declared.openings.Opening.{Opening}
use Rattle.album_partition.specs.declared.marks.Mark.{Mark}
use Rattle.album_partition.specs.declared.marks.Mark.TheVariants.{Prepared, Committed}
use Rattle.album_partition.specs.Bases.{are_bases, is_chained, IsMadeOn}
use Rattle.album_partition.specs.Marks.{state_of, value_in, version, latest, is_legal, is_pending}
use Rattle.album_partition.specs.Partition.{PartitionState}
use Rattle.album_partition.proofs.ChainLemmas.{made_on, base_is_latest, one_pending, pending_above}
use Rattle.album_partition.proofs.BaseLemmas.{is_chained-push}
use Rattle.album_partition.proofs.LegalLemmas.{committed_was_prepared, is_legal-push}
use Rattle.album_partition.proofs.ListLemmas.{one_before}
use Rattle.album_partition.proofs.StateLemmas.{committed_tells, pending_tells, state_push_other, committed_is_committed}
use Rattle.album_partition.proofs.VersionLemmas.{version_committed}
use Rattle.album_listing.specs.ViewLookups.{stamp_seen}
use Rattle.album_permits.specs.Permits.{PermitState}
use Rattle.album_client.specs.Terms.{terms_of}
use Rattle.album_permits.specs.declared.events.Event.{Event}
use Rattle.album_world.specs.State.{marks_of}
use Rattle.album_world.specs.Past.{World}
use Rattle.album_world.specs.Runs.{run_of}
use Rattle.album_world.specs.Committing.{history}
use Rattle.album_world.specs.Updates.{IsPendingFor, IsCommittedFor, IsMadeOnItsView, LosesNoUpdate, NoUpdateIsLost}
use Rattle.album_world.proofs.ListLemmas.{contains}
use Rattle.album_world.proofs.MarkLemmas.{prepared_in, wrote_is, version_wrote, some_is}
use Rattle.album_world.proofs.PlaceLemmas.{value_placed}
use Rattle.album_world.proofs.Invariant.{IsKept, bases_for}
use Rattle.album_world.proofs.RunLemmas.{always_kept}

-- a row of an item, with the base that the view shows
zipped : (f : Row → ℕ) (rows : List Row) (i : ℕ) → is_some (value_in rows i) ≡ true
    → (row : Row) × Contains (zip rows (map f rows)) (row, f row) × (row.0 ≡ i)
zipped f [] i e = absurd (cc)
zipped f (r ∷ rows) i e = go (r.0 == i) refl e (zipped f rows i)
  where
    go : (b : Bool) → (r.0 == i) ≡ b → is_some (cond b (Some r.1) (value_in rows i)) ≡ true
        → (is_some (value_in rows i) ≡ true → (row : Row) × Contains (zip rows (map f rows)) (row, f row) × (row.0 ≡ i))
        → (row : Row) × Contains (zip (r ∷ rows) (map f (r ∷ rows))) (row, f row) × (row.0 ≡ i)
    go true g h rest = (r, (0, omega arith, refl), (Decides-eqb r.0 i).0 g)
    go false g h rest = let x = rest h in (x.0, one_before (r, f r) (x.0, f x.0) (zip rows (map f rows)) x.1, x.2)

-- each base of a Prepare that was followed is the latest version of its item
pub base_is : (ms : List Mark) (t : ℕ) (permit : PermitState) (ws : List Row) (i : ℕ) → are_bases ms t ws (bases_for permit ws) ≡ true
    → is_some (value_in ws i) ≡ true → latest ms i ≡ stamp_seen permit.view.rows i
base_is ms t permit ws i based there =
    let z = zipped (λ (row : Row). stamp_seen permit.view.rows row.0) ws i there in
    subst (λ (j : ℕ). latest ms j ≡ stamp_seen permit.view.rows j) z.2
    (sym (base_is_latest ms t ws (bases_for permit ws) (z.0, stamp_seen permit.view.rows z.0.0) based z.1))

-- what a version would be made on if it were committed now, it is made on
made_before : (ms : List Mark) (i t base : ℕ) → IsMadeOn (ms ++ Committed t ∷ []) i t base → IsMadeOn ms i t base
made_before ms i t base h = record {
  below = h.below;
  committed = λ some. sym (state_push_other ms (Committed t) base (apart_from base h.below)) ∙ h.committed some;
  there = λ some. sym (ap is_some (version_committed ms t i base)) ∙ h.there some;
  next = λ u done has less.
      h.next u (state_push_other ms (Committed t) u (apart_from u less) ∙ done) (ap is_some (version_committed ms t i u) ∙ has)
      less;
}
  where
    apart_from : (u : ℕ) → u < t → (t == u) ≡ false
    apart_from u less = go (t == u) refl
      where
        go : (b : Bool) → (t == u) ≡ b → (t == u) ≡ false
        go true e = let same = (Decides-eqb t u).0 e in absurd (omega (arith, same, less))
        go false e = e

module _ (o : Opening) (w : World) (k : IsKept o w) (on : o.checked ≡ true) where
  legal_at : (p : ℕ) → is_legal (history w p) ≡ true
  legal_at p = (k.sound p).legal

  pub chained_at : (p : ℕ) → is_chained (history w p) ≡ true
  chained_at p = go (slice_get w.now.partitions p) refl
    where
      go : (f : Option PartitionState) → slice_get w.now.partitions p ≡ f → is_chained (marks_of f) ≡ true
      go None e = refl
      go (Some h) e = let d = k.placed p h e in d.is.chained (d.checked ∙ on)

  made_on_view : (i t : ℕ) → IsCommittedFor (terms_of o) w i t → IsMadeOnItsView (terms_of o) w i t
  made_on_view i t h =
      let p = place_of o.parts i in
      let ms = history w p in
      let in_it = prepared_in ms t (committed_was_prepared ms t (legal_at p) (committed_tells _ _ _ h.committed)) in
      let b = (k.sound p).based on t in_it in
      let v = some_is (version ms i t) h.there in
      let wrote_here : value_in in_it.writes i ≡ Some v.0 =
      sym (wrote_is ms t i in_it.writes in_it.items in_it.found) ∙ version_wrote ms i t v.0 v.1 in
      let there : is_some (value_in in_it.writes i) ≡ true = ap is_some wrote_here in
      let made = made_on b.before b.later t in_it.writes in_it.items i (ap is_legal (sym b.all) ∙ legal_at p)
      (ap is_chained (sym b.all) ∙ chained_at p) (ap (λ (z : List Mark). state_of z t) (sym b.all) ∙ h.committed) there in
      let base = base_is b.before t b.is.of.permit in_it.writes i b.based there in
      record {
        by = b.is.of;
        begun = contains b.is.begun;
        stamp_is = b.is.stamp;
        wrote = ap is_some (sym (value_placed o.parts b.is.of.writes i)
            ∙ ap (λ (z : List Row). value_in z i) (sym b.is.writes)) ∙ there;
        on = subst (λ (x : List Mark × ℕ). IsMadeOn x.0 i t x.1) (λ j. (sym b.all j, base j)) made;
      }

  -- the same of a version that is pending: it would have been made so, were it committed now
  pub pending_on_view : (i t : ℕ) → IsPendingFor (terms_of o) w i t → IsMadeOnItsView (terms_of o) w i t
  pending_on_view i t h =
      let p = place_of o.parts i in
      let ms = history w p in
      let in_it = prepared_in ms t (pending_tells _ _ _ h.pending).2 in
      let b = (k.sound p).based on t in_it in
      let v = some_is (version ms i t) h.there in
      let wrote_here : value_in in_it.writes i ≡ Some v.0 =
      sym (wrote_is ms t i in_it.writes in_it.items in_it.found) ∙ version_wrote ms i t v.0 v.1 in
      let there : is_some (value_in in_it.writes i) ≡ true = ap is_some wrote_here in
      let mark : Mark = Prepared t in_it.writes in_it.items in
      let all : ms ++ Committed t ∷ [] ≡ b.before ++ mark ∷ (b.later ++ Committed t ∷ []) =
      ap (λ (z : List Mark). z ++ Committed t ∷ []) b.all ∙ append_assoc b.before (mark ∷ b.later) (Committed t ∷ []) in
      let made = made_on b.before (b.later ++ Committed t ∷ []) t in_it.writes in_it.items i
      (ap is_legal (sym all) ∙ is_legal-push ms (Committed t) (legal_at p) (ap is_pending h.pending))
      (ap is_chained (sym all) ∙ is_chained-push ms (Committed t) (chained_at p) refl)
      (ap (λ (z : List Mark). state_of z t) (sym all) ∙ committed_is_committed ms t) there in
      let base = base_is b.before t b.is.of.permit in_it.writes i b.based there in
      record {
        by = b.is.of;
        begun = contains b.is.begun;
        stamp_is = b.is.stamp;
        wrote = ap is_some (sym (value_placed o.parts b.is.of.writes i)
            ∙ ap (λ (z : List Row). value_in z i) (sym b.is.writes)) ∙ there;
        on = made_before ms i t _
            (subst (λ (x : List Mark × ℕ). IsMadeOn x.0 i t x.1) (λ j. (sym all j, base j)) made);
      }

  pub world_loses_none : LosesNoUpdate (terms_of o) w
  world_loses_none = record {
    one_pending = λ i t u a b.
        let p = place_of o.parts i in
        one_pending (history w p) i t u (legal_at p) (chained_at p) a.pending a.there b.pending b.there;
    above = λ i t a.
        let p = place_of o.parts i in
        pending_above (history w p) i t (legal_at p) (chained_at p) a.pending a.there;
    made_on = made_on_view;
  }

pub no_update_is_lost : (o : Opening) (es : List Event) → is_base_opening o ≡ true → NoUpdateIsLost o (run_of o es)
no_update_is_lost o es is on = world_loses_none o (run_of o es) (always_kept o es is) on

pub pending_is_made :
    (o : Opening) (es : List Event) → is_base_opening o ≡ true → o.checked ≡ true → (i t : ℕ)
    → IsPendingFor (terms_of o) (run_of o es) i t → IsMadeOnItsView (terms_of o) (run_of o es) i t
pending_is_made o es is on = pending_on_view o (run_of o es) (always_kept o es is) on
