-- A step more of each past that a world may have, for `World`.
use Rattle.std.proofs.Common.{◌≡◌, ◌≢◌, true, ◌<◌, ◌+◌, ℕ, length, take, get_or, List, [], ◌∷◌, ◌++◌, Result, Ok, Err, IsOk, IfOk, IfErr, OnErr, refl, sym, ap, ◌∙◌, subst, append-nil, append_assoc, add-one}
use Rattle.std.proofs.Math.Seq.{take-suc}
use Rattle.album_stamps.specs.declared.refusals.Refusal.{Refusal}
use Rattle.album_stamps.specs.declared.refusals.Refusal.TheVariants.{OutOfMemory}
use Rattle.album_items.specs.declared.openings.Opening.{Opening}
use Rattle.album_client.specs.Terms.{Terms, terms_of}
use Rattle.album_permits.specs.declared.events.Event.{Event}
use Rattle.album_permits.specs.declared.outs.Out.{Out}
use Rattle.album_world.specs.State.{Now}
use Rattle.album_world.specs.Past.{World}
use Rattle.album_world.specs.Changes.{Change, change_of}
use Rattle.album_world.specs.Runs.{changed_by, happens, now_after, outs_by, outs_of, run, run_of, start, event_outputs}
use Rattle.album_world.specs.Seen.{WorldState, IsDone, IsRefused, IsStepped, LeadsTo, IsReached, IsInPast, IsExtendedBy, AreStepped, AreInPast, AreExtendedBy, done_of}
use Rattle.album_items.specs.Openings.{is_base_opening}
use Rattle.album_world.proofs.AskedLemmas.{answers_last, always_requested}
use Rattle.album_world.proofs.EventLemmas.{answers_are_kept, notes_are_kept}
use Rattle.album_world.proofs.RunLemmas.{opening_is, always_kept}

-- ---- one event more

pub run_more : (t : Terms) (w : World) (es : List Event) (e : Event) → run t w (es ++ e ∷ []) ≡ happens t (run t w es) e
run_more t w [] e = refl
run_more t w (x ∷ es) e = run_more t (happens t w x) es e

-- what a past leads to is what is seen
leads : (t : Terms) (w : World) (old new : Now) (e : Event) (outs : List Out) → w.now ≡ old → IsDone t old e new outs
    → new ≡ (happens t w e).now
leads t w old new e outs same d =
    d.kept ∙ ap (λ (n : Now). now_after n d.change) (sym same)
    ∙ sym (ap (λ (r : Result Change Refusal). (changed_by w e r).now) (ap (λ (n : Now). change_of t n e) same ∙ d.is))

-- and its outputs are those of the event
given : (t : Terms) (w : World) (old new : Now) (e : Event) (outs : List Out) → w.now ≡ old → IsDone t old e new outs
    → outs ≡ event_outputs t w e
given t w old new e outs same d =
    d.outputs ∙ ap (λ (n : Now). outs_of n d.change) (sym same)
    ∙ sym (ap (λ (r : Result Change Refusal). outs_by w.now r) (ap (λ (n : Now). change_of t n e) same ∙ d.is))

-- ---- a past

behind_more : (o : Opening) (es : List Event) (e : Event) (old : WorldState) (new : Now) (outs : List Out)
    → LeadsTo o es old → IsDone old.terms old.kept e new outs → LeadsTo o (es ++ e ∷ []) (record { terms = old.terms; kept = new })
behind_more o es e old new outs b d = record {
  passes = b.passes;
  terms = b.terms;
  kept = leads (terms_of o) (run_of o es) old.kept new e outs (sym b.kept)
      (subst (λ (t : Terms). IsDone t old.kept e new outs) b.terms d)
      ∙ sym (ap (λ (w : World). w.now) (run_more (terms_of o) (start o) es e));
}

in_past_of : (o : Opening) (es : List Event) → is_base_opening o ≡ true → (e : Event) (outs : List Out)
    → outs ≡ event_outputs (terms_of o) (run_of o es) e → IsInPast (happens (terms_of o) (run_of o es) e) outs
in_past_of o es is e outs same =
    let t = terms_of o in
    let w = run_of o es in
    subst (IsInPast (happens t w e)) (sym same) (record {
      answers = λ c a i. answers_are_kept t w e c a i;
      notes = λ c n i. notes_are_kept t w e c n i;
      requests = λ c a i.
          answers_last o (opening_is o is).some w (always_kept o es is) (always_requested o es is) e c a i;
    })

-- the past of the run with the event has the outputs of the event
pub in_past_given : (o : Opening) (es : List Event) → is_base_opening o ≡ true → (e : Event)
    → IsInPast (run_of o (es ++ e ∷ [])) (event_outputs (terms_of o) (run_of o es) e)
in_past_given o es is e =
    subst (λ (w : World). IsInPast w (event_outputs (terms_of o) (run_of o es) e)) (sym (run_more (terms_of o) (start o) es e))
    (in_past_of o es is e (event_outputs (terms_of o) (run_of o es) e) refl)

in_past_more : (o : Opening) (es : List Event) (e : Event) (old : WorldState) (new : Now) (outs : List Out)
    → LeadsTo o es old → IsDone old.terms old.kept e new outs → IsInPast (run_of o (es ++ e ∷ [])) outs
in_past_more o es e old new outs b d =
    let done : IsDone (terms_of o) old.kept e new outs = subst (λ (t : Terms). IsDone t old.kept e new outs) b.terms d in
    subst (λ (w : World). IsInPast w outs) (sym (run_more (terms_of o) (start o) es e))
    (in_past_of o es b.passes e outs (given (terms_of o) (run_of o es) old.kept new e outs (sym b.kept) done))

-- ---- for `step`

module _ {Outs : Type 0} (view : Outs → List Out) (old : WorldState) (e : Event) (new : Now) where
  pub reached_if : (r : Result Outs Refusal) → IfOk r (λ x. IsDone old.terms old.kept e new (view x)) → OnErr r (new ≡ old.kept)
      → IsReached old → IsReached (record { terms = old.terms; kept = new })
  reached_if (Ok x) d u h = record {
    opening = h.opening;
    events = h.events ++ e ∷ [];
    leads = behind_more h.opening h.events e old new (view x) h.leads d;
  }
  reached_if (Err y) d u h = subst (λ (n : Now). IsReached (record { terms = old.terms; kept = n })) (sym u) h

  pub extended_if : (r : Result Outs Refusal) → IfOk r (λ x. IsDone old.terms old.kept e new (view x))
      → IfOk r (λ x. IsExtendedBy old e (record { terms = old.terms; kept = new }) (view x))
  extended_if (Ok x) d = λ o es b. (behind_more o es e old new (view x) b d, in_past_more o es e old new (view x) b d)
  extended_if (Err y) d = tt

-- ---- for `run`

module _ {Outs : Type 0} (view : Outs → List Out) (t : Terms) where
  -- one event more
  pub stepped_more : (old mid new : Now) (es : List Event) (e : Event) (rs : List (Result Outs Refusal)) (r : Result Outs Refusal)
      → AreStepped view t old es mid rs → IsStepped view t mid e new r → AreStepped view t old (es ++ e ∷ []) new (rs ++ r ∷ [])
  stepped_more old mid new [] e [] r h s = (new, subst (λ (n : Now). IsStepped view t n e new r) h s, refl)
  stepped_more old mid new [] e (q ∷ rs) r h s = absurd h
  stepped_more old mid new (x ∷ es) e [] r h s = absurd h
  stepped_more old mid new (x ∷ es) e (q ∷ rs) r h s = (h.0, h.1, stepped_more h.0 mid new es e rs r h.2 s)

  stepped_by : (old new : WorldState) (e : Event) (r : Result Outs Refusal) → old.terms ≡ t
      → IfOk r (λ x. IsDone old.terms old.kept e new.kept (view x))
      → IfErr r (λ y. y ≢ OutOfMemory → change_of old.terms old.kept e ≡ Err y)
      → IfErr r (λ y. y ≡ OutOfMemory → IsOk (change_of old.terms old.kept e))
      → OnErr r (new ≡ old)
      → IsStepped view t old.kept e new.kept r
  stepped_by old new e (Ok x) same d f m u = subst (λ (u : Terms). IsDone u old.kept e new.kept (view x)) same d
  stepped_by old new e (Err y) same d f m u = subst (λ (u : Terms). IsRefused u old.kept e new.kept y) same
      (record { kept = ap (λ (w : WorldState). w.kept) u; refused = f; memory = m })

  -- a turn of the loop
  pub next_stepped : (first : Now) (old new : WorldState) (es : List Event) (i : ℕ) (e : Event)
      (rs : List (Result Outs Refusal)) (r : Result Outs Refusal) → i < length es → e ≡ get_or es i e → old.terms ≡ t
      → AreStepped view t first (take i es) old.kept rs
      → IfOk r (λ x. IsDone old.terms old.kept e new.kept (view x))
      → IfErr r (λ y. y ≢ OutOfMemory → change_of old.terms old.kept e ≡ Err y)
      → IfErr r (λ y. y ≡ OutOfMemory → IsOk (change_of old.terms old.kept e))
      → OnErr r (new ≡ old)
      → AreStepped view t first (take (i + 1) es) new.kept (rs ++ r ∷ [])
  next_stepped first old new es i e rs r within at same h d f m u =
      let more = stepped_more first old.kept new.kept (take i es) e rs r h (stepped_by old new e r same d f m u) in
      subst (λ (xs : List Event). AreStepped view t first xs new.kept (rs ++ r ∷ []))
      (ap (λ (x : Event). take i es ++ x ∷ []) at ∙ sym (take-suc es i e within)
      ∙ ap (λ (n : ℕ). take n es) (sym (add-one i)))
      more

  -- the outputs of the events are in the past up to each
  all_in_past : (o : Opening) (before : List Event) (old new : Now) (es : List Event) (rs : List (Result Outs Refusal))
      → AreStepped view t old es new rs → LeadsTo o before (record { terms = t; kept = old })
      → AreInPast view o before es rs
  all_in_past o before old new [] rs h b = tt
  all_in_past o before old new (e ∷ es) [] h b = tt
  all_in_past o before old new (e ∷ es) (Ok x ∷ rs) h b = (
    in_past_more o before e (record { terms = t; kept = old }) h.0 (view x) b h.1,
    all_in_past o (before ++ e ∷ []) h.0 new es rs h.2
        (behind_more o before e (record { terms = t; kept = old }) h.0 (view x) b h.1),
  )
  all_in_past o before old new (e ∷ es) (Err y ∷ rs) h b =
      all_in_past o before h.0 new es rs h.2
      (subst (λ (n : Now). LeadsTo o before (record { terms = t; kept = n })) (sym h.1.kept) b)

  runs_on : (o : Opening) (before : List Event) (old new : Now) (es : List Event) (rs : List (Result Outs Refusal))
      → AreStepped view t old es new rs → LeadsTo o before (record { terms = t; kept = old })
      → LeadsTo o (before ++ done_of es rs) (record { terms = t; kept = new })
  runs_on o before old new [] [] h b = subst (λ (xs : List Event). LeadsTo o xs (record { terms = t; kept = new })) (sym (append-nil before))
      (subst (λ (n : Now). LeadsTo o before (record { terms = t; kept = n })) (sym h) b)
  runs_on o before old new [] (r ∷ rs) h b = absurd h
  runs_on o before old new (e ∷ es) [] h b = absurd h
  runs_on o before old new (e ∷ es) (Ok x ∷ rs) h b =
      subst (λ (xs : List Event). LeadsTo o xs (record { terms = t; kept = new })) (append_assoc before (e ∷ []) (done_of es rs))
      (runs_on o (before ++ e ∷ []) h.0 new es rs h.2
      (behind_more o before e (record { terms = t; kept = old }) h.0 (view x) b h.1))
  runs_on o before old new (e ∷ es) (Err y ∷ rs) h b =
      runs_on o before h.0 new es rs h.2
      (subst (λ (n : Now). LeadsTo o before (record { terms = t; kept = n })) (sym h.1.kept) b)

-- and all of it
pub run_extended : {Outs : Type 0} (view : Outs → List Out) (old new : WorldState) (es : List Event)
    (rs : List (Result Outs Refusal)) → new.terms ≡ old.terms
    → AreStepped view old.terms old.kept es new.kept rs → AreExtendedBy view old es new rs
run_extended view old new es rs same h = λ o before b. (
  subst (λ (u : Terms). LeadsTo o (before ++ done_of es rs) (record { terms = u; kept = new.kept })) (sym same)
      (runs_on view old.terms o before old.kept new.kept es rs h b),
  all_in_past view old.terms o before old.kept new.kept es rs h b,
)
