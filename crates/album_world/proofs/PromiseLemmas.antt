-- The promises, of every run.
use Rattle.std.proofs.Common.{◌≡◌, ℕ, ◌<◌, Bool, true, false, cond, eqb, not, List, [], ◌∷◌, Option, Some, None, Result, Ok, Err, ⊎_elim, sym, ap, ◌∙◌, subst, refl, true≢false, eqb-true, if◌then◌else◌}
use Rattle.std.specs.List.{slice_get}
use Rattle.album_stamps.specs.Outcome.{◌>>=◌}
use Rattle.album_stamps.specs.Stamps.{is_client}
use Rattle.album_stamps.specs.declared.refusals.Refusal.{Refusal}
use Rattle.album_stamps.specs.declared.refusals.Refusal.TheVariants as refusal
use Rattle.album_items.specs.Openings.{is_base_opening}
use Rattle.album_items.specs.Openings.{Row}
use Rattle.album_items.specs.Places.{rows_placed_at}
use Rattle.album_items.specs.ItemIds.{place_of}
use Rattle.album_items.specs.declared.openings.Opening.{Opening}
use Rattle.album_items.specs.declared.values.Value.{Value}
use Rattle.album_calls.specs.declared.messages.Message.{Message}
use Rattle.album_calls.specs.declared.nodes.Node.{Node}
use Rattle.album_calls.specs.declared.nodes.Node.TheVariants.{Part, Client as ToClient}
use Rattle.album_eval.specs.declared.facts.Principal.{Principal}
use Rattle.album_partition.specs.Marks.{value_in, version}
use Rattle.album_partition.specs.Partition.{PartitionState}
use Rattle.album_partition.specs.Sweeps.{swept}
use Rattle.album_partition.specs.Trims.{trimmed}
use Rattle.album_views.specs.Asks.{objects_of}
use Rattle.album_views.specs.Checks.{refusal_of}
use Rattle.album_views.specs.declared.asks.Ask.{Ask}
use Rattle.album_permits.proofs.Agreeing.{ruling-alike}
use Rattle.album_permits.specs.Permits.{PermitState, IsPermit}
use Rattle.album_permits.specs.declared.findings.Finding.{Finding}
use Rattle.album_client.specs.declared.clients.Phase.{Phase}
use Rattle.album_client.specs.declared.clients.Phase.TheVariants as phase
use Rattle.album_client.specs.Terms.{Terms, terms_of}
use Rattle.album_client.specs.Steps.{Transaction}
use Rattle.album_permits.specs.declared.events.Event.{Event}
use Rattle.album_permits.specs.declared.events.Event.TheVariants as event
use Rattle.album_permits.specs.declared.answers.Answer.{Answer}
use Rattle.album_permits.specs.declared.answers.Answer.TheVariants as answer
use Rattle.album_world.specs.State.{client_at, message_of, is_stopped}
use Rattle.album_world.specs.Past.{World, PastAnswer}
use Rattle.album_world.specs.Changes.{Change, asks_unless, asks_by, part_takes, arrives, delivers, sweeps, trims}
use Rattle.album_world.specs.Changes.Change.{AtPart, Stops}
use Rattle.album_world.specs.Runs.{changed, changed_by, happens, new_request, requested, start, run, run_of}
use Rattle.album_world.specs.Committing.{history, IsCommittedEverywhere, IsPromisedSomewhere}
use Rattle.album_permits.specs.Meaning.{Finds}
use Rattle.album_world.specs.Viewed.{IsAnsweredOnView}
use Rattle.album_world.specs.Rulings.{IsBegunBy, IsRuledBy, RulingsHold}
use Rattle.album_world.specs.Granted.{IsOfOne, WritesAreGranted}
use Rattle.album_world.specs.Atomic.{ViewsAreReadAtomic}
use Rattle.album_world.specs.Fresh.{ViewsAreFresh}
use Rattle.album_world.specs.Outcomes.{IsOfWrite, IsRepliedFull, IsRefusedFor, IsTrueOutcome, OutcomesAreTrue}
use Rattle.album_world.specs.Busy.{IsCaused, BusyHasItsCause}
use Rattle.album_world.proofs.ListLemmas.{In, contains, within, in_nil, same_or_not, none_some}
use Rattle.album_world.proofs.MarkLemmas.{wrote_by, version_wrote}
use Rattle.album_world.proofs.PlaceLemmas.{value_placed}
use Rattle.album_world.proofs.Invariant.{IsKept, IsAnswer}
use Rattle.album_world.proofs.SafeLemmas.{views_atomic, views_fresh, everywhere, against, lost_against, lost_unsettled}
use Rattle.album_world.proofs.RunLemmas.{opening_is, start_kept, event_kept, message_in, always_kept}
use Rattle.album_world.proofs.BookLemmas.{IsLed, IsBegunFull, IsBooked, part_booked, stop_booked, request_booked}
use Rattle.album_world.proofs.StopLemmas.{request_kept}
use Rattle.album_world.proofs.LedLemmas.{message_booked, asked_booked}

-- ---- at each event

module _ (o : Opening) (some : 0 < o.parts) (w : World) (k : IsKept o w) (b : IsBooked (terms_of o) w) where
  abbrev t : Terms
  t = terms_of o

  unless_booked : (e : Event) (f : Bool) (r : Refusal) (g : Result Change Refusal) → IsBooked t (changed_by w e g)
      → IsBooked t (changed_by w e (if f then Err r else g))
  unless_booked e true r g h = b
  unless_booked e false r g h = h

  module _ (c : ℕ) (who : Principal) (ask : Ask) where
    refused_booked : (tag : ℕ) (f : Option Refusal) → refusal_of ask who ≡ f
        → IsBooked t (changed_by w (event.Ask c who ask) (asks_unless t c (client_at w.now.clients c) tag who ask f))
    refused_booked tag (Some r) e = b
    refused_booked tag None e =
        let a = new_request w c who ask in
        asked_booked o (requested w (event.Ask c who ask)) (request_kept o w k a) (request_booked t w b a) c tag ask who e
        (objects_of ask)

    asks_booked : (f : Phase) → IsBooked t (changed_by w (event.Ask c who ask)
        (asks_by t c (client_at w.now.clients c) who ask f))
    asks_booked (phase.Idle tag) = refused_booked tag (refusal_of ask who) refl
    asks_booked (phase.Reads v r) = b
    asks_booked (phase.Prepares z) = b
    asks_booked (phase.Commits z) = b

  takes_booked : (p : ℕ) (m : Message) (f : Option PartitionState) → IsBooked t (changed w (part_takes p m f))
  takes_booked p m None = b
  takes_booked p m (Some h) = part_booked t w b p _ _

  arrival_booked : (m : Message) → In m w.now.messages → (n : Node) → IsBooked t (changed w (arrives t w.now m n))
  arrival_booked m sent (Part p) = takes_booked p m (slice_get w.now.partitions p)
  arrival_booked m sent (ToClient c) = message_booked o w k b c m sent

  delivery_booked : (n : ℕ) (f : Option Message) → ((m : Message) → f ≡ Some m → In m w.now.messages)
      → IsBooked t (changed_by w (event.Deliver n) (delivers t w.now f))
  delivery_booked n None h = b
  delivery_booked n (Some m) h = arrival_booked m (h m refl) m.to

  sweeps_booked : (p s : ℕ) (f : Option PartitionState) → IsBooked t (changed_by w (event.Sweep p s) (sweeps p s f))
  sweeps_booked p s None = b
  sweeps_booked p s (Some h) = go (swept h s)
    where
      go : (r : Result (List Message) Refusal)
          → IsBooked t (changed_by w (event.Sweep p s) (r >>= λ messages. Ok (AtPart p h messages)))
      go (Ok messages) = part_booked t w b p h messages
      go (Err r) = b

  trims_booked : (p i : ℕ) (f : Option PartitionState) → IsBooked t (changed_by w (event.Trim p i) (trims p i f))
  trims_booked p i None = b
  trims_booked p i (Some h) = go (trimmed h i)
    where
      go : (r : Result PartitionState Refusal)
          → IsBooked t (changed_by w (event.Trim p i) (r >>= λ changed. Ok (AtPart p changed [])))
      go (Ok h) = part_booked t w b p h []
      go (Err r) = b

  pub event_booked : (e : Event) → IsBooked t (happens t w e)
  event_booked (event.Ask c who ask) =
      unless_booked (event.Ask c who ask) (not (is_client c)) refusal.BadRequest _
      (unless_booked (event.Ask c who ask) (is_stopped w.now c) refusal.Stopped _
      (asks_booked c who ask (client_at w.now.clients c).phase))
  event_booked (event.Deliver n) = delivery_booked n (message_of w.now.messages n) (λ m e. message_in o some w k n m e)
  event_booked (event.Sweep p s) = sweeps_booked p s (slice_get w.now.partitions p)
  event_booked (event.Stop c) = unless_booked (event.Stop c) (is_stopped w.now c) refusal.Stopped (Ok (Stops c))
      (stop_booked t w b c)
  event_booked (event.Trim p i) = trims_booked p i (slice_get w.now.partitions p)

run_booked : (o : Opening) → 0 < o.parts → (w : World) → IsKept o w → IsBooked (terms_of o) w → (es : List Event)
    → IsBooked (terms_of o) (run (terms_of o) w es)
run_booked o some w k b [] = b
run_booked o some w k b (e ∷ es) = run_booked o some (happens (terms_of o) w e) (event_kept o some w k e)
    (event_booked o some w k b e) es

pub always_booked : (o : Opening) (es : List Event) → is_base_opening o ≡ true → IsBooked (terms_of o) (run_of o es)
always_booked o es is =
    let d = opening_is o is in
    run_booked o d.some (start o) (start_kept o d)
    (record {
      granted = λ r h. in_nil h;
      led = λ t h. in_nil h;
      noting = λ t h. in_nil h;
      noted = λ n h. in_nil h;
      at = λ c. tt;
    }) es

-- ---- the promises

map_view : (t : Terms) (w : World) (given : PastAnswer) (P Q : PermitState → Type 0)
    → ((case : PermitState) → P case → Q case) → IsAnsweredOnView t w given P → IsAnsweredOnView t w given Q
map_view t w given P Q more h = record {
  read = h.read;
  rows = h.rows;
  last_is = h.last_is;
  made = h.made;
  own = h.own;
  shown = h.shown;
  view = h.view;
  holds = more _ h.holds;
}

ruled_by : (t : Terms) (w : World) (given : PastAnswer) (a : Answer) → IsLed t w given a → IsRuledBy t w given a
ruled_by t w given (answer.Served served) h = h
ruled_by t w given (answer.Denied reasons) h = h
ruled_by t w given (answer.Missing object) h = h
ruled_by t w given (answer.Busy why) h = tt
ruled_by t w given (answer.Committed s) h = h
ruled_by t w given (answer.Aborted s) h = h
ruled_by t w given (answer.Unsettled s why) h = map_view t w given (IsBegunFull t w given.client s)
    (IsBegunBy w given.client s) (λ case e. e.begun) h
ruled_by t w given (answer.Refused why) h = map_view t w given
    (λ case. IsPermit case × IsRefusedFor w given.client why case) IsPermit (λ case e. e.0) h

pub rulings_hold : (o : Opening) (es : List Event) → is_base_opening o ≡ true → RulingsHold (terms_of o) (run_of o es)
rulings_hold o es is =
    let b = always_booked o es is in
    record {
      answers = λ given h. ruled_by (terms_of o) (run_of o es) given given.answer (b.led given (within _ h));
      noted = λ given h. b.noting given (within _ h);
      notes = λ n h. b.noted n (within _ h);
    }

-- the written policy finds one thing of a view
pub one_finding : (case : PermitState) (f g : Finding) → Finds case f → Finds case g → f ≡ g
one_finding case f g a b =
    sym a.is
    ∙ ruling-alike case.policy case.principal case.view.ask case.view.rows case.view.rows a.basis b.basis
    (record { same = λ item n. refl }) a.based b.based
    ∙ b.is

caused_by : (t : Terms) (w : World) (given : PastAnswer) (a : Answer) → IsLed t w given a → IsCaused t.policy w given a
caused_by t w given (answer.Served served) h = tt
caused_by t w given (answer.Denied reasons) h = tt
caused_by t w given (answer.Missing object) h = tt
caused_by t w given (answer.Busy why) h = h
caused_by t w given (answer.Committed s) h = tt
caused_by t w given (answer.Aborted s) h = tt
caused_by t w given (answer.Unsettled s why) h = tt
caused_by t w given (answer.Refused why) h = tt

pub busy_has_its_cause : (o : Opening) (es : List Event) → is_base_opening o ≡ true → BusyHasItsCause (terms_of o) (run_of o es)
busy_has_its_cause o es is given h = caused_by (terms_of o) (run_of o es) given given.answer
    ((always_booked o es is).led given (within _ h))

of_write : (w : World) (c s : ℕ) (case : PermitState) (P : Transaction → Type 0) → (h : IsBegunBy w c s case) → P h.by
    → IsOfWrite w c s P
of_write w c s case P h holds = record { by = h.by; begun = h.begun; own = h.own; at = h.at; holds = holds }

true_outcome : (o : Opening) → 0 < o.parts → (w : World) → IsKept o w → (given : PastAnswer) (a : Answer)
    → IsLed (terms_of o) w given a → IsAnswer o w a → IsTrueOutcome (terms_of o) w given a
true_outcome o some w k given (answer.Served served) h d = tt
true_outcome o some w k given (answer.Denied reasons) h d = tt
true_outcome o some w k given (answer.Missing object) h d = tt
true_outcome o some w k given (answer.Busy why) h d = tt
true_outcome o some w k given (answer.Committed s) h d =
    of_write w given.client s _ (IsCommittedEverywhere (terms_of o) w) h.holds
    (everywhere o w k s d h.holds.by (within _ h.holds.begun) h.holds.at)
true_outcome o some w k given (answer.Aborted s) h d = (
  of_write w given.client s _ (IsPromisedSomewhere (terms_of o) w) h.holds
      (against o w k some s d h.holds.by (within _ h.holds.begun) h.holds.at),
  lost_against o w k s d,
)
true_outcome o some w k given (answer.Unsettled s why) h d =
    (d.1, of_write w given.client s _ (IsRepliedFull (terms_of o) w) h.holds.begun h.holds.full, lost_unsettled o w k s d.0)
true_outcome o some w k given (answer.Refused why) h d =
    map_view (terms_of o) w given (λ case. IsPermit case × IsRefusedFor w given.client why case)
    (IsRefusedFor w given.client why) (λ case e. e.1) h

pub outcomes_are_true : (o : Opening) (es : List Event) → is_base_opening o ≡ true
    → OutcomesAreTrue (terms_of o) (run_of o es)
outcomes_are_true o es is given h =
    let d = opening_is o is in
    let k = always_kept o es is in
    true_outcome o d.some (run_of o es) k given given.answer ((always_booked o es is).led given (within _ h))
    (k.answers given (within _ h))

pub views_are_read_atomic : (o : Opening) (es : List Event) → is_base_opening o ≡ true → ViewsAreReadAtomic o (run_of o es)
views_are_read_atomic o es is = views_atomic o (run_of o es) (always_kept o es is)

pub views_are_fresh : (o : Opening) (es : List Event) → is_base_opening o ≡ true → ViewsAreFresh (terms_of o) (run_of o es)
views_are_fresh o es is = views_fresh o (run_of o es) (always_kept o es is)

-- what isn't placed at a partition, the partition has no value of
value_away : (parts p : ℕ) (ws : List Row) (i : ℕ) → eqb (place_of parts i) p ≡ false
    → value_in (rows_placed_at p parts ws) i ≡ None
value_away parts p [] i ne = refl
value_away parts p (w ∷ ws) i ne = go (eqb (place_of parts w.0) p) refl (eqb w.0 i) refl (value_away parts p ws i ne)
  where
    rest : List Row
    rest = rows_placed_at p parts ws

    go : (b : Bool) → eqb (place_of parts w.0) p ≡ b → (c : Bool) → eqb w.0 i ≡ c → value_in rest i ≡ None
        → value_in (cond b (w ∷ rest) rest) i ≡ None
    go true e true q h = absurd (true≢false (sym e ∙ ap (λ (z : ℕ). eqb (place_of parts z) p) (eqb-true w.0 i q) ∙ ne))
    go true e false q h = rw q h
    go false e c q h = h

value_from : (parts p : ℕ) (ws : List Row) (i : ℕ) (v : Value) → value_in (rows_placed_at p parts ws) i ≡ Some v
    → value_in ws i ≡ Some v
value_from parts p ws i v h = ⊎_elim
    (λ (e : place_of parts i ≡ p). sym (value_placed parts ws i)
    ∙ subst (λ (z : ℕ). value_in (rows_placed_at z parts ws) i ≡ Some v) (sym e) h)
    (λ (ne : eqb (place_of parts i) p ≡ false). none_some (sym (value_away parts p ws i ne) ∙ h))
    (same_or_not (place_of parts i) p)

of_one : (o : Opening) (w : World) → IsKept o w → (p i t : ℕ) (v : Value) → version (history w p) i t ≡ Some v
    → IsOfOne w i t v
of_one o w k p i t v h =
    let r = wrote_by (history w p) t i v (version_wrote (history w p) i t v h) in
    let s = (k.sound p).prepared t r.by in
    record {
      by = s.of;
      begun = contains s.begun;
      at = s.stamp;
      wrote = value_from o.parts p s.of.writes i v (ap (λ (z : List Row). value_in z i) (sym s.writes) ∙ r.value);
      alone = λ other l e. k.unique other s.of (within _ l) s.begun (e ∙ sym s.stamp);
    }

pub writes_are_granted : (o : Opening) (es : List Event) → is_base_opening o ≡ true
    → WritesAreGranted (terms_of o) (run_of o es)
writes_are_granted o es is = record {
  granted = λ by l. (always_booked o es is).granted by (within _ l);
  single = λ one other l m e. (always_kept o es is).unique one other (within _ l) (within _ m) e;
  versions = of_one o (run_of o es) (always_kept o es is);
}
