-- Each turn of a client is tidy.
use Rattle.std.proofs.Common.{◌≡◌, ℕ, ◌+◌, ◌*◌, ◌≤◌, arith, Bool, true, false, not, nat_lt, eqb, eqb-true, ◌==◌, List, [], ◌∷◌, ◌⊎◌, inl, inr, ⊎_elim, Option, Some, None, Result, Ok, Err, sym, ap, ◌∙◌, subst, refl, le_refl, le_trans, le_of_eq, if◌then◌else◌}
use Rattle.std.specs.List.{slice_get, list_any}
use Rattle.album_stamps.specs.Clocks.{clock_after_reach, ClockState, clock_after_next, next_of}
use Rattle.album_stamps.specs.Outcome.{◌>>=◌}
use Rattle.album_stamps.specs.Stamps.{is_client}
use Rattle.album_stamps.specs.declared.refusals.Refusal.{Refusal}
use Rattle.album_stamps.specs.declared.refusals.Refusal.TheVariants as refusal
use Rattle.album_calls.specs.declared.messages.Message.{Message}
use Rattle.album_calls.specs.declared.nodes.Node.{Node}
use Rattle.album_calls.specs.declared.nodes.Node.TheVariants.{Part, Client as ToClient}
use Rattle.album_eval.specs.declared.facts.Principal.{Principal}
use Rattle.album_partition.specs.Partition.{PartitionState}
use Rattle.album_partition.specs.Sweeps.{swept}
use Rattle.album_partition.specs.Trims.{trimmed}
use Rattle.album_reader.specs.Rounds.{Step, stepped}
use Rattle.album_reader.specs.Rounds.Step.{Same, Next, Done, Gone}
use Rattle.album_views.specs.Checks.{refusal_of}
use Rattle.album_views.specs.Steps.{again}
use Rattle.album_views.specs.Steps.{stepped as viewed}
use Rattle.album_views.specs.declared.asks.Ask.{Ask}
use Rattle.album_views.specs.declared.viewing.ViewStep.{ViewStep}
use Rattle.album_views.specs.declared.viewing.ViewStep.TheVariants.{Again, Closed, Busy}
use Rattle.album_listing.specs.GroupsFound.{basis_on}
use Rattle.album_permits.specs.Effects.{is_full_for}
use Rattle.album_permits.specs.Findings.{ruling_of}
use Rattle.album_permits.specs.Permits.{PermitState}
use Rattle.album_permits.specs.declared.findings.Finding.{Finding}
use Rattle.album_permits.specs.declared.findings.Finding.TheVariants as finding
use Rattle.album_permits.specs.declared.serving.Served.{Served}
use Rattle.album_writer.specs.Rounds.{WriteStep, prepare_stepped, commit_stepped}
use Rattle.album_writer.specs.Rounds.WriteStep.{Waits, Commits, Ends}
use Rattle.album_client.specs.declared.clients.Phase.{Phase}
use Rattle.album_client.specs.declared.clients.Phase.TheVariants as phase
use Rattle.album_client.specs.Terms.{Terms}
use Rattle.album_client.specs.PendingAsks.{PendingAsk}
use Rattle.album_client.specs.Clients.{Client}
use Rattle.album_client.specs.Grants.{served_for}
use Rattle.album_client.specs.Steps.{Transaction, Ended, TransitionState, ask_ends, write_begins, writes_unless, draws_by, grants, rules_by, clock_after_rows, views_by, read_transition, prepare_transition, commit_transition}
use Rattle.album_permits.specs.declared.events.Event.{Event}
use Rattle.album_permits.specs.declared.events.Event.TheVariants as event
use Rattle.album_permits.specs.declared.answers.Answer.{Answer}
use Rattle.album_permits.specs.declared.answers.Answer.TheVariants as answer
use Rattle.album_world.specs.State.{Now, client_at, message_of, is_stopped, with_number}
use Rattle.album_world.specs.Past.{World}
use Rattle.album_world.specs.Runs.{changed, changed_by, happens, requested, run}
use Rattle.album_world.specs.Changes.{Change, asks_unless, asks_by, part_takes, client_takes_by, client_takes, arrives, delivers, sweeps, trims, change_of}
use Rattle.album_world.specs.Changes.Change.{Nothing, AtPart, AtClient, Stops}
use Rattle.album_world.specs.Events.{IsDrawnNow, IsTidy}
use Rattle.album_world.proofs.ListLemmas.{none_some, some_same, or_cases, true_or, or_true, same_or_not, self_eqb}
use Rattle.album_world.proofs.ClientLemmas.{client_same, client_other, rows_client, reach_raise, draw_is, next_client, next_raise}
use Rattle.album_views.specs.ReadSets.{looker_of}

-- Where it is answered, no write begins. The client is the same, its clock has not been set back, and the stamp of a
-- write that begins is the one that it drew.
record IsSteady (old : Client) (turn : TransitionState) : Type 0 where
  over : (a : Answer) → turn.answer ≡ Some a → turn.writes ≡ None
  number : turn.client.number ≡ old.number
  own : turn.client.clock.client ≡ old.clock.client
  rises : old.clock.counter ≤ turn.client.clock.counter
  drawn : (by : Transaction) → turn.writes ≡ Some by → IsDrawnNow old turn by

abbrev AreTidy : Now → Change → Type 0
AreTidy now Nothing = Unit {0}
AreTidy now (AtPart p h sent) = Unit {0}
AreTidy now (AtClient c t) = IsTidy (client_at now.clients c) t × (is_stopped now c ≡ false)
AreTidy now (Stops c) = Unit {0}

abbrev AreTidyIn : Now → Result Change Refusal → Type 0
AreTidyIn now (Ok ch) = AreTidy now ch
AreTidyIn now (Err r) = Unit {0}

module _ (terms : Terms) (now : Now) (c : ℕ) where
  abbrev x : Client
  x = client_at now.clients c

  -- a client that continues from another clock
  module _ (y : Client) (number : y.number ≡ x.number) (own : y.clock.client ≡ x.clock.client)
      (rises : x.clock.counter ≤ y.clock.counter) (tag : ℕ) (permit : PermitState) where
    ends_steady : (a : Answer) → IsSteady x (ask_ends y tag a)
    ends_steady a =
        record { over = λ b e. refl; number = number; own = own; rises = rises; drawn = λ by e. none_some e }

    abbrev drawn : Client
    drawn = record y { clock = clock_after_next y.clock }

    drawn_own : drawn.clock.client ≡ x.clock.client
    drawn_own = next_client y.clock ∙ own

    drawn_rises : x.clock.counter ≤ drawn.clock.counter
    drawn_rises = le_trans rises (next_raise y.clock)

    drawn_ends : (a : Answer) → IsSteady x (ask_ends drawn tag a)
    drawn_ends a = record {
      over = λ b e. refl;
      number = number;
      own = drawn_own;
      rises = drawn_rises;
      drawn = λ by e. none_some e;
    }

    writes_steady : (stamp : ℕ) → next_of y.clock ≡ Ok stamp → IsSteady x (write_begins terms drawn tag permit stamp)
    writes_steady stamp e =
        let d = draw_is y.clock stamp e in
        record {
          over = λ a l. none_some l;
          number = number;
          own = drawn_own;
          rises = drawn_rises;
          drawn = λ by l. record {
            is = ap (λ (z : Transaction). z.stamp) (sym (some_same l)) ∙ d.stamp_is
                ∙ ap (λ (z : ℕ). z * 65536 + y.clock.client) (sym d.counter)
                ∙ ap (λ (z : ℕ). drawn.clock.counter * 65536 + z) own;
            above = (let u : x.clock.counter ≤ y.clock.counter = rises in
                let v : drawn.clock.counter ≡ y.clock.counter + 1 = d.counter in
                omega (arith, u, v));
          };
        }

    draws_steady : (f : Result ℕ Refusal) → next_of y.clock ≡ f → IsSteady x (draws_by terms drawn tag permit f)
    draws_steady (Ok stamp) e = go (is_full_for permit stamp)
      where
        go : (f : Bool) → IsSteady x (writes_unless terms drawn tag permit stamp f)
        go true = drawn_ends (answer.Refused refusal.AlbumFull)
        go false = writes_steady stamp e
    draws_steady (Err r) e = drawn_ends (answer.Refused r)

    grants_steady : (f : Option Served) → IsSteady x (grants terms y tag permit f)
    grants_steady (Some served) = ends_steady (answer.Served served)
    grants_steady None = draws_steady (next_of y.clock) refl

    rules_steady : (f : Finding) → IsSteady x (rules_by terms y tag permit f)
    rules_steady finding.Granted = grants_steady (served_for permit permit.view.ask)
    rules_steady (finding.Denied reasons) = ends_steady (answer.Denied reasons)
    rules_steady (finding.Missing object) = ends_steady (answer.Missing object)

  -- the clock stays
  same_tidy : (turn : TransitionState) → turn.client.number ≡ x.number → turn.client.clock ≡ x.clock
      → ((a : Answer) → turn.answer ≡ Some a → turn.writes ≡ None) → turn.writes ≡ None → IsTidy x turn
  same_tidy turn number same over none = record {
    over = over;
    unread = λ e. same;
    number = number;
    own = ap (λ (z : ClockState). z.client) same;
    rises = le_of_eq (ap (λ (z : ClockState). z.counter) (sym same));
    drawn = λ by e. none_some (sym none ∙ e);
  }

  views_tidy : (tag : ℕ) (who : Principal) (step : ViewStep) → IsTidy x (views_by terms x tag who step)
  views_tidy tag who (Again viewing items) = same_tidy _ refl refl (λ a e. none_some e) refl
  views_tidy tag who (Busy why) = same_tidy _ refl refl (λ a e. refl) refl
  views_tidy tag who (Closed view) =
      let permit : PermitState = record { view = view; principal = who; policy = terms.policy } in
      let steady = rules_steady (record x { clock = clock_after_rows (clock_after_reach x.clock terms.first) view.rows }) refl
      (rows_client (clock_after_reach x.clock terms.first) view.rows) (reach_raise x.clock terms.first view.rows) tag permit
      (ruling_of (basis_on terms.policy who view.rows) view.ask) in
      record {
        over = steady.over;
        unread = λ e. none_some (sym e);
        number = steady.number;
        own = steady.own;
        rises = steady.rises;
        drawn = λ by e. let d = steady.drawn by e in record { is = d.is; above = d.above };
      }

  read_ends_tidy : (turn : TransitionState) (over : Option Ended) → IsTidy x turn → IsTidy x (record turn { over = over })
  read_ends_tidy turn over d = record {
    over = d.over;
    unread = d.unread;
    number = d.number;
    own = d.own;
    rises = d.rises;
    drawn = λ by e. let g = d.drawn by e in record { is = g.is; above = g.above };
  }

  read_tidy : (pending_ask : PendingAsk) (tag : ℕ) (s : Step) → IsTidy x (read_transition terms x tag pending_ask s)
  read_tidy pending_ask tag (Same round) = same_tidy _ refl refl (λ a e. none_some e) refl
  read_tidy pending_ask tag (Next round sent) = same_tidy _ refl refl (λ a e. none_some e) refl
  read_tidy pending_ask tag (Done rows) =
      read_ends_tidy _ _ (views_tidy tag pending_ask.principal (viewed (looker_of terms.policy pending_ask.principal) pending_ask.viewing rows))
  read_tidy pending_ask tag (Gone items) =
      read_ends_tidy _ _ (views_tidy tag pending_ask.principal (again pending_ask.viewing items))

  prepare_tidy : (tag : ℕ) (s : WriteStep) → IsTidy x (prepare_transition x tag s)
  prepare_tidy tag (Waits z) = same_tidy _ refl refl (λ a e. none_some e) refl
  prepare_tidy tag (Commits z sent) = same_tidy _ refl refl (λ a e. none_some e) refl
  prepare_tidy tag (Ends outcome) = same_tidy _ refl refl (λ a e. refl) refl

  commit_tidy : (tag : ℕ) (s : WriteStep) → IsTidy x (commit_transition x tag s)
  commit_tidy tag (Waits z) = same_tidy _ refl refl (λ a e. none_some e) refl
  commit_tidy tag (Commits z sent) = same_tidy _ refl refl (λ a e. none_some e) refl
  commit_tidy tag (Ends outcome) = same_tidy _ refl refl (λ a e. refl) refl

  takes_by_tidy : (m : Message) → is_stopped now c ≡ false → (f : Phase) → AreTidy now (client_takes_by terms c x m f)
  takes_by_tidy m awake (phase.Idle tag) = tt
  takes_by_tidy m awake (phase.Reads pending_ask r) = (read_tidy pending_ask r.asker.tag (stepped r m), awake)
  takes_by_tidy m awake (phase.Prepares z) = (prepare_tidy z.tag (prepare_stepped z m), awake)
  takes_by_tidy m awake (phase.Commits z) = (commit_tidy z.tag (commit_stepped z m), awake)

  client_tidy : (m : Message) → AreTidy now (client_takes terms now c x m)
  client_tidy m = go (is_stopped now c) refl
    where
      go : (f : Bool) → is_stopped now c ≡ f → AreTidy now (if f then Nothing else client_takes_by terms c x m x.phase)
      go true awake = tt
      go false awake = takes_by_tidy m awake x.phase

  unless_tidy : (f : Bool) (r : Refusal) (g : Result Change Refusal) → (f ≡ false → AreTidyIn now g)
      → AreTidyIn now (if f then Err r else g)
  unless_tidy true r g h = tt
  unless_tidy false r g h = h refl

  asks_tidy : (who : Principal) (ask : Ask) → is_stopped now c ≡ false → (f : Phase)
      → AreTidyIn now (asks_by terms c x who ask f)
  asks_tidy who ask awake (phase.Idle tag) = go (refusal_of ask who)
    where
      go : (f : Option Refusal) → AreTidyIn now (asks_unless terms c x tag who ask f)
      go (Some r) = tt
      go None = (same_tidy _ refl refl (λ a e. none_some e) refl, awake)
  asks_tidy who ask awake (phase.Reads v r) = tt
  asks_tidy who ask awake (phase.Prepares z) = tt
  asks_tidy who ask awake (phase.Commits z) = tt

arrival_tidy : (terms : Terms) (now : Now) (m : Message) (n : Node) → AreTidy now (arrives terms now m n)
arrival_tidy terms now m (Part p) = go (slice_get now.partitions p)
  where
    go : (f : Option PartitionState) → AreTidy now (part_takes p m f)
    go None = tt
    go (Some h) = tt
arrival_tidy terms now m (ToClient c) = client_tidy terms now c m

event_tidy : (terms : Terms) (now : Now) (e : Event) → AreTidyIn now (change_of terms now e)
event_tidy terms now (event.Ask c who ask) =
    unless_tidy terms now c (not (is_client c)) refusal.BadRequest _
    (λ known. unless_tidy terms now c (is_stopped now c) refusal.Stopped _
    (λ awake. asks_tidy terms now c who ask awake (client_at now.clients c).phase))
event_tidy terms now (event.Deliver n) = go (message_of now.messages n)
  where
    go : (f : Option Message) → AreTidyIn now (delivers terms now f)
    go None = tt
    go (Some m) = arrival_tidy terms now m m.to
event_tidy terms now (event.Sweep p t) = go (slice_get now.partitions p)
  where
    by : (h : PartitionState) (f : Result (List Message) Refusal)
        → AreTidyIn now (f >>= λ messages. Ok (AtPart p h messages))
    by h (Ok sent) = tt
    by h (Err r) = tt

    go : (f : Option PartitionState) → AreTidyIn now (sweeps p t f)
    go None = tt
    go (Some h) = by h (swept h t)
event_tidy terms now (event.Trim p i) = go (slice_get now.partitions p)
  where
    by : (f : Result PartitionState Refusal) → AreTidyIn now (f >>= λ changed. Ok (AtPart p changed []))
    by (Ok h) = tt
    by (Err r) = tt

    go : (f : Option PartitionState) → AreTidyIn now (trims p i f)
    go None = tt
    go (Some h) = by (trimmed h i)
event_tidy terms now (event.Stop c) = unless_tidy terms now c (is_stopped now c) refusal.Stopped (Ok (Stops c))
    (λ awake. tt)

pub turn_tidy : (terms : Terms) (now : Now) (e : Event) (c : ℕ) (t : TransitionState) → change_of terms now e ≡ Ok (AtClient c t)
    → IsTidy (client_at now.clients c) t
turn_tidy terms now e c t h = (subst (AreTidyIn now) h (event_tidy terms now e)).0

-- ---- clocks

number_of_client : (cs : List Client) (c : ℕ) → (client_at cs c).number ≡ c
number_of_client [] c = refl
number_of_client (y ∷ cs) c = go (eqb y.number c) refl (number_of_client cs c)
  where
    go : (f : Bool) → eqb y.number c ≡ f → (client_at cs c).number ≡ c → (if f then y else client_at cs c).number ≡ c
    go true e rest = eqb-true y.number c e
    go false e rest = rest

clock_rises : (w : World) (ch : Change) → AreTidy w.now ch → (c : ℕ)
    → (client_at w.now.clients c).clock.counter ≤ (client_at (changed w ch).now.clients c).clock.counter
clock_rises w Nothing h c = le_refl _
clock_rises w (AtPart p held sent) h c = le_refl _
clock_rises w (Stops d) h c = le_refl _
clock_rises w (AtClient d t) h c =
    let number : t.client.number ≡ d = h.0.number ∙ number_of_client w.now.clients d in
    ⊎_elim
    (λ (e : d ≡ c). subst
    (λ (z : ℕ). (client_at w.now.clients z).clock.counter ≤ (client_at (changed w (AtClient d t)).now.clients z).clock.counter)
    e
    (subst (λ (z : Client). (client_at w.now.clients d).clock.counter ≤ z.clock.counter)
    (sym (client_same w.now.clients t.client d number)) h.0.rises))
    (λ (ne : eqb d c ≡ false). subst
    (λ (z : Client). (client_at w.now.clients c).clock.counter ≤ z.clock.counter)
    (sym (client_other w.now.clients t.client c (subst (λ (z : ℕ). eqb z c ≡ false) (sym number) ne))) (le_refl _))
    (same_or_not d c)

pub clocks_rise : (terms : Terms) (w : World) (es : List Event) (c : ℕ)
    → (client_at w.now.clients c).clock.counter ≤ (client_at (run terms w es).now.clients c).clock.counter
clocks_rise terms w [] c = le_refl _
clocks_rise terms w (e ∷ es) c =
    le_trans (go (change_of terms w.now e) (event_tidy terms w.now e)) (clocks_rise terms (happens terms w e) es c)
  where
    go : (f : Result Change Refusal) → AreTidyIn w.now f
        → (client_at w.now.clients c).clock.counter ≤ (client_at (changed_by w e f).now.clients c).clock.counter
    go (Ok ch) h = clock_rises (requested w e) ch h c
    go (Err r) h = le_refl _

-- no client that was stopped has a turn
pub turn_awake : (terms : Terms) (now : Now) (e : Event) (c : ℕ) (t : TransitionState)
    → change_of terms now e ≡ Ok (AtClient c t) → is_stopped now c ≡ false
turn_awake terms now e c t h = (subst (AreTidyIn now) h (event_tidy terms now e)).1

-- ---- stops

with_more : (test : ℕ → Bool) (n : ℕ) (ns : List ℕ) → list_any test ns ≡ true → list_any test (with_number n ns) ≡ true
with_more test n [] h = absurd (cc)
with_more test n (m ∷ ns) h = go (nat_lt n m) (or_cases (test m) (list_any test ns) h) (with_more test n ns)
  where
    go : (b : Bool) → (test m ≡ true) ⊎ (list_any test ns ≡ true)
        → (list_any test ns ≡ true → list_any test (with_number n ns) ≡ true)
        → list_any test (if b then n ∷ m ∷ ns else m ∷ with_number n ns) ≡ true
    go true (inl e) rest = or_true (test n) _ (true_or (test m) _ e)
    go true (inr e) rest = or_true (test n) _ (or_true (test m) _ e)
    go false (inl e) rest = true_or (test m) _ e
    go false (inr e) rest = or_true (test m) _ (rest e)

with_this : (n : ℕ) (ns : List ℕ) → list_any (λ m. m == n) (with_number n ns) ≡ true
with_this n [] = true_or (n == n) false (self_eqb n)
with_this n (m ∷ ns) = go (nat_lt n m) (with_this n ns)
  where
    go : (b : Bool) → list_any (λ m. m == n) (with_number n ns) ≡ true
        → list_any (λ m. m == n) (if b then n ∷ m ∷ ns else m ∷ with_number n ns) ≡ true
    go true rest = true_or (n == n) _ (self_eqb n)
    go false rest = or_true (m == n) _ rest

stays_stopped : (w : World) (ch : Change) (c : ℕ) → is_stopped w.now c ≡ true → is_stopped (changed w ch).now c ≡ true
stays_stopped w Nothing c h = h
stays_stopped w (AtPart p q sent) c h = h
stays_stopped w (AtClient d t) c h = h
stays_stopped w (Stops d) c h = with_more (λ m. m == c) d w.now.stopped h

pub stopped_for_good : (terms : Terms) (w : World) (es : List Event) (c : ℕ) → is_stopped w.now c ≡ true
    → is_stopped (run terms w es).now c ≡ true
stopped_for_good terms w [] c h = h
stopped_for_good terms w (e ∷ es) c h = stopped_for_good terms (happens terms w e) es c (go (change_of terms w.now e))
  where
    go : (f : Result Change Refusal) → is_stopped (changed_by w e f).now c ≡ true
    go (Ok ch) = stays_stopped (requested w e) ch c h
    go (Err r) = h

pub stop_stops : (terms : Terms) (w : World) (c : ℕ) → is_stopped (happens terms w (event.Stop c)).now c ≡ true
stop_stops terms w c = go (is_stopped w.now c) refl
  where
    go : (f : Bool) → is_stopped w.now c ≡ f
        → is_stopped (changed_by w (event.Stop c) (if f then Err refusal.Stopped else Ok (Stops c))).now c ≡ true
    go true e = e
    go false e = with_this c w.now.stopped
