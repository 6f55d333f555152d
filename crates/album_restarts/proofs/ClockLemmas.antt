-- No clock of a run goes above the greatest counter (`clocks_low`), since no stamp that is read was drawn above it.
-- `BaseLemmas` cites it.
use Rattle.std.proofs.Common.{◌≡◌, ℕ, ◌<◌, ◌≤◌, ◌+◌, ◌*◌, Bool, true, false, not, nat_lt, nat_le, ◌==◌, List, [], ◌∷◌, Option, Some, None, Result, Ok, Err, ⊎_elim, refl, ap, subst, arith, ◌&&◌, max, ltb-true, option_map, if◌then◌else◌, length}
use Rattle.std.specs.List.{slice_get, list_all}
use Rattle.std.proofs.lemmas.Bool.{leb-true}
use Rattle.album_stamps.specs.Clocks.{ClockState, clock_after_reach, clock_after_see, clock_after_next, next_of}
use Rattle.album_stamps.specs.Outcome.{◌>>=◌}
use Rattle.album_stamps.specs.Stamps.{is_client, counter_of}
use Rattle.album_stamps.specs.declared.limits.TheConstants.{MAX_COUNTER, MAX_READS, MAX_READ_ITEMS}
use Rattle.album_stamps.specs.declared.refusals.Refusal.{Refusal}
use Rattle.album_stamps.specs.declared.refusals.Refusal.TheVariants as refusal
use Rattle.album_items.specs.Openings.{greatest_number, is_base_opening, has_counts, has_parts, has_limit, has_policy, has_first, has_single_rows, has_own_value, is_low_row}
use Rattle.album_items.specs.declared.openings.Opening.{Opening}
use Rattle.album_calls.specs.declared.messages.Message.{Message}
use Rattle.album_calls.specs.declared.nodes.Node.{Node}
use Rattle.album_calls.specs.declared.nodes.Node.TheVariants.{Part, Client as ToClient}
use Rattle.album_eval.specs.declared.facts.Principal.{Principal}
use Rattle.album_partition.specs.Partition.{PartitionState}
use Rattle.album_partition.specs.Sweeps.{swept}
use Rattle.album_partition.specs.Trims.{trimmed}
use Rattle.album_reader.specs.Answers.{ReadVersion}
use Rattle.album_reader.specs.Rounds.{Step, stepped}
use Rattle.album_reader.specs.Rounds.Step.{Same, Next, Done, Gone}
use Rattle.album_views.specs.Checks.{refusal_of}
use Rattle.album_views.specs.ReadSets.{looker_of, names_of}
use Rattle.album_views.specs.Steps.{again, unclosed}
use Rattle.album_views.specs.Steps.{stepped as viewed}
use Rattle.album_views.specs.Views.{ViewState, ViewingState, is_closed}
use Rattle.album_views.specs.declared.asks.Ask.{Ask}
use Rattle.album_views.specs.declared.viewing.ViewStep.{ViewStep}
use Rattle.album_views.specs.declared.viewing.ViewStep.TheVariants.{Again, Closed, Busy}
use Rattle.album_views.specs.declared.viewing.Why.TheVariants.{Rounds, Wide}
use Rattle.album_listing.specs.GroupsFound.{basis_on}
use Rattle.album_permits.specs.Effects.{is_full_for}
use Rattle.album_permits.specs.Findings.{ruling_of}
use Rattle.album_permits.specs.Permits.{PermitState}
use Rattle.album_permits.specs.declared.events.Event.{Event}
use Rattle.album_permits.specs.declared.events.Event.TheVariants as event
use Rattle.album_permits.specs.declared.findings.Finding.{Finding}
use Rattle.album_permits.specs.declared.findings.Finding.TheVariants as finding
use Rattle.album_permits.specs.declared.serving.Served.{Served}
use Rattle.album_writer.specs.Rounds.{WriteStep, prepare_stepped, commit_stepped}
use Rattle.album_writer.specs.Rounds.WriteStep.{Waits, Commits, Ends}
use Rattle.album_client.specs.Clients.{Client}
use Rattle.album_client.specs.Grants.{served_for}
use Rattle.album_client.specs.PendingAsks.{PendingAsk}
use Rattle.album_client.specs.Steps.{Ended, TransitionState, writes_unless, draws_by, grants, rules_by, clock_after_rows, views_by, read_transition, prepare_transition, commit_transition}
use Rattle.album_client.specs.Terms.{Terms, terms_of}
use Rattle.album_client.specs.declared.clients.Phase.{Phase}
use Rattle.album_client.specs.declared.clients.Phase.TheVariants as phase
use Rattle.album_world.specs.Changes.{Change, asks_unless, asks_by, part_takes, client_takes_by, client_takes, arrives, delivers, sweeps, trims, change_of}
use Rattle.album_world.specs.Changes.Change.{Nothing, AtPart, AtClient, Stops}
use Rattle.album_world.specs.Committing.{IsCommitted}
use Rattle.album_world.specs.Past.{Read, World, last_begun}
use Rattle.album_world.specs.Runs.{changed, changed_by, happens, read_over, requested, run, run_of, start}
use Rattle.album_world.specs.State.{Now, client_at, with_client, highest_counter, message_of, is_stopped}
use Rattle.album_world.proofs.Invariant.{IsKept}
use Rattle.album_world.proofs.ListLemmas.{In, and_left, and_right, in_left, option_in}
use Rattle.album_world.proofs.ListLemmas.In.{here, there}
use Rattle.album_world.proofs.RunLemmas.{event_kept, opening_is, start_kept}
use Rattle.album_restarts.proofs.StampLemmas.{highest_at}

-- ---- a view's rows are those of its snapshot

closed_same : {x y : ViewState} → Closed x ≡ Closed y → x ≡ y
closed_same e = cc

again_open : (viewing : ViewingState) (items : List ℕ) (view : ViewState) {R : Type 0} → again viewing items ≡ Closed view → R
again_open viewing items view {R} e = go (nat_le MAX_READS (viewing.reads + 1)) e
  where
    go : (b : Bool) → (if b then Busy Rounds else Again (record viewing { reads = viewing.reads + 1 }) items) ≡ Closed view → R
    go true f = absurd (cc (f))
    go false f = absurd (cc (f))

unclosed_open : (viewing : ViewingState) (names : List ℕ) (view : ViewState) {R : Type 0} → unclosed viewing names ≡ Closed view → R
unclosed_open viewing names view {R} e = go (nat_lt MAX_READ_ITEMS (length names)) e
  where
    go : (b : Bool) → (if b then Busy Wide else again viewing names) ≡ Closed view → R
    go true f = absurd (cc (f))
    go false f = again_open viewing names view f

closed_rows : (looker : Option Principal) (viewing : ViewingState) (rows : List ReadVersion) (view : ViewState)
    → viewed looker viewing rows ≡ Closed view → rows ≡ view.rows
closed_rows looker viewing rows view e = go (is_closed looker viewing.ask rows) e
  where
    go : (b : Bool)
        → (if b then Closed (record { looker = looker; ask = viewing.ask; rows = rows }) else unclosed viewing (names_of rows looker viewing.ask))
        ≡ Closed view
        → rows ≡ view.rows
    go true f = ap (λ (v : ViewState). v.rows) (closed_same f)
    go false f = unclosed_open viewing (names_of rows looker viewing.ask) view f

-- ---- one clock

-- the counters of the stamps of these rows are ones
abbrev AreLow : List ReadVersion → Type 0
AreLow rows = (row : ReadVersion) → In row rows → counter_of row.stamp ≤ MAX_COUNTER

rows_low : (clock : ClockState) (rows : List ReadVersion) → clock.counter ≤ MAX_COUNTER → AreLow rows
    → (clock_after_rows clock rows).counter ≤ MAX_COUNTER
rows_low clock [] low h = low
rows_low clock (row ∷ rows) low h =
    let one : counter_of row.stamp ≤ MAX_COUNTER = h row here in
    rows_low (clock_after_see clock row.stamp) rows (omega (arith, low, one)) (λ r n. h r (there n))

next_low : (clock : ClockState) → clock.counter ≤ MAX_COUNTER → (clock_after_next clock).counter ≤ MAX_COUNTER
next_low clock low = go (nat_lt clock.counter MAX_COUNTER) refl
  where
    go : (b : Bool) → nat_lt clock.counter MAX_COUNTER ≡ b
        → (if b then (let z : ClockState = record clock { counter = clock.counter + 1 } in z) else clock).counter ≤ MAX_COUNTER
    go true e = let less : clock.counter < MAX_COUNTER = ltb-true clock.counter MAX_COUNTER e in omega (arith, less)
    go false e = low

-- ---- a client's turn

-- the counters of all that its read showed, where one is over, are ones
abbrev ReadsLow : Option Ended → Type 0
ReadsLow over = (ended : Ended) (rows : List ReadVersion) → over ≡ Some ended → ended.rows ≡ Some rows → AreLow rows

-- where that is so, its clock does not go above the greatest counter
abbrev IsLowTurn : Client → TransitionState → Type 0
IsLowTurn old turn = old.clock.counter ≤ MAX_COUNTER → ReadsLow turn.over → turn.client.clock.counter ≤ MAX_COUNTER

abbrev IsLowChange : Now → Change → Type 0
IsLowChange now Nothing = Unit {0}
IsLowChange now (AtPart p h sent) = Unit {0}
IsLowChange now (AtClient c turn) = IsLowTurn (client_at now.clients c) turn
IsLowChange now (Stops c) = Unit {0}

abbrev IsLowIn : Now → Result Change Refusal → Type 0
IsLowIn now (Ok change) = IsLowChange now change
IsLowIn now (Err why) = Unit {0}

module _ (terms : Terms) (first : terms.first ≤ MAX_COUNTER) where
  module _ (y : Client) (low : y.clock.counter ≤ MAX_COUNTER) (tag : ℕ) (permit : PermitState) where
    abbrev drawn : Client
    drawn = record y { clock = clock_after_next y.clock }

    draws_low : (f : Result ℕ Refusal) → (draws_by terms drawn tag permit f).client.clock.counter ≤ MAX_COUNTER
    draws_low (Ok stamp) = go (is_full_for permit stamp)
      where
        go : (b : Bool) → (writes_unless terms drawn tag permit stamp b).client.clock.counter ≤ MAX_COUNTER
        go true = next_low y.clock low
        go false = next_low y.clock low
    draws_low (Err why) = next_low y.clock low

    grants_low : (f : Option Served) → (grants terms y tag permit f).client.clock.counter ≤ MAX_COUNTER
    grants_low (Some served) = low
    grants_low None = draws_low (next_of y.clock)

    rules_low : (f : Finding) → (rules_by terms y tag permit f).client.clock.counter ≤ MAX_COUNTER
    rules_low finding.Granted = grants_low (served_for permit permit.view.ask)
    rules_low (finding.Denied reasons) = low
    rules_low (finding.Missing object) = low

  module _ (x : Client) where
    views_low : (tag : ℕ) (who : Principal) (step : ViewStep) → x.clock.counter ≤ MAX_COUNTER
        → ((view : ViewState) → step ≡ Closed view → AreLow view.rows)
        → (views_by terms x tag who step).client.clock.counter ≤ MAX_COUNTER
    views_low tag who (Again viewing items) low h = low
    views_low tag who (Busy why) low h = low
    views_low tag who (Closed view) low h =
        rules_low (record x { clock = clock_after_rows (clock_after_reach x.clock terms.first) view.rows })
        (rows_low (clock_after_reach x.clock terms.first) view.rows (omega (arith, low, first)) (h view refl)) tag
        (record { view = view; principal = who; policy = terms.policy })
        (ruling_of (basis_on terms.policy who view.rows) view.ask)

    read_low : (pending_ask : PendingAsk) (tag : ℕ) (s : Step) → IsLowTurn x (read_transition terms x tag pending_ask s)
    read_low pending_ask tag (Same round) = λ low h. low
    read_low pending_ask tag (Next round sent) = λ low h. low
    read_low pending_ask tag (Done rows) = λ low h.
        views_low tag pending_ask.principal
        (viewed (looker_of terms.policy pending_ask.principal) pending_ask.viewing rows) low
        (λ view e. subst AreLow (closed_rows (looker_of terms.policy pending_ask.principal) pending_ask.viewing rows view e)
        (h _ rows refl refl))
    read_low pending_ask tag (Gone items) = λ low h.
        views_low tag pending_ask.principal (again pending_ask.viewing items) low
        (λ view e. again_open pending_ask.viewing items view e)

    prepare_low : (tag : ℕ) (s : WriteStep) → IsLowTurn x (prepare_transition x tag s)
    prepare_low tag (Waits z) = λ low h. low
    prepare_low tag (Commits z sent) = λ low h. low
    prepare_low tag (Ends outcome) = λ low h. low

    commit_low : (tag : ℕ) (s : WriteStep) → IsLowTurn x (commit_transition x tag s)
    commit_low tag (Waits z) = λ low h. low
    commit_low tag (Commits z sent) = λ low h. low
    commit_low tag (Ends outcome) = λ low h. low

  -- ---- an event

  module _ (now : Now) where
    takes_by_low : (c : ℕ) (m : Message) (f : Phase)
        → IsLowChange now (client_takes_by terms c (client_at now.clients c) m f)
    takes_by_low c m (phase.Idle tag) = tt
    takes_by_low c m (phase.Reads pending_ask r) = read_low (client_at now.clients c) pending_ask r.asker.tag (stepped r m)
    takes_by_low c m (phase.Prepares z) = prepare_low (client_at now.clients c) z.tag (prepare_stepped z m)
    takes_by_low c m (phase.Commits z) = commit_low (client_at now.clients c) z.tag (commit_stepped z m)

    client_low : (c : ℕ) (m : Message) → IsLowChange now (client_takes terms now c (client_at now.clients c) m)
    client_low c m = go (is_stopped now c)
      where
        go : (f : Bool) → IsLowChange now
            (if f then Nothing else client_takes_by terms c (client_at now.clients c) m (client_at now.clients c).phase)
        go true = tt
        go false = takes_by_low c m (client_at now.clients c).phase

    unless_low : (f : Bool) (r : Refusal) (g : Result Change Refusal) → IsLowIn now g
        → IsLowIn now (if f then Err r else g)
    unless_low true r g h = tt
    unless_low false r g h = h

    asks_low : (c : ℕ) (who : Principal) (ask : Ask) (f : Phase)
        → IsLowIn now (asks_by terms c (client_at now.clients c) who ask f)
    asks_low c who ask (phase.Idle tag) = go (refusal_of ask who)
      where
        go : (f : Option Refusal) → IsLowIn now (asks_unless terms c (client_at now.clients c) tag who ask f)
        go (Some r) = tt
        go None = λ low h. low
    asks_low c who ask (phase.Reads v r) = tt
    asks_low c who ask (phase.Prepares z) = tt
    asks_low c who ask (phase.Commits z) = tt

    arrival_low : (m : Message) (n : Node) → IsLowChange now (arrives terms now m n)
    arrival_low m (Part p) = go (slice_get now.partitions p)
      where
        go : (f : Option PartitionState) → IsLowChange now (part_takes p m f)
        go None = tt
        go (Some h) = tt
    arrival_low m (ToClient c) = client_low c m

    event_low : (e : Event) → IsLowIn now (change_of terms now e)
    event_low (event.Ask c who ask) =
        unless_low (not (is_client c)) refusal.BadRequest _
        (unless_low (is_stopped now c) refusal.Stopped _ (asks_low c who ask (client_at now.clients c).phase))
    event_low (event.Deliver n) = go (message_of now.messages n)
      where
        go : (f : Option Message) → IsLowIn now (delivers terms now f)
        go None = tt
        go (Some m) = arrival_low m m.to
    event_low (event.Sweep p t) = go (slice_get now.partitions p)
      where
        by : (h : PartitionState) (f : Result (List Message) Refusal)
            → IsLowIn now (f >>= λ messages. Ok (AtPart p h messages))
        by h (Ok sent) = tt
        by h (Err r) = tt

        go : (f : Option PartitionState) → IsLowIn now (sweeps p t f)
        go None = tt
        go (Some h) = by h (swept h t)
    event_low (event.Trim p i) = go (slice_get now.partitions p)
      where
        by : (f : Result PartitionState Refusal) → IsLowIn now (f >>= λ changed. Ok (AtPart p changed []))
        by (Ok h) = tt
        by (Err r) = tt

        go : (f : Option PartitionState) → IsLowIn now (trims p i f)
        go None = tt
        go (Some h) = by (trimmed h i)
    event_low (event.Stop c) = unless_low (is_stopped now c) refusal.Stopped (Ok (Stops c)) tt

-- ---- all clocks

highest_with : (x : Client) (cs : List Client) → highest_counter (with_client x cs) ≤ max x.clock.counter (highest_counter cs)
highest_with x [] = omega arith
highest_with x (y ∷ cs) = go (y.number == x.number) (highest_with x cs)
  where
    go : (b : Bool) → highest_counter (with_client x cs) ≤ max x.clock.counter (highest_counter cs)
        → highest_counter (if b then x ∷ cs else y ∷ with_client x cs)
        ≤ max x.clock.counter (max y.clock.counter (highest_counter cs))
    go true rest = omega arith
    go false rest = omega (arith, rest)

module _ (o : Opening) (w : World) (k : IsKept o w) (low : highest_counter w.now.clients ≤ MAX_COUNTER) where
  committed_low : (stamp : ℕ) → IsCommitted w stamp → counter_of stamp ≤ MAX_COUNTER
  committed_low stamp done =
      let s = (k.sound done.0).committed stamp done.1 in
      let d = k.drawn s.of s.begun in
      let same : s.of.stamp ≡ stamp = s.stamp in
      let is : s.of.stamp ≡ d.counter * 65536 + d.client = d.is in
      let high : d.client < 65536 = d.high in
      let old : d.counter ≤ (client_at w.now.clients d.client).clock.counter = d.old in
      omega (arith, same, is, high, old, low, highest_at w.now.clients d.client)

  -- what a read shows that ends at this event was drawn before
  reads_low : (e : Event) (c : ℕ) (turn : TransitionState) → IsKept o (changed (requested w e) (AtClient c turn)) → ReadsLow turn.over
  reads_low e c turn after ended rows over shown row n =
      let read : Read = read_over (last_begun w.past.begun c) ended in
      let is_new = option_in (option_map (read_over (last_begun w.past.begun c)) turn.over)
      (ap (λ (f : Option Ended). option_map (read_over (last_begun w.past.begun c)) f) over) in
      let f = (after.reads read rows (in_left w.past.reads is_new) shown).found row n in
      ⊎_elim
      (λ (zero : row.stamp ≡ 0). omega (arith, zero))
      (λ (done : IsCommitted w row.stamp). committed_low row.stamp done)
      f.committed

  step_low : (first : o.first ≤ MAX_COUNTER) (e : Event) (f : Result Change Refusal) → IsLowIn w.now f
      → IsKept o (changed_by w e f) → highest_counter (changed_by w e f).now.clients ≤ MAX_COUNTER
  step_low first e (Err why) h after = low
  step_low first e (Ok Nothing) h after = low
  step_low first e (Ok (AtPart p held sent)) h after = low
  step_low first e (Ok (Stops c)) h after = low
  step_low first e (Ok (AtClient c turn)) h after =
      let was = highest_at w.now.clients c in
      let is : turn.client.clock.counter ≤ MAX_COUNTER = h (omega (arith, was, low)) (reads_low e c turn after) in
      omega (arith, is, low, highest_with turn.client w.now.clients)

run_low : (o : Opening) → 0 < o.parts → o.first ≤ MAX_COUNTER → (w : World) → IsKept o w
    → highest_counter w.now.clients ≤ MAX_COUNTER → (es : List Event)
    → highest_counter (run (terms_of o) w es).now.clients ≤ MAX_COUNTER
run_low o some first w k low [] = low
run_low o some first w k low (e ∷ es) =
    let after = event_kept o some w k e in
    run_low o some first (happens (terms_of o) w e) after
    (step_low o w k low first e (change_of (terms_of o) w.now e) (event_low (terms_of o) first w.now e) after) es

-- what opens begins at no greater counter
pub first_low : (o : Opening) → is_base_opening o ≡ true → o.first ≤ MAX_COUNTER
first_low o is =
    leb-true o.first MAX_COUNTER
    (and_right (has_parts o.parts && has_limit o.limit && has_policy o.policy) (has_first o.first)
    (and_left (has_counts o)
    (has_single_rows o.items && list_all has_own_value o.items && list_all (is_low_row (greatest_number o.first)) o.items)
    is))

-- so no clock of a run of a base goes above the greatest counter
pub clocks_low : (o : Opening) (es : List Event) → is_base_opening o ≡ true → highest_counter (run_of o es).now.clients ≤ MAX_COUNTER
clocks_low o es is =
    let d = opening_is o is in
    run_low o d.some (first_low o is) (start o) (start_kept o d) (omega arith) es
