-- Whatever a client does at a message, or as it asks, all is kept.
use Rattle.std.proofs.Common.{◌≡◌, ℕ, ◌<◌, ◌≤◌, ◌+◌, ◌*◌, Bool, true, false, cond, not, List, [], ◌∷◌, Option, Some, None, Result, Ok, Err, ◌⊎◌, inl, inr, ⊎_elim, sym, ap, ◌∙◌, subst, refl, arith, append-nil, eqb-true, le_refl, le_of_eq, le_trans, if◌then◌else◌}
use Rattle.std.specs.Option.{option_map_or}
use Rattle.album_stamps.specs.declared.refusals.Refusal.{Refusal}
use Rattle.album_stamps.specs.declared.refusals.Refusal.TheVariants as refusal
use Rattle.album_stamps.specs.Clocks.{clock_after_reach, ClockState, clock_after_next, next_of}
use Rattle.album_items.specs.ItemIds.{place_of}
use Rattle.album_items.specs.Openings.{Row}
use Rattle.album_items.specs.Places.{rows_placed_at}
use Rattle.album_items.specs.Transactions.{items_written}
use Rattle.album_items.specs.declared.openings.Opening.{Opening}
use Rattle.album_calls.specs.Nodes.{is_part}
use Rattle.album_calls.specs.declared.messages.Body.{Body}
use Rattle.album_calls.specs.declared.messages.Body.TheVariants as body
use Rattle.album_calls.specs.declared.messages.Message.{Message}
use Rattle.album_calls.specs.declared.nodes.Node.{Node}
use Rattle.album_calls.specs.declared.nodes.Node.TheVariants.{Part, Client as ToClient}
use Rattle.album_calls.specs.declared.requests.Request.TheVariants.{Prepare, PrepareOn, Commit, Get}
use Rattle.album_calls.specs.declared.replies.Reply.TheVariants as reply
use Rattle.album_eval.specs.declared.facts.Principal.{Principal}
use Rattle.album_partition.specs.Partition.{PartitionState}
use Rattle.album_partition.proofs.LegalLemmas.{committed_was_prepared}
use Rattle.album_reader.specs.Answers.{Asker, ReadVersion, answers_there, are_there}
use Rattle.album_reader.specs.Rounds.{RoundState, get_of, gets_of, next_asker, second_round, new_answer, with_answer, end_by, end_of, outcome, taken, is_gone}
use Rattle.album_reader.specs.Rounds.Step.{Same, Gone}
use Rattle.album_reader.specs.StampSets.{stamps_of}
use Rattle.album_views.specs.Steps.{again}
use Rattle.album_views.specs.Steps.{stepped as viewed}
use Rattle.album_views.specs.declared.viewing.ViewStep.{ViewStep}
use Rattle.album_views.specs.declared.viewing.ViewStep.TheVariants.{Again, Closed, Busy}
use Rattle.album_listing.specs.GroupsFound.{basis_on}
use Rattle.album_permits.specs.Effects.{effect_of, is_full_for}
use Rattle.album_permits.specs.Findings.{ruling_of}
use Rattle.album_permits.specs.Notes.{notes_of}
use Rattle.album_permits.specs.Permits.{PermitState}
use Rattle.album_permits.specs.declared.findings.Finding.{Finding}
use Rattle.album_permits.specs.declared.findings.Finding.TheVariants as finding
use Rattle.album_permits.specs.declared.notes.Note.{Note}
use Rattle.album_permits.specs.declared.serving.Served.{Served}
use Rattle.album_writer.specs.Rounds.{answered_by, prepares_left, prepares_by, commits_left, commits_by}
use Rattle.album_writer.specs.WriteReplies.{reply_in}
use Rattle.album_writer.specs.Writing.{WritingState, items_in, places_in, bases_of, prepare_request, prepare_to, commit_to, commit_round, commits_of}
use Rattle.album_writer.specs.declared.write_replies.WriteReply.{WriteReply}
use Rattle.album_writer.specs.declared.write_replies.WriteReply.TheVariants as write_reply
use Rattle.album_permits.specs.declared.answers.Answer.{Answer}
use Rattle.album_permits.specs.declared.answers.Answer.TheVariants as answer
use Rattle.album_client.specs.declared.clients.Phase.{Phase}
use Rattle.album_client.specs.declared.clients.Phase.TheVariants as phase
use Rattle.album_client.specs.Terms.{terms_of}
use Rattle.album_client.specs.PendingAsks.{PendingAsk}
use Rattle.album_client.specs.Clients.{Client, tag_of}
use Rattle.album_client.specs.Grants.{served_for}
use Rattle.album_client.specs.Steps.{Transaction, Ended, TransitionState, still, sends, asker_at, read_begins, ask_ends, round_for, write_begins, writes_unless, draws_by, grants, rules_by, clock_after_rows, views_by, read_transition, prepare_transition, commit_transition}
use Rattle.album_world.specs.State.{client_at, is_stopped}
use Rattle.album_world.specs.Past.{World, Begun, last_begun}
use Rattle.album_world.specs.Changes.Change.{AtClient, Nothing}
use Rattle.album_world.specs.Changes.{client_takes_by, client_takes}
use Rattle.album_world.specs.Runs.{changed, nth_after}
use Rattle.album_world.specs.Committing.{history, IsCommitted}
use Rattle.album_world.proofs.ListLemmas.{In, in_right, in_cases, in_map, filter_in, in_nil, true_or_false, self_eqb, some_same, none_some}
use Rattle.album_world.proofs.ListLemmas.In.{here}
use Rattle.album_world.proofs.MarkLemmas.{IsPreparedIn, prepared_in, wrote}
use Rattle.album_world.proofs.PlaceLemmas.{place_in, item_in, stamp_in, in_stamps}
use Rattle.album_world.proofs.ClientLemmas.{rows_client, reach_raise, reached, draw_is, next_client, next_raise, each_item, own_nothing, none_found, there_in, IsFoundBy, found_is, put_cases, put_own, given_to_is}
use Rattle.album_world.proofs.Invariant.{IsKept, IsPrepareOf, bases_for, IsAsk, IsSettled, IsValue, IsFine, IsTagged, GetsWith, AnswersWith, IsAsked, IsAnswered, FirstRound, SecondRound, IsCollectedStamp, HasFresh, IsAsking, IsFetching, IsRound, IsReading, IsWriting, HasPrepared, HasCommitted, IsDoing, IsAnswer, IsRead, IsDone}
use Rattle.album_world.proofs.GrowthLemmas.{begun_grows, stamp_grows, has_fresh_grows, settled_grows}
use Rattle.album_world.proofs.WroteLemmas.{written_here}
use Rattle.album_world.proofs.TurnLemmas.{IsSent, IsNew, turn_kept, turn_grows, doing_lasts}
use Rattle.album_views.specs.ReadSets.{looker_of}

node_tag : (w : World) (n : Node) (c g : ℕ) → n ≡ ToClient c → IsTagged w n g
    → g ≤ tag_of (client_at w.now.clients c).phase
node_tag w (Part p) c g e h = absurd (cc)
node_tag w (ToClient d) c g e h = let q : d ≡ c = cc in subst
    (λ (z : ℕ). g ≤ tag_of (client_at w.now.clients z).phase) q h

part_apart : {p c : ℕ} {R : Type 0} → Part p ≡ ToClient c → R
part_apart e = absurd (cc)

-- a turn in which a read is over, and something is noted
abbrev pub with_past : TransitionState → Option Ended → Option (List Note) → TransitionState
with_past t e n = record t { over = e; noted = n }

-- the Prepare of a write asks for what the write's transaction has there, on the bases of its view
prepare_fine : (o : Opening) (w : World) (p : ℕ) (z : WritingState) (ws : List Row)
    → (d : IsPrepareOf o w p z.stamp ws (items_in z)) → d.of.permit ≡ z.permit → IsAsk o w (Part p) (prepare_request z ws)
prepare_fine o w p z ws d same = go z.checked
  where
    go : (b : Bool) → IsAsk o w (Part p) (if b then PrepareOn z.stamp ws (items_in z) (bases_of z ws) else
        Prepare z.stamp ws (items_in z))
    go true = record { is = d; bases = ap (λ (y : PermitState). bases_for y ws) (sym same) }
    go false = d

module _ (o : Opening) (some : 0 < o.parts) (w : World) (k : IsKept o w) (c : ℕ) where
  abbrev x : Client
  x = client_at w.now.clients c

  abbrev began : List PartitionState
  began = (last_begun w.past.begun c).partitions

  number : x.number ≡ c
  number = (k.clients c).number

  own : x.clock.client ≡ c
  own = (k.clients c).clock

  no_old_from : (g : ℕ) → tag_of x.phase ≡ g → (m : Message) → In m w.now.messages → m.from ≡ ToClient c
      → m.tag ≡ g + 1 → ⊥
  no_old_from g tag m i f e =
      let l : m.tag ≤ tag_of x.phase = node_tag w m.from c m.tag f (k.from m i) in
      let q : tag_of x.phase ≡ g = tag in
      let d : m.tag ≡ g + 1 = e in
      omega arith

  no_old_to : (g : ℕ) → tag_of x.phase ≡ g → (m : Message) → In m w.now.messages → m.to ≡ ToClient c → m.tag ≡ g + 1 → ⊥
  no_old_to g tag m i f e =
      let l : m.tag ≤ tag_of x.phase = node_tag w m.to c m.tag f (k.to m i) in
      let q : tag_of x.phase ≡ g = tag in
      let d : m.tag ≡ g + 1 = e in
      omega arith

  tag_next : (g : ℕ) → tag_of x.phase ≡ g → tag_of x.phase ≤ g + 1
  tag_next g tag = omega arith

  -- ---- nothing is sent and nothing is answered

  pub stays_kept : (y : Client) → y.number ≡ x.number → y.clock ≡ x.clock → tag_of x.phase ≡ tag_of y.phase
      → IsDoing o w c began y.phase → IsKept o (changed w (AtClient c (still y)))
  stays_kept y same clock tag does =
      let t = still y in
      let n : y.number ≡ c = same ∙ number in
      let m : y.clock.client ≡ c = ap (λ (z : ClockState). z.client) clock ∙ own in
      let lt : tag_of x.phase ≤ tag_of y.phase = le_of_eq tag in
      let lc : x.clock.counter ≤ y.clock.counter = le_of_eq (ap (λ (z : ClockState). z.counter) (sym clock)) in
      turn_kept o w k c t n m lt lc (λ m l. in_nil l)
      (doing_lasts o w k c t n m (turn_grows o w k c t n m lt lc) c began (λ m l. in_nil l)
      (λ m l. in_nil l) y.phase does)
      (λ r l. none_some l) (λ d rows l. none_some l) (λ a l. none_some l)

  -- ---- what is sent

  -- the Gets of a new round
  asks : (t : TransitionState) (g : ℕ) → tag_of x.phase ≡ g → (a : Asker) → a.tag ≡ g + 1 → (items ts : List ℕ)
      → t.sent ≡ gets_of a ts items → IsAsked (changed w (AtClient c t)) c (g + 1) ts
  asks t g tag a at items ts e = record {
    at = λ m l f q. ⊎_elim
        (λ i. absurd (no_old_from g tag m i f q))
        (λ i. let r = in_map (get_of a ts) items (subst (λ (z : List Message). In m z) e i) in subst
        (λ (z : Message). GetsWith ts z.body) (sym r.2) refl)
        (in_cases w.now.messages t.sent l);
  }

  unanswered : (t : TransitionState) (g : ℕ) → tag_of x.phase ≡ g → (a : Asker) → (items ts : List ℕ) (P : ℕ → ℕ → Type 0)
      → t.sent ≡ gets_of a ts items → IsAnswered (changed w (AtClient c t)) c (g + 1) P
  unanswered t g tag a items ts P e = record {
    at = λ m l f q. ⊎_elim
        (λ i. absurd (no_old_to g tag m i f q))
        (λ i. let r = in_map (get_of a ts) items (subst (λ (z : List Message). In m z) e i) in
        part_apart (ap (λ (z : Message). z.to) (sym r.2) ∙ f))
        (in_cases w.now.messages t.sent l);
  }

  gets_sent : (v : World) (a : Asker) (g : ℕ) → a.client ≡ c → a.tag ≡ g → (ts items : List ℕ) (m : Message)
      → In m (gets_of a ts items) → IsSent o v c g m
  gets_sent v a g of at ts items m i =
      let r = in_map (get_of a ts) items i in
      record {
        part = place_of a.parts r.0;
        body = body.Request (Get r.0 ts);
        is = r.2
            ∙ ap (λ (z : ℕ). let n : Message =
            record {
              from = ToClient z;
              to = Part (place_of a.parts r.0);
              tag = a.tag;
              body = body.Request (Get r.0 ts);
            } in n) of
            ∙ ap (λ (z : ℕ). let n : Message = record {
              from = ToClient c;
              to = Part (place_of a.parts r.0);
              tag = z;
              body = body.Request (Get r.0 ts);
            } in n) at;
        fine = tt;
      }

  -- ---- a client whose clock has transition on, a read that is over, and what is noted

  module _ (y : Client) (ny : y.number ≡ c) (oy : y.clock.client ≡ c) (up : x.clock.counter ≤ y.clock.counter)
      (e : Option Ended) (n : Option (List Note))
      (reads : (d : Ended) (rows : List ReadVersion) → e ≡ Some d → d.rows ≡ Some rows → IsRead o w began rows) (tag : ℕ)
      (was : tag_of x.phase ≡ tag) where
    ends_kept : (a : Answer) → IsAnswer o w a → IsKept o (changed w (AtClient c (with_past (ask_ends y tag a) e n)))
    ends_kept a d =
        turn_kept o w k c (with_past (ask_ends y tag a) e n) ny oy (le_of_eq was) up (λ m i. in_nil i) tt
        (λ r i. none_some i) reads
        (λ b i. subst (IsAnswer o w) (some_same i) d)

    reads_kept : 0 < c → c < 65536 → (pending_ask : PendingAsk) (items : List ℕ)
        → IsKept o (changed w (AtClient c (with_past (read_begins (terms_of o) y tag pending_ask items) e n)))
    reads_kept low high pending_ask items =
        let t = with_past (read_begins (terms_of o) y tag pending_ask items) e n in
        let a = asker_at (terms_of o) y (tag + 1) in
        let next = changed w (AtClient c t) in
        let here_now : (last_begun next.past.begun c).partitions ≡ w.now.partitions = ap
        (λ (b : Bool). (cond b
        (let s : Begun = record { client = c; nth = nth_after w.past c e; partitions = w.now.partitions } in s)
        (last_begun w.past.begun c)).partitions) (self_eqb c) in
        turn_kept o w k c t ny oy (tag_next tag was) up
        (λ m i. gets_sent next a (tag + 1) ny refl [] items m i)
        (subst (λ (z : List PartitionState). IsDoing o next c z t.client.phase) (sym here_now)
        (record {
          low = low;
          high = high;
          parts = refl;
          client = ny;
          own = own_nothing items;
          begun = λ p. record {
            more = [];
            is = sym (append-nil _);
            committed = λ u h. prepared_in (history w p) u
                (committed_was_prepared (history w p) u (k.sound p).legal h);
          };
          round = record {
            asked = asks t tag was a refl items [] refl;
            answered = unanswered t tag was a items [] (FirstRound o next w.now.partitions) refl;
            founds = λ f h. none_found items f h;
          };
        }))
        (λ r i. none_some i) reads (λ b i. none_some i)

    writes_kept : 0 < c → c < 65536 → x.clock.counter < y.clock.counter → o.first < y.clock.counter → (permit : PermitState) (stamp : ℕ)
        → stamp ≡ y.clock.counter * 65536 + c
        → IsKept o (changed w (AtClient c (with_past (write_begins (terms_of o) y tag permit stamp) e n)))
    writes_kept low high above rises permit stamp is =
        let t = with_past (write_begins (terms_of o) y tag permit stamp) e n in
        let next = changed w (AtClient c t) in
        let z = round_for (terms_of o) y tag permit stamp in
        let r : Transaction = record {
          client = y.number;
          tag = tag + 1;
          stamp = stamp;
          permit = permit;
          writes = effect_of permit stamp;
        } in
        let mine : In r next.past.transactions = in_right w.past.transactions here in
        turn_kept o w k c t ny oy (tag_next tag was) up
        (λ m i. let q = in_map (prepare_to z) (places_in z) i in
        let wants = prepare_request z (rows_placed_at q.0 o.parts (effect_of permit stamp)) in
        let of : IsPrepareOf o next q.0 stamp (rows_placed_at q.0 o.parts (effect_of permit stamp))
        (items_written (effect_of permit stamp)) =
        record { of = r; begun = mine; stamp = refl; writes = refl; items = refl } in
        record {
          part = q.0;
          body = body.Request wants;
          is = q.2 ∙ ap (λ (i : ℕ). let s : Message =
              record { from = ToClient i; to = Part q.0; tag = tag + 1; body = body.Request wants } in s) ny;
          fine = prepare_fine o next q.0 z (rows_placed_at q.0 o.parts (effect_of permit stamp)) of refl;
        })
        (record { of = r; begun = mine; stamp = refl; parts = refl; client = ny; given = λ p l. inl l })
        (λ s i. subst (λ (a : Transaction). IsNew c o.first x.clock.counter t a) (some_same i)
        (record { at = y.clock.counter; is = is; rises = rises; above = above; low = low; high = high; drawn = le_refl _ }))
        reads (λ b i. none_some i)

    unless_kept : 0 < c → c < 65536 → x.clock.counter < y.clock.counter → o.first < y.clock.counter
        → (permit : PermitState) (stamp : ℕ)
        → stamp ≡ y.clock.counter * 65536 + c → (full : Bool)
        → IsKept o (changed w (AtClient c (with_past (writes_unless (terms_of o) y tag permit stamp full) e n)))
    unless_kept low high above rises permit stamp is true = ends_kept (answer.Refused refusal.AlbumFull) tt
    unless_kept low high above rises permit stamp is false = writes_kept low high above rises permit stamp is

  -- ---- a view, or none

  module _ (y : Client) (ny : y.number ≡ c) (oy : y.clock.client ≡ c) (up : x.clock.counter ≤ y.clock.counter)
      (lifted : o.first ≤ y.clock.counter) (e : Option Ended) (n : Option (List Note))
      (reads : (d : Ended) (rows : List ReadVersion) → e ≡ Some d → d.rows ≡ Some rows → IsRead o w began rows) (tag : ℕ)
      (was : tag_of x.phase ≡ tag) (low : 0 < c) (high : c < 65536) where
    abbrev drawn : Client
    drawn = record y { clock = clock_after_next y.clock }

    draws_kept : (permit : PermitState) (f : Result ℕ Refusal) → next_of y.clock ≡ f
        → IsKept o (changed w (AtClient c (with_past (draws_by (terms_of o) drawn tag permit f) e n)))
    draws_kept permit (Ok stamp) d =
        let q = draw_is y.clock stamp d in
        let one : drawn.clock.counter ≡ y.clock.counter + 1 = q.counter in
        let above : x.clock.counter < drawn.clock.counter = omega (arith, up, one) in
        let is : stamp ≡ drawn.clock.counter * 65536 + c =
        q.stamp_is ∙ ap (λ (z : ℕ). z * 65536 + y.clock.client) (sym q.counter)
        ∙ ap (λ (z : ℕ). drawn.clock.counter * 65536 + z) oy in
        unless_kept drawn ny (q.client ∙ oy) (omega (arith, above)) e n reads tag was low high above
        (omega (arith, lifted, one)) permit stamp is (is_full_for permit stamp)
    draws_kept permit (Err r) d =
        ends_kept drawn ny (next_client y.clock ∙ oy) (le_trans up (next_raise y.clock)) e n reads tag was
        (answer.Refused r) tt

    grants_kept : (permit : PermitState) (f : Option Served)
        → IsKept o (changed w (AtClient c (with_past (grants (terms_of o) y tag permit f) e n)))
    grants_kept permit (Some served) = ends_kept y ny oy up e n reads tag was (answer.Served served) tt
    grants_kept permit None = draws_kept permit (next_of y.clock) refl

    rules_kept : (permit : PermitState) (f : Finding)
        → IsKept o (changed w (AtClient c (with_past (rules_by (terms_of o) y tag permit f) e n)))
    rules_kept permit finding.Granted = grants_kept permit (served_for permit permit.view.ask)
    rules_kept permit (finding.Denied reasons) = ends_kept y ny oy up e n reads tag was (answer.Denied reasons) tt
    rules_kept permit (finding.Missing object) = ends_kept y ny oy up e n reads tag was (answer.Missing object) tt

  views_kept : 0 < c → c < 65536 → (e : Option Ended)
      → ((d : Ended) (rows : List ReadVersion) → e ≡ Some d → d.rows ≡ Some rows → IsRead o w began rows)
      → (tag : ℕ) → tag_of x.phase ≡ tag → (who : Principal) (step : ViewStep)
      → IsKept o (changed w (AtClient c (record (views_by (terms_of o) x tag who step) { over = e })))
  views_kept low high e reads tag was who (Again viewing items) = reads_kept x number own (le_refl _) e None reads tag
      was low high (record { viewing = viewing; principal = who }) items
  views_kept low high e reads tag was who (Busy why) = ends_kept x number own (le_refl _) e None reads tag was
      (answer.Busy why) tt
  views_kept low high e reads tag was who (Closed view) =
      let permit : PermitState = record { view = view; principal = who; policy = (terms_of o).policy } in
      let basis = basis_on (terms_of o).policy who view.rows in
      rules_kept (record x { clock = clock_after_rows (clock_after_reach x.clock o.first) view.rows }) number
      (rows_client (clock_after_reach x.clock o.first) view.rows ∙ own) (reach_raise x.clock o.first view.rows)
      (reached x.clock o.first view.rows) e (Some (notes_of basis view.ask))
      reads tag was low high permit (ruling_of basis view.ask)

  -- ---- a message in a read

  module _ (pending_ask : PendingAsk) where
    abbrev reading : RoundState → Client
    reading r = record x { phase = phase.Reads pending_ask r }

    fetch_kept : (r : RoundState) → IsReading o w c began r → tag_of x.phase ≡ r.asker.tag → IsAsking o w c began r
        → are_there r.answers ≡ true
        → IsKept o (changed w
        (AtClient c (sends (reading (second_round r (stamps_of (answers_there r.answers))))
        (gets_of (next_asker r.asker) (stamps_of (answers_there r.answers)) r.items))))
    fetch_kept r h tag a all =
        let fs = answers_there r.answers in
        let t = sends (reading (second_round r (stamps_of fs))) (gets_of (next_asker r.asker) (stamps_of fs) r.items) in
        let next = changed w (AtClient c t) in
        let gr = turn_grows o w k c t number own (tag_next r.asker.tag tag) (le_refl _) in
        turn_kept o w k c t number own (tag_next r.asker.tag tag) (le_refl _)
        (λ m i. gets_sent next (next_asker r.asker) (r.asker.tag + 1) h.client refl (stamps_of fs) r.items m i)
        (record {
          low = h.low;
          high = h.high;
          parts = h.parts;
          client = h.client;
          own = own_nothing r.items;
          begun = λ p. begun_grows o w next gr began p (h.begun p);
          round = record {
            asked = asks t r.asker.tag tag (next_asker r.asker) refl r.items (stamps_of fs) refl;
            answered = unanswered t r.asker.tag tag (next_asker r.asker) r.items (stamps_of fs)
                (λ i s. In i r.items → SecondRound o next began (stamps_of fs) i s) refl;
            founds = λ f l. none_found r.items f l;
            stamps = λ u i. stamp_grows o w next gr u (stamp_from u i);
            fresh = λ i l. has_fresh_grows o w next gr began (stamps_of fs) i (fresh_in i l);
          };
        })
        (λ s i. none_some i) (λ d rows i. none_some i) (λ b i. none_some i)
      where
        found : (f : ReadVersion) → In f (answers_there r.answers)
            → FirstRound o w began f.item f.stamp × IsValue o w f.item f.stamp f.value
        found f l = a.founds f (there_in r.answers f l)

        stamp_from : (u : ℕ) → In u (stamps_of (answers_there r.answers)) → (u ≡ 0) ⊎ IsCollectedStamp o w u
        stamp_from u i =
            let q = in_stamps (answers_there r.answers) u i in
            subst (λ (z : ℕ). (z ≡ 0) ⊎ IsCollectedStamp o w z) (sym q.2)
            (⊎_elim inl (λ (z : IsCommitted w q.0.stamp). inr
            (record { settled = (k.sound z.0).committed q.0.stamp z.1; committed = z }))
            (found q.0 q.1).0.committed)

        fresh_in : (i : ℕ) → In i r.items → HasFresh o w began (stamps_of (answers_there r.answers)) i
        fresh_in i l =
            let q = each_item r.items r.answers h.own all i l in
            let f = found q.0 q.1 in
            subst (λ (z : ℕ). HasFresh o w began (stamps_of (answers_there r.answers)) z) q.2
            (record {
              stamp = q.0.stamp;
              in_them = stamp_in (answers_there r.answers) q.0 q.1;
              fresh = f.0.fresh;
              here = ⊎_elim (λ z. inl z.0) (λ v. inr (q.0.value, v.1)) f.1;
            })

    is_read : (r : RoundState) (ts : List ℕ) → IsReading o w c began r → IsFetching o w c began r ts
        → IsRead o w began (answers_there r.answers)
    is_read r ts h a = record {
      found = λ f l. let s = found f l in record {
        fresh = s.0.fresh;
        value = s.1;
        committed = ⊎_elim inl
            (λ i. ⊎_elim inl (λ (n : IsCollectedStamp o w f.stamp). inr n.committed) (a.stamps f.stamp i)) s.0.from;
      };
      above = λ f g l n. ⊎_elim inl (λ i. (found f l).0.above g.stamp i) (found g n).0.from;
      begun = h.begun;
    }
      where
        found : (f : ReadVersion) → In f (answers_there r.answers)
            → SecondRound o w began ts f.item f.stamp × IsValue o w f.item f.stamp f.value
        found f l = a.founds f (there_in r.answers f l)

    -- a round with one more answer
    round_with : (r : RoundState) (m : Message) → In m w.now.messages → IsReading o w c began r → (f : ReadVersion)
        → IsFoundBy r m f → IsReading o w c began (with_answer r f)
    round_with r m sent h f b = record {
      low = h.low;
      high = h.high;
      parts = h.parts;
      client = h.client;
      own = put_own f r.items r.answers h.own;
      begun = h.begun;
      round = go r.stamps h.round;
    }
      where
        value : IsValue o w f.item f.stamp f.value
        value = subst (λ (z : Body). IsFine o w m.from m.to z) b.says (k.fine m sent)

        go : (g : Option (List ℕ)) → IsRound o w c began r g → IsRound o w c began (with_answer r f) g
        go None a = record {
          asked = a.asked;
          answered = a.answered;
          founds = λ g l. ⊎_elim
              (λ i. a.founds g i)
              (λ (i : g ≡ f). subst
              (λ (z : ReadVersion). FirstRound o w began z.item z.stamp × IsValue o w z.item z.stamp z.value) (sym i) (
                subst (AnswersWith (FirstRound o w began)) b.says
                    (a.answered.at m sent (b.to ∙ ap ToClient h.client) b.tag_is),
                value,
              ))
              (put_cases f r.items r.answers g l);
        }
        go (Some ts) a = record {
          asked = a.asked;
          answered = a.answered;
          founds = λ g l. ⊎_elim
              (λ i. a.founds g i)
              (λ (i : g ≡ f).
              let d : In f.item r.items
              → SecondRound o w began ts f.item f.stamp = subst
              (AnswersWith (λ j s. In j r.items → SecondRound o w began ts j s)) b.says
              (a.answered.at m sent (b.to ∙ ap ToClient h.client) b.tag_is) in
              subst (λ (z : ReadVersion). SecondRound o w began ts z.item z.stamp × IsValue o w z.item z.stamp z.value)
              (sym i) (d b.asked, value))
              (put_cases f r.items r.answers g l);
          stamps = a.stamps;
          fresh = a.fresh;
        }

    -- how a round ends
    end_kept : (r : RoundState) → IsReading o w c began r → tag_of x.phase ≡ r.asker.tag → are_there r.answers ≡ true
        → (f : Option (List ℕ)) → IsRound o w c began r f
        → IsKept o (changed w
        (AtClient c (read_transition (terms_of o) x r.asker.tag pending_ask (end_by f r (answers_there r.answers)))))
    end_kept r h tag all None a = fetch_kept r h tag a all
    end_kept r h tag all (Some ts) a =
        let rows = answers_there r.answers in
        views_kept h.low h.high
        (Some (record { ask = pending_ask.viewing.ask; principal = pending_ask.principal; rows = Some rows }))
        (λ d rs i q. subst (λ (z : List ReadVersion). IsRead o w began z)
        (some_same (ap (λ (z : Ended). z.rows) (some_same i) ∙ q)) (is_read r ts h a))
        r.asker.tag tag pending_ask.principal (viewed (looker_of (terms_of o).policy pending_ask.principal) pending_ask.viewing rows)

    outcome_kept : (r : RoundState) → IsReading o w c began r → tag_of x.phase ≡ r.asker.tag → (b : Bool)
        → are_there r.answers ≡ b
        → IsKept o (changed w
        (AtClient c (read_transition (terms_of o) x r.asker.tag pending_ask
        (option_map_or (end_of r) (if b then Some (answers_there r.answers) else None) (Same r)))))
    outcome_kept r h tag true all = end_kept r h tag all r.stamps h.round
    outcome_kept r h tag false all = stays_kept (reading r) refl refl tag h

    reading_kept : (r : RoundState) (m : Message) → In m w.now.messages → IsReading o w c began r
        → tag_of x.phase ≡ r.asker.tag → (f : Option ReadVersion) → new_answer r m ≡ f
        → IsKept o (changed w
        (AtClient c (read_transition (terms_of o) x r.asker.tag pending_ask
        (option_map_or (λ (a : ReadVersion). outcome (with_answer r a)) f (Same r)))))
    reading_kept r m sent h tag None e = stays_kept (reading r) refl refl tag h
    reading_kept r m sent h tag (Some f) e = outcome_kept (with_answer r f)
        (round_with r m sent h f (found_is r m f e)) tag (are_there (with_answer r f).answers) refl

    -- an item is gone: nothing was read
    message_read : (r : RoundState) (m : Message) → In m w.now.messages → IsReading o w c began r
        → tag_of x.phase ≡ r.asker.tag → (b : Bool)
        → IsKept o (changed w
        (AtClient c (read_transition (terms_of o) x r.asker.tag pending_ask (if b then Gone r.items else taken r m))))
    message_read r m sent h tag false = reading_kept r m sent h tag (new_answer r m) refl
    message_read r m sent h tag true =
        views_kept h.low h.high (Some (record { ask = pending_ask.viewing.ask; principal = pending_ask.principal; rows = None }))
        (λ d rs i q. none_some (ap (λ (z : Ended). z.rows) (some_same i) ∙ q))
        r.asker.tag tag pending_ask.principal (again pending_ask.viewing r.items)

  -- ---- a message in a write

  -- the round with the answer of the node
  writing_with : (z : WritingState) (P : ℕ → ℕ → Type 0) (part : ℕ) (n : Node) → n ≡ Part part → P part z.stamp
      → IsWriting o w c z P → IsWriting o w c (answered_by z n) P
  writing_with z P part n from d h = record {
    of = h.of;
    begun = h.begun;
    stamp = h.stamp;
    parts = h.parts;
    client = h.client;
    given = λ p l. ⊎_elim
        (λ i. ⊎_elim
        (λ (e : is_part n p ≡ true).
        let q : part ≡ p = eqb-true part p (sym (ap (λ (a : Node). is_part a p) from) ∙ e) in
        inr (subst (λ (a : ℕ). P a z.stamp) q d))
        (λ (e : is_part n p ≡ false). inl (filter_in (λ part. not (is_part n part)) p z.outstanding i (ap not e)))
        (true_or_false (is_part n p)))
        inr (h.given p l);
  }

  -- all have answered
  all_given : (z : WritingState) (P : ℕ → ℕ → Type 0) → z.outstanding ≡ [] → IsWriting o w c z P → (p : ℕ)
      → In p (places_in z) → P p z.stamp
  all_given z P e h p l = ⊎_elim (λ i. in_nil (subst (λ (a : List ℕ). In p a) e i)) (λ d. d) (h.given p l)

  settled_by_all : (z : WritingState) → z.outstanding ≡ [] → IsWriting o w c z (HasPrepared w) → IsSettled o w z.stamp
  settled_by_all z e h = record {
    of = h.of;
    begun = h.begun;
    stamp = h.stamp;
    ready = λ i v q.
        let d : IsPreparedIn (history w (place_of o.parts i)) z.stamp = all_given z (HasPrepared w) e h
        (place_of o.parts i) (subst (λ (a : List ℕ). In (place_of o.parts i) a) (sym h.parts)
        (place_in o.parts (items_written h.of.writes) i some (item_in h.of.writes i v q))) in
        subst (λ (a : ℕ). wrote (history w (place_of o.parts i)) a i ≡ Some v) h.stamp
        (written_here o w k h.of h.begun i v q
        (subst (λ (a : ℕ). IsPreparedIn (history w (place_of o.parts i)) a) (sym h.stamp) d));
  }

  done_by_all : (z : WritingState) → z.outstanding ≡ [] → IsWriting o w c z (HasCommitted w) → IsDone o w z.stamp
  done_by_all z e h = record {
    of = h.of;
    begun = h.begun;
    stamp = h.stamp;
    at = λ p l. all_given z (HasCommitted w) e h p (subst (λ (a : List ℕ). In p a) (sym h.parts) l);
  }

  abbrev committing : WritingState → Client
  committing z = record x { phase = phase.Commits z }

  commit_kept : (z : WritingState) → tag_of x.phase ≡ z.tag → IsWriting o w c z (HasPrepared w) → IsSettled o w z.stamp
      → IsKept o (changed w (AtClient c (sends (committing (commit_round z)) (commits_of (commit_round z)))))
  commit_kept z tag h s =
      let t = sends (committing (commit_round z)) (commits_of (commit_round z)) in
      let next = changed w (AtClient c t) in
      let gr = turn_grows o w k c t number own (tag_next z.tag tag) (le_refl _) in
      turn_kept o w k c t number own (tag_next z.tag tag) (le_refl _)
      (λ m i. let q = in_map (commit_to (commit_round z)) (places_in z) i in
      record {
        part = q.0;
        body = body.Request (Commit z.stamp);
        is = q.2 ∙ ap (λ (a : ℕ). let n : Message =
            record { from = ToClient a; to = Part q.0; tag = z.tag + 1; body = body.Request (Commit z.stamp) } in n)
            h.client;
        fine = settled_grows o w next gr z.stamp s;
      })
      (record {
        of = h.of;
        begun = gr.transactions h.of h.begun;
        stamp = h.stamp;
        parts = h.parts;
        client = h.client;
        given = λ p l. inl l;
      })
      (λ r i. none_some i) (λ d rows i. none_some i) (λ b i. none_some i)

  outcome_ends : (tag : ℕ) → tag_of x.phase ≡ tag → (a : Answer) → IsAnswer o w a
      → IsKept o (changed w (AtClient c (ask_ends x tag a)))
  outcome_ends tag was a d = ends_kept x number own (le_refl _) None None (λ d rows i q. none_some i) tag was a d

  module _ (m : Message) (sent : In m w.now.messages) (z : WritingState) (tag : tag_of x.phase ≡ z.tag) where
    says_from : (b : Body) (part : ℕ) → m.from ≡ Part part → m.body ≡ b → IsFine o w (Part part) m.to b
    says_from b part f e = subst (λ (a : Node). IsFine o w a m.to b) f
        (subst (λ (a : Body). IsFine o w m.from m.to a) e (k.fine m sent))

    abbrev preparing : WritingState → Client
    preparing h = record x { phase = phase.Prepares h }

    commits_kept : (h : WritingState) → h.tag ≡ z.tag → IsWriting o w c h (HasPrepared w) → (outstanding : List ℕ)
        → h.outstanding ≡ outstanding → IsKept o (changed w (AtClient c (prepare_transition x z.tag (prepares_left h outstanding))))
    commits_kept h q d [] e = commit_kept h (tag ∙ sym q) d (settled_by_all h e d)
    commits_kept h q d (p ∷ ps) e = stays_kept (preparing h) refl refl (tag ∙ sym q) d

    prepared_kept : IsWriting o w c z (HasPrepared w) → (what : WriteReply) → reply_in z m ≡ what
        → IsKept o (changed w (AtClient c (prepare_transition x z.tag (prepares_by z m.from what))))
    prepared_kept h write_reply.Prepared e =
        let d = given_to_is z m write_reply.Prepared e tt in
        commits_kept (answered_by z m.from) refl
        (writing_with z (HasPrepared w) d.part m.from d.from
        (says_from (body.Reply (reply.Prepared z.stamp)) d.part d.from d.says) h) (answered_by z m.from).outstanding
        refl
    prepared_kept h write_reply.Discarded e =
        let d = given_to_is z m write_reply.Discarded e tt in
        outcome_ends z.tag tag (answer.Aborted z.stamp)
        (says_from (body.Reply (reply.Discarded z.stamp)) d.part d.from d.says)
    prepared_kept h write_reply.Full e =
        let d = given_to_is z m write_reply.Full e tt in
        outcome_ends z.tag tag (answer.Unsettled z.stamp refusal.Full) (
          record {
            of = h.of;
            begun = h.begun;
            stamp = h.stamp;
            part = d.part;
            one_of = subst
                (λ (a : List ℕ). In d.part a) h.parts d.one_of;
            full = says_from (body.Reply (reply.Full z.stamp)) d.part
                d.from d.says;
          },
          refl,
        )
    prepared_kept h write_reply.Committed e = stays_kept (preparing z) refl refl tag h
    prepared_kept h write_reply.Nothing e = stays_kept (preparing z) refl refl tag h

    ended_kept : (h : WritingState) → h.tag ≡ z.tag → IsWriting o w c h (HasCommitted w) → (outstanding : List ℕ)
        → h.outstanding ≡ outstanding → IsKept o (changed w (AtClient c (commit_transition x z.tag (commits_left h outstanding))))
    ended_kept h q d [] e = outcome_ends z.tag tag (answer.Committed h.stamp) (done_by_all h e d)
    ended_kept h q d (p ∷ ps) e = stays_kept (committing h) refl refl (tag ∙ sym q) d

    committed_kept : IsWriting o w c z (HasCommitted w) → (what : WriteReply) → reply_in z m ≡ what
        → IsKept o (changed w (AtClient c (commit_transition x z.tag (commits_by z m.from what))))
    committed_kept h write_reply.Committed e =
        let d = given_to_is z m write_reply.Committed e tt in
        ended_kept (answered_by z m.from) refl
        (writing_with z (HasCommitted w) d.part m.from d.from
        (says_from (body.Reply (reply.Committed z.stamp)) d.part d.from d.says) h) (answered_by z m.from).outstanding
        refl
    committed_kept h write_reply.Prepared e = stays_kept (committing z) refl refl tag h
    committed_kept h write_reply.Discarded e = stays_kept (committing z) refl refl tag h
    committed_kept h write_reply.Full e = stays_kept (committing z) refl refl tag h
    committed_kept h write_reply.Nothing e = stays_kept (committing z) refl refl tag h

  -- ---- whatever it does

  by_kept : (m : Message) → In m w.now.messages → (f : Phase) → x.phase ≡ f → IsDoing o w c began f
      → IsKept o (changed w (client_takes_by (terms_of o) c x m f))
  by_kept m sent (phase.Idle tag) e h = k
  by_kept m sent (phase.Reads pending_ask r) e h = message_read pending_ask r m sent h (ap tag_of e) (is_gone r m)
  by_kept m sent (phase.Prepares z) e h = prepared_kept m sent z (ap tag_of e) h (reply_in z m) refl
  by_kept m sent (phase.Commits z) e h = committed_kept m sent z (ap tag_of e) h (reply_in z m) refl

  pub message_kept : (m : Message) → In m w.now.messages → IsKept o (changed w (client_takes (terms_of o) w.now c x m))
  message_kept m sent = go (is_stopped w.now c)
    where
      go : (b : Bool) → IsKept o (changed w (if b then Nothing else client_takes_by (terms_of o) c x m x.phase))
      go true = k
      go false = by_kept m sent x.phase refl (k.clients c).phase

  pub asked_kept : 0 < c → c < 65536 → (tag : ℕ) → tag_of x.phase ≡ tag → (pending_ask : PendingAsk) (items : List ℕ)
      → IsKept o (changed w (AtClient c (read_begins (terms_of o) x tag pending_ask items)))
  asked_kept low high tag was pending_ask items = reads_kept x number own (le_refl _) None None
      (λ d rows i q. none_some i) tag was low high pending_ask items
