-- Each transition of a client is booked: its answer, notes and write rest on the view that the client had read last.
use Rattle.std.proofs.Common.{◌≡◌, ℕ, ◌<◌, ◌≤◌, ◌+◌, ◌*◌, Bool, true, false, cond, nat_lt, nat_le, length, List, [], ◌∷◌, ◌++◌, Option, Some, None, Result, Ok, Err, IfOk, ◌⊎◌, inl, inr, ⊎_elim, sym, ap, ◌∙◌, subst, refl, arith, ltb-true, ltb-false, lt-ltb, le_refl, le_of_eq, le_trans, if◌then◌else◌}
use Rattle.std.proofs.lemmas.Bool.{leb-true, leb-false}
use Rattle.album_stamps.specs.Clocks.{clock_after_reach, ClockState, clock_after_next, next_of}
use Rattle.album_stamps.proofs.Drawing.{next-greater}
use Rattle.album_stamps.specs.Stamps.{is_client}
use Rattle.album_stamps.specs.declared.limits.TheConstants.{CLIENTS, MAX_READS, MAX_READ_ITEMS, MAX_COUNTER}
use Rattle.album_stamps.specs.declared.refusals.Refusal.{Refusal}
use Rattle.album_stamps.specs.declared.refusals.Refusal.TheVariants as refusal
use Rattle.album_items.specs.declared.openings.Opening.{Opening}
use Rattle.album_calls.specs.declared.messages.Body.TheVariants as body
use Rattle.album_calls.specs.declared.messages.Message.{Message}
use Rattle.album_calls.specs.declared.nodes.Node.TheVariants.{Client as ToClient}
use Rattle.album_calls.specs.declared.replies.Reply.TheVariants as reply
use Rattle.album_eval.specs.declared.facts.Principal.{Principal}
use Rattle.album_reader.specs.Answers.{ReadVersion}
use Rattle.album_reader.specs.Rounds.{Step, stepped}
use Rattle.album_reader.specs.Rounds.Step.{Same, Next, Done, Gone}
use Rattle.album_views.specs.Checks.{refusal_of}
use Rattle.album_views.specs.ReadSets.{names_of, looker_of}
use Rattle.album_views.specs.Steps.{again}
use Rattle.album_views.specs.Steps.{stepped as viewed}
use Rattle.album_views.specs.Views.{ViewingState, IsView, IsClosed, is_closed}
use Rattle.album_views.specs.declared.asks.Ask.{Ask}
use Rattle.album_views.specs.declared.viewing.ViewStep.TheVariants.{Again, Closed, Busy}
use Rattle.album_views.specs.declared.viewing.Why.{Why}
use Rattle.album_views.specs.declared.viewing.Why.TheVariants.{Rounds, Wide}
use Rattle.album_views.proofs.Closing.{closed-is, not-closed}
use Rattle.album_listing.proofs.GroupsFoundLemmas.{basis-based}
use Rattle.album_listing.specs.Basis.{Basis, IsBasis}
use Rattle.album_listing.specs.GroupsFound.{basis_on}
use Rattle.album_permits.specs.Effects.{effect_of, is_full_for}
use Rattle.album_permits.specs.Findings.{ruling_of}
use Rattle.album_permits.specs.Notes.{notes_of}
use Rattle.album_permits.specs.Permits.{PermitState, IsPermit, permit_on}
use Rattle.album_permits.specs.declared.findings.Finding.{Finding}
use Rattle.album_permits.specs.declared.findings.Finding.TheVariants as finding
use Rattle.album_permits.specs.declared.notes.Note.{Note}
use Rattle.album_permits.specs.declared.serving.Served.{Served}
use Rattle.album_writer.specs.Rounds.{answered_by, prepares_left, prepares_by, commits_left, commits_by}
use Rattle.album_writer.specs.WriteReplies.{reply_in}
use Rattle.album_writer.specs.Writing.{WritingState, places_in, commit_round, commits_of}
use Rattle.album_writer.specs.declared.write_replies.WriteReply.{WriteReply}
use Rattle.album_writer.specs.declared.write_replies.WriteReply.TheVariants as write_reply
use Rattle.album_permits.specs.declared.answers.Answer.{Answer}
use Rattle.album_permits.specs.declared.answers.Answer.TheVariants as answer
use Rattle.album_client.specs.declared.clients.Phase.{Phase}
use Rattle.album_client.specs.declared.clients.Phase.TheVariants as phase
use Rattle.album_client.specs.Terms.{Terms, terms_of}
use Rattle.album_client.specs.PendingAsks.{PendingAsk}
use Rattle.album_client.specs.Clients.{Client}
use Rattle.album_client.specs.Grants.{served_for}
use Rattle.album_client.specs.Steps.{Transaction, Ended, TransitionState, still, sends, read_begins, ask_ends, write_begins, writes_unless, draws_by, grants, rules_by, clock_after_rows, read_ends, read_transition, prepare_transition, commit_transition}
use Rattle.album_client.proofs.GrantLemmas.{served_is, unserved_writes, taken_flawless, spent_is}
use Rattle.album_world.specs.State.{client_at, is_stopped}
use Rattle.album_world.specs.Past.{World, Begun, Read, last_begun, last_read}
use Rattle.album_world.specs.Changes.Change.{AtClient, Nothing}
use Rattle.album_world.specs.Changes.{client_takes_by, client_takes}
use Rattle.album_world.specs.Runs.{changed, read_over, past_answer, noted_of}
use Rattle.album_permits.specs.Meaning.{Notes}
use Rattle.album_world.specs.Viewed.{IsOnView}
use Rattle.album_world.specs.Rulings.{IsBegunBy, HasNotes, IsNotedFor}
use Rattle.album_world.specs.Granted.{IsDrawnBy, IsGranted}
use Rattle.album_world.specs.Outcomes.{IsRefusedFor}
use Rattle.album_world.specs.Busy.{IsNarrow}
use Rattle.album_world.proofs.ListLemmas.{In, contains, within, in_right, in_cases, in_nil, and_both, self_eqb, some_same, none_some}
use Rattle.album_world.proofs.ListLemmas.In.{here}
use Rattle.album_world.proofs.ClientLemmas.{rows_client, reach_raise, reached, rows_seen, IsDraw, draw_is, next_client, next_raise, given_to_is}
use Rattle.album_world.proofs.Invariant.{IsKept, IsDoing}
use Rattle.album_world.proofs.TurnLemmas.{IsNew, not_same, same_now}
use Rattle.album_world.proofs.ReplyLemmas.{with_past}
use Rattle.album_world.proofs.BookLemmas.{IsLed, IsWriteOn, IsBegunFull, IsCount, IsAt, IsBooked, led_adds, noting_adds, noting_by, at_adds, begun_client, last_here, turn_adds, turn_booked}

module _ (o : Opening) (w : World) (k : IsKept o w) (b : IsBooked (terms_of o) w) (c : ℕ) where
  abbrev x : Client
  x = client_at w.now.clients c

  abbrev t : Terms
  t = terms_of o

  number : x.number ≡ c
  number = (k.clients c).number

  own : x.clock.client ≡ c
  own = (k.clients c).clock

  -- there are no outputs
  pub quiet_booked : (y : Client) → y.number ≡ x.number → y.clock ≡ x.clock → IsAt t w c y.phase
      → (sent : List Message) → IsBooked t (changed w (AtClient c (sends y sent)))
  quiet_booked y same clock does sent =
      let n : y.number ≡ c = same ∙ number in
      let m : y.clock.client ≡ c = ap (λ (z : ClockState). z.client) clock ∙ own in
      let up : x.clock.counter ≤ y.clock.counter = le_of_eq (ap (λ (z : ClockState). z.counter) (sym clock)) in
      turn_booked o w k b c (sends y sent) n m up (λ r l. none_some l)
      (at_adds t w (changed w (AtClient c (sends y sent)))
      (turn_adds o w k b c (sends y sent) n m up (λ r l. none_some l)) c y.phase refl refl does)
      (λ r l. none_some l) (λ a l. none_some l) (λ a l. none_some l) (λ a l. none_some l)

  -- a write is over
  outcome_booked : (tag : ℕ) (a : Answer) → IsLed t w (past_answer w.past.reads c a) a
      → IsNotedFor w (past_answer w.past.reads c a) a → IsBooked t (changed w (AtClient c (ask_ends x tag a)))
  outcome_booked tag a led noting =
      let turn = ask_ends x tag a in
      let next = changed w (AtClient c turn) in
      turn_booked o w k b c turn number own (le_refl _) (λ r l. none_some l) tt (λ r l. none_some l)
      (λ z l. subst (λ (y : Answer). IsLed t next (past_answer w.past.reads c y) y) (some_same l)
      (led_adds t w next (turn_adds o w k b c turn number own (le_refl _) (λ r l. none_some l))
      (past_answer w.past.reads c a) a led))
      (λ z l. subst (λ (y : Answer). IsNotedFor next (past_answer w.past.reads c y) y) (some_same l)
      (noting_adds t w next (turn_adds o w k b c turn number own (le_refl _) (λ r l. none_some l))
      (past_answer w.past.reads c a) a noting))
      (λ a l. none_some l)

  -- ---- a read that is over

  module _ (pending_ask : PendingAsk) (counted : IsCount w c pending_ask) (low : 0 < c) (high : c < 65536) (tag : ℕ) where
    abbrev begun_here : Begun
    begun_here = last_begun w.past.begun c

    abbrev ended : Option (List ReadVersion) → Ended
    ended rows = record { ask = pending_ask.viewing.ask; principal = pending_ask.principal; rows = rows }

    abbrev read_now : Option (List ReadVersion) → Read
    read_now rows = read_over begun_here (ended rows)

    is_last : (rows : Option (List ReadVersion)) → last_read (read_now rows ∷ w.past.reads) c ≡ Some (read_now rows)
    is_last rows = last_here c begun_here (ended rows) w.past.reads (begun_client w.past.begun c)

    -- there is no view
    busy_booked : (why : Why) (rows : Option (List ReadVersion))
        → ((v : World) → In (read_now rows) v.past.reads
        → IsLed t v (past_answer (read_now rows ∷ w.past.reads) c (answer.Busy why)) (answer.Busy why))
        → IsBooked t (changed w (AtClient c (read_ends t x tag pending_ask rows (Busy why))))
    busy_booked why rows led =
        let turn = read_ends t x tag pending_ask rows (Busy why) in
        let next = changed w (AtClient c turn) in
        turn_booked o w k b c turn number own (le_refl _) (λ r l. none_some l) tt (λ r l. none_some l)
        (λ z l. subst (λ (y : Answer). IsLed t next (past_answer (read_now rows ∷ w.past.reads) c y) y) (some_same l)
        (led next here))
        (λ z l. subst (λ (y : Answer). IsNotedFor next (past_answer (read_now rows ∷ w.past.reads) c y) y) (some_same l) tt)
        (λ a l. none_some l)

    again_booked : (rows : Option (List ReadVersion)) → ((read_now rows).rows ≡ None) ⊎ IsNarrow t.policy (read_now rows)
        → (items : List ℕ)
        → IsBooked t (changed w (AtClient c (read_ends t x tag pending_ask rows (again pending_ask.viewing items))))
    again_booked rows vain items = go (nat_le MAX_READS (pending_ask.viewing.reads + 1)) refl
      where
        later : ViewingState
        later = record { ask = pending_ask.viewing.ask; reads = pending_ask.viewing.reads + 1 }

        go : (f : Bool) → nat_le MAX_READS (pending_ask.viewing.reads + 1) ≡ f
            → IsBooked t (changed w
            (AtClient c (read_ends t x tag pending_ask rows
            (if f then Busy Rounds else Again (record { ask = pending_ask.viewing.ask; reads = pending_ask.viewing.reads + 1 })
            items))))
        go true e = busy_booked Rounds rows (λ v made. record {
          read = read_now rows;
          last_is = is_last rows;
          made = contains made;
          own = begun_client w.past.begun c;
          cause = record {
            nth = (let a : MAX_READS ≤ pending_ask.viewing.reads + 1 = leb-true MAX_READS (pending_ask.viewing.reads + 1) e in
                let d : pending_ask.viewing.reads < MAX_READS = counted.few in
                let f : begun_here.nth ≡ pending_ask.viewing.reads + 1 = counted.count in
                omega arith);
            in_vain = vain;
          };
        })
        go false e =
            let turn = read_ends t x tag pending_ask rows
            (Again (record { ask = pending_ask.viewing.ask; reads = pending_ask.viewing.reads + 1 }) items) in
            let next = changed w (AtClient c turn) in
            let here_now : (last_begun next.past.begun c).nth ≡ begun_here.nth + 1 = ap
            (λ (f : Bool). (cond f
            (let s : Begun = record { client = c; nth = begun_here.nth + 1; partitions = w.now.partitions } in s)
            begun_here).nth) (self_eqb c) in
            turn_booked o w k b c turn number own (le_refl _) (λ r l. none_some l)
            (record {
              taken = counted.taken;
              count = here_now ∙ ap (λ (z : ℕ). z + 1) counted.count;
              few = (let a : pending_ask.viewing.reads + 1 < MAX_READS = leb-false MAX_READS (pending_ask.viewing.reads + 1) e
                  in a);
            })
            (λ r l. none_some l) (λ a l. none_some l) (λ a l. none_some l) (λ a l. none_some l)

    -- ---- a view

    module _ (rows : List ReadVersion) (closed : IsClosed (looker_of t.policy pending_ask.principal) pending_ask.viewing.ask rows) where
      abbrev here_read : Read
      here_read = read_now (Some rows)

      abbrev permit : PermitState
      permit = record {
        view = record { looker = looker_of t.policy pending_ask.principal; ask = pending_ask.viewing.ask; rows = rows };
        principal = pending_ask.principal;
        policy = t.policy;
      }

      abbrev basis : Basis
      basis = basis_on t.policy pending_ask.principal rows

      based : IsBasis t.policy pending_ask.principal rows basis
      based = basis-based t.policy pending_ask.principal rows

      is_view : IsView (record { looker = looker_of t.policy pending_ask.principal; ask = pending_ask.viewing.ask; rows = rows })
      is_view = record { sound = taken_flawless pending_ask.viewing.ask pending_ask.principal counted.taken; closed = closed }

      on_view : (v : World) → In here_read v.past.reads → (P : PermitState → Type 0) → P permit
          → IsOnView t v c (last_read (here_read ∷ w.past.reads) c) P
      on_view v made P holds = record {
        read = here_read;
        rows = rows;
        last_is = is_last (Some rows);
        made = contains made;
        own = begun_client w.past.begun c;
        shown = refl;
        view = is_view;
        holds = holds;
      }

      abbrev notes : List Note
      notes = notes_of basis pending_ask.viewing.ask

      abbrev seen : Client
      seen = record x { clock = clock_after_rows (clock_after_reach x.clock o.first) rows }

      seen_own : seen.clock.client ≡ c
      seen_own = rows_client (clock_after_reach x.clock o.first) rows ∙ own

      seen_up : x.clock.counter ≤ seen.clock.counter
      seen_up = reach_raise x.clock o.first rows

      -- the answer and the notes of this event
      abbrev over_with : TransitionState → TransitionState
      over_with turn = with_past turn (Some (ended (Some rows))) (Some notes)

      noted_now : (v : World) → In here_read v.past.reads → (n : List Note) → Some notes ≡ Some n
          → IsOnView t v c (last_read (here_read ∷ w.past.reads) c) (λ case. Notes case n)
      noted_now v made n l = subst
          (λ (z : List Note). IsOnView t v c (last_read (here_read ∷ w.past.reads) c) (λ case. Notes case z))
          (some_same l)
          (on_view v made (λ case. Notes case notes) (record { basis = basis; based = based; is = refl }))

      answers_booked : (y : Client) → y.number ≡ c → y.clock.client ≡ c → x.clock.counter ≤ y.clock.counter → (a : Answer)
          → ((v : World) → In here_read v.past.reads
          → client_at v.now.clients c ≡ (record y { phase = phase.Idle tag })
          → v.past.transactions ≡ w.past.transactions ++ [] → IsLed t v (past_answer (here_read ∷ w.past.reads) c a) a)
          → IsBooked t (changed w (AtClient c (over_with (ask_ends y tag a))))
      answers_booked y ny oy up a led =
          let turn = over_with (ask_ends y tag a) in
          let next = changed w (AtClient c turn) in
          turn_booked o w k b c turn ny oy up (λ r l. none_some l) tt (λ r l. none_some l)
          (λ z l. subst (λ (q : Answer). IsLed t next (past_answer (here_read ∷ w.past.reads) c q) q) (some_same l)
          (led next here (same_now o w k c turn ny oy) refl))
          (λ z l. noting_by next (past_answer (here_read ∷ w.past.reads) c z) z
          (record {
            noted = noted_of (here_read ∷ w.past.reads) c notes;
            kept = contains (in_right w.past.noted here);
            own = refl;
            same = refl;
          }))
          (noted_now next here)

      known : is_client c ≡ true
      known = and_both (nat_lt 0 c) (nat_lt c CLIENTS) (lt-ltb 0 c low) (lt-ltb c CLIENTS high)

      module _ (granted : IsPermit permit) where
        abbrev drawn : Client
        drawn = record seen { clock = clock_after_next seen.clock }

        drawn_own : drawn.clock.client ≡ c
        drawn_own = next_client seen.clock ∙ seen_own

        drawn_up : x.clock.counter ≤ drawn.clock.counter
        drawn_up = le_trans seen_up (next_raise seen.clock)

        module _ (stamp : ℕ) (is_next : next_of seen.clock ≡ Ok stamp) where
          d : IsDraw seen.clock stamp
          d = draw_is seen.clock stamp is_next

          later : (row : ReadVersion) → In row rows → row.stamp < stamp
          later row i = subst (λ (f : Result ℕ Refusal). IfOk f (λ s. row.stamp < s)) is_next
              (next-greater seen.clock row.stamp (rows_seen (clock_after_reach x.clock o.first) rows row i))

          above : x.clock.counter < drawn.clock.counter
          above = let a : x.clock.counter ≤ seen.clock.counter = seen_up in
              let e : drawn.clock.counter ≡ seen.clock.counter + 1 = d.counter in omega (arith, a, e)

          rises : o.first < drawn.clock.counter
          rises = let a = reached x.clock o.first rows in
              let e : drawn.clock.counter ≡ seen.clock.counter + 1 = d.counter in omega (arith, a, e)

          is : stamp ≡ drawn.clock.counter * 65536 + c
          is = d.stamp_is ∙ ap (λ (z : ℕ). z * 65536 + seen.clock.client) (sym d.counter)
              ∙ ap (λ (z : ℕ). drawn.clock.counter * 65536 + z) seen_own

          drawn_by : (v : World) (g : Phase) → client_at v.now.clients c ≡ (record drawn { phase = g })
              → IsDrawnBy v c stamp
          drawn_by v g e = record {
            counter = drawn.clock.counter;
            is = is;
            known = known;
            old = subst
                (λ (z : Client). drawn.clock.counter ≤ z.clock.counter) (sym e) (le_refl _);
          }

          is_new : (turn : TransitionState) → turn.client.clock.counter ≡ drawn.clock.counter → (r : Transaction)
              → r.stamp ≡ stamp → IsNew c o.first x.clock.counter turn r
          is_new turn same r e = record {
            at = drawn.clock.counter;
            is = e ∙ is;
            rises = rises;
            above = above;
            low = low;
            high = high;
            drawn = subst (λ (z : ℕ). drawn.clock.counter ≤ z) (sym same) (le_refl _);
          }

          -- nothing has the stamp yet
          unused : (r : Transaction) → In r w.past.transactions → r.stamp ≡ stamp → ⊥
          unused r i e =
              let turn = still drawn in
              let new : Transaction = record { client = c; tag = 0; stamp = stamp; permit = permit; writes = [] } in
              not_same o w k c turn number drawn_own r new i (is_new turn refl new refl) e

          full_booked : is_full_for permit stamp ≡ true
              → IsBooked t (changed w (AtClient c (over_with (ask_ends drawn tag (answer.Refused refusal.AlbumFull)))))
          full_booked full = answers_booked drawn number drawn_own drawn_up (answer.Refused refusal.AlbumFull)
              (λ v made at none. on_view v made (λ case. IsPermit case × IsRefusedFor v c refusal.AlbumFull case) (
                granted,
                inl (
                  refl,
                  record {
                    stamp = stamp;
                    full = full;
                    drawn = drawn_by v (phase.Idle tag) at;
                    unused = λ r l e. ⊎_elim (λ i. unused r i e)
                        (λ i. in_nil i) (in_cases w.past.transactions []
                        (subst (λ (z : List Transaction). In r z) none (within _ l)));
                  },
                ),
              ))

          write_booked : served_for permit pending_ask.viewing.ask ≡ None → is_full_for permit stamp ≡ false
              → IsBooked t (changed w (AtClient c (over_with (write_begins t drawn tag permit stamp))))
          write_booked unserved room =
              let turn = over_with (write_begins t drawn tag permit stamp) in
              let next = changed w (AtClient c turn) in
              let r : Transaction = record {
                client = drawn.number;
                tag = tag + 1;
                stamp = stamp;
                permit = permit;
                writes = effect_of permit stamp;
              } in
              let mine : In r next.past.transactions = in_right w.past.transactions here in
              let same : client_at next.now.clients c ≡ turn.client = same_now o w k c turn number drawn_own in
              turn_booked o w k b c turn number drawn_own drawn_up
              (λ s l. is_new turn refl s (ap (λ (z : Transaction). z.stamp) (sym (some_same l))))
              (record {
                read = here_read;
                rows = rows;
                last = is_last (Some rows);
                made = here;
                own = begun_client w.past.begun c;
                shown = refl;
                view = is_view;
                granted = granted;
                by = r;
                begun = mine;
                stamp = refl;
                client = number;
                permit = refl;
                parts = refl;
                writer = number;
                notes = noted_of (here_read ∷ w.past.reads) c notes;
                noted = in_right w.past.noted here;
                notes_own = refl;
                notes_last = is_last (Some rows);
                is = refl;
              })
              (λ s l. subst (IsGranted t next) (some_same l)
              (record {
                read = here_read;
                rows = rows;
                made = contains here;
                own = begun_client w.past.begun c ∙ sym number;
                shown = refl;
                on = refl;
                view = is_view;
                granted = granted;
                writes = record {
                  change = unserved_writes permit pending_ask.viewing.ask unserved;
                  room = room;
                  effect = refl;
                };
                drawn = subst (λ (z : ℕ). IsDrawnBy next z stamp) (sym number) (drawn_by next turn.client.phase same);
                later = λ row i. later row (within rows i);
              }))
              (λ a l. none_some l)
              (λ a l. none_some l)
              (noted_now next here)

          unless_booked : served_for permit pending_ask.viewing.ask ≡ None → (f : Bool) → is_full_for permit stamp ≡ f
              → IsBooked t (changed w (AtClient c (over_with (writes_unless t drawn tag permit stamp f))))
          unless_booked unserved true e = full_booked e
          unless_booked unserved false e = write_booked unserved e

        draws_booked : served_for permit pending_ask.viewing.ask ≡ None → (f : Result ℕ Refusal) → next_of seen.clock ≡ f
            → IsBooked t (changed w (AtClient c (over_with (draws_by t drawn tag permit f))))
        draws_booked unserved (Ok stamp) e = unless_booked stamp e unserved (is_full_for permit stamp) refl
        draws_booked unserved (Err why) e =
            let spent = spent_is seen.clock why e in
            answers_booked drawn number drawn_own drawn_up (answer.Refused why)
            (λ v made at none. on_view v made (λ case. IsPermit case × IsRefusedFor v c why case) (
              granted,
              inr (
                spent.0,
                subst (λ (z : Client). MAX_COUNTER ≤ z.clock.counter) (sym at)
                    (le_trans spent.1 (next_raise seen.clock)),
              ),
            ))

        grants_booked : (f : Option Served) → served_for permit pending_ask.viewing.ask ≡ f
            → IsBooked t (changed w (AtClient c (over_with (grants t seen tag permit f))))
        grants_booked (Some served) e = answers_booked seen number seen_own seen_up (answer.Served served)
            (λ v made at none. on_view v made _
            (record { granted = granted; is = served_is permit pending_ask.viewing.ask refl served e }))
        grants_booked None e = draws_booked e (next_of seen.clock) refl

      rules_booked : (f : Finding) → ruling_of basis pending_ask.viewing.ask ≡ f
          → IsBooked t (changed w (AtClient c (over_with (rules_by t seen tag permit f))))
      rules_booked finding.Granted e =
          grants_booked (record { taken = counted.taken; looks = refl; basis = basis; based = based; granted = e })
          (served_for permit pending_ask.viewing.ask) refl
      rules_booked (finding.Denied reasons) e = answers_booked seen number seen_own seen_up (answer.Denied reasons)
          (λ v made at none. on_view v made _ (record { basis = basis; based = based; is = e }))
      rules_booked (finding.Missing object) e = answers_booked seen number seen_own seen_up (answer.Missing object)
          (λ v made at none. on_view v made _ (record { basis = basis; based = based; is = e }))

    -- ---- a snapshot

    done_booked : (rows : List ReadVersion)
        → IsBooked t (changed w (AtClient c (read_ends t x tag pending_ask (Some rows) (viewed (looker_of t.policy pending_ask.principal) pending_ask.viewing rows))))
    done_booked rows = go (is_closed (looker_of t.policy pending_ask.principal) pending_ask.viewing.ask rows) refl
      where
        wide : (IsClosed (looker_of t.policy pending_ask.principal) pending_ask.viewing.ask rows → ⊥) → (f : Bool)
            → nat_lt MAX_READ_ITEMS (length (names_of rows (looker_of t.policy pending_ask.principal) pending_ask.viewing.ask)) ≡ f
            → IsBooked t (changed w
            (AtClient c (read_ends t x tag pending_ask (Some rows)
            (if f then Busy Wide else again pending_ask.viewing (names_of rows (looker_of t.policy pending_ask.principal) pending_ask.viewing.ask)))))
        wide unclosed true e = busy_booked Wide (Some rows) (λ v made. record {
          read = read_now (Some rows);
          last_is = is_last (Some rows);
          made = contains made;
          own = begun_client w.past.begun c;
          cause = record {
            rows = rows;
            lacking = record { shown = refl; lacking = unclosed };
            wide = ltb-true MAX_READ_ITEMS _ e;
          };
        })
        wide unclosed false e = again_booked (Some rows)
            (inr (record {
              rows = rows;
              lacking = record { shown = refl; lacking = unclosed };
              narrow = ltb-false MAX_READ_ITEMS _ e;
            })) (names_of rows (looker_of t.policy pending_ask.principal) pending_ask.viewing.ask)

        go : (f : Bool) → is_closed (looker_of t.policy pending_ask.principal) pending_ask.viewing.ask rows ≡ f
            → IsBooked t (changed w
            (AtClient c (read_ends t x tag pending_ask (Some rows)
            (if f then Closed (record { looker = looker_of t.policy pending_ask.principal; ask = pending_ask.viewing.ask; rows = rows }) else
            (if nat_lt MAX_READ_ITEMS (length (names_of rows (looker_of t.policy pending_ask.principal) pending_ask.viewing.ask)) then Busy Wide else again
            pending_ask.viewing (names_of rows (looker_of t.policy pending_ask.principal) pending_ask.viewing.ask))))))
        go true e = rules_booked rows (closed-is rows (looker_of t.policy pending_ask.principal) pending_ask.viewing.ask e)
            (ruling_of (basis_on t.policy pending_ask.principal rows) pending_ask.viewing.ask) refl
        go false e = wide (not-closed rows (looker_of t.policy pending_ask.principal) pending_ask.viewing.ask e)
            (nat_lt MAX_READ_ITEMS (length (names_of rows (looker_of t.policy pending_ask.principal) pending_ask.viewing.ask))) refl

    -- ---- a message in a read

    reading_booked : (step : Step) → IsBooked t (changed w (AtClient c (read_transition t x tag pending_ask step)))
    reading_booked (Same round) = quiet_booked (record x { phase = phase.Reads pending_ask round }) refl refl counted []
    reading_booked (Next round messages) = quiet_booked (record x { phase = phase.Reads pending_ask round }) refl refl
        counted messages
    reading_booked (Done rows) = done_booked rows
    reading_booked (Gone items) = again_booked None (inl refl) items

  -- ---- a message in a write

  -- the view, and what of the write holds on it
  on_write : (z : WritingState) (T : Transaction → Type 0) → (h : IsWriteOn t w c z T) → (P : PermitState → Type 0)
      → P (permit_on t.policy h.read.principal h.read.ask h.rows) → IsOnView t w c (last_read w.past.reads c) P
  on_write z T h P holds = record {
    read = h.read;
    rows = h.rows;
    last_is = h.last;
    made = contains h.made;
    own = h.own;
    shown = h.shown;
    view = h.view;
    holds = holds;
  }

  abbrev begun_by : (z : WritingState) (T : Transaction → Type 0) → (h : IsWriteOn t w c z T)
      → IsBegunBy w c z.stamp (permit_on t.policy h.read.principal h.read.ask h.rows)
  begun_by z T h = record {
    granted = h.granted;
    by = h.by;
    begun = contains h.begun;
    own = h.client;
    at = h.stamp;
    with_it = h.permit;
  }

  committed_led : (z : WritingState) (T : Transaction → Type 0) → IsWriteOn t w c z T
      → IsOnView t w c (last_read w.past.reads c) (IsBegunBy w c z.stamp)
  committed_led z T h = on_write z T h (IsBegunBy w c z.stamp) (begun_by z T h)

  noting_of : (z : WritingState) (T : Transaction → Type 0) → IsWriteOn t w c z T → (a : Answer)
      → HasNotes w (past_answer w.past.reads c a)
  noting_of z T h a = record {
    noted = h.notes;
    kept = contains h.noted;
    own = h.notes_own;
    same = h.notes_last
        ∙ sym h.last;
  }

  abbrev preparing : WritingState → Client
  preparing z = record x { phase = phase.Prepares z }

  abbrev committing : WritingState → Client
  committing z = record x { phase = phase.Commits z }

  -- the round continues with the same write
  same_write : (z y : WritingState) (T S : Transaction → Type 0) → y.stamp ≡ z.stamp → places_in y ≡ places_in z
      → y.client ≡ z.client → ((r : Transaction) → T r → S r) → IsWriteOn t w c z T → IsWriteOn t w c y S
  same_write z y T S stamp places client more h = record {
    read = h.read;
    rows = h.rows;
    last = h.last;
    made = h.made;
    own = h.own;
    shown = h.shown;
    view = h.view;
    granted = h.granted;
    by = h.by;
    begun = h.begun;
    stamp = h.stamp ∙ sym stamp;
    client = h.client;
    permit = h.permit;
    parts = places ∙ h.parts;
    writer = client ∙ h.writer;
    notes = h.notes;
    noted = h.noted;
    notes_own = h.notes_own;
    notes_last = h.notes_last;
    is = more h.by h.is;
  }

  module _ (m : Message) (sent : In m w.now.messages) (z : WritingState) where
    abbrev Tagged : Transaction → Type 0
    Tagged by = by.tag ≡ z.tag

    abbrev Whatever : Transaction → Type 0
    Whatever by = Unit {0}

    left_booked : (y : WritingState) → y.stamp ≡ z.stamp → places_in y ≡ places_in z → y.client ≡ z.client
        → y.tag ≡ z.tag → IsWriteOn t w c z Tagged → (outstanding : List ℕ)
        → IsBooked t (changed w (AtClient c (prepare_transition x z.tag (prepares_left y outstanding))))
    left_booked y stamp places client tag h [] =
        quiet_booked (committing (commit_round y)) refl refl
        (same_write z (commit_round y) Tagged Whatever stamp places client (λ r e. tt) h)
        (commits_of (commit_round y))
    left_booked y stamp places client tag h (p ∷ ps) =
        quiet_booked (preparing y) refl refl
        (same_write z y Tagged (λ by. by.tag ≡ y.tag) stamp places client (λ r e. e ∙ sym tag) h) []

    prepared_booked : IsWriteOn t w c z Tagged → (what : WriteReply) → reply_in z m ≡ what
        → IsBooked t (changed w (AtClient c (prepare_transition x z.tag (prepares_by z m.from what))))
    prepared_booked h write_reply.Prepared e = left_booked (answered_by z m.from) refl refl refl refl h
        (answered_by z m.from).outstanding
    prepared_booked h write_reply.Discarded e = outcome_booked z.tag (answer.Aborted z.stamp) (committed_led z Tagged h)
        (noting_of z Tagged h (answer.Aborted z.stamp))
    prepared_booked h write_reply.Full e =
        let d = given_to_is z m write_reply.Full e tt in
        outcome_booked z.tag (answer.Unsettled z.stamp refusal.Full)
        (on_write z Tagged h (IsBegunFull t w c z.stamp)
        (record {
          begun = begun_by z Tagged h;
          full = record {
            message = m;
            part = d.part;
            sent = contains sent;
            of = contains (subst (λ (a : List ℕ). In d.part a) h.parts d.one_of);
            from = d.from;
            to = d.to ∙ ap ToClient (h.writer ∙ sym h.client);
            tag = d.tag ∙ sym h.is;
            says = d.says ∙ ap (λ (s : ℕ). body.Reply (reply.Full s)) (sym h.stamp);
          };
        }))
        (noting_of z Tagged h (answer.Unsettled z.stamp refusal.Full))
    prepared_booked h write_reply.Committed e = quiet_booked (preparing z) refl refl h []
    prepared_booked h write_reply.Nothing e = quiet_booked (preparing z) refl refl h []

    ended_booked : (y : WritingState) → y.stamp ≡ z.stamp → places_in y ≡ places_in z → y.client ≡ z.client
        → IsWriteOn t w c z Whatever → (outstanding : List ℕ)
        → IsBooked t (changed w (AtClient c (commit_transition x z.tag (commits_left y outstanding))))
    ended_booked y stamp places client h [] =
        outcome_booked z.tag (answer.Committed y.stamp)
        (committed_led y Whatever (same_write z y Whatever Whatever stamp places client (λ r e. e) h))
        (noting_of z Whatever h (answer.Committed y.stamp))
    ended_booked y stamp places client h (p ∷ ps) = quiet_booked (committing y) refl refl
        (same_write z y Whatever Whatever stamp places client (λ r e. e) h) []

    committed_booked : IsWriteOn t w c z Whatever → (what : WriteReply) → reply_in z m ≡ what
        → IsBooked t (changed w (AtClient c (commit_transition x z.tag (commits_by z m.from what))))
    committed_booked h write_reply.Committed e = ended_booked (answered_by z m.from) refl refl refl h
        (answered_by z m.from).outstanding
    committed_booked h write_reply.Prepared e = quiet_booked (committing z) refl refl h []
    committed_booked h write_reply.Discarded e = quiet_booked (committing z) refl refl h []
    committed_booked h write_reply.Full e = quiet_booked (committing z) refl refl h []
    committed_booked h write_reply.Nothing e = quiet_booked (committing z) refl refl h []

  -- ---- whatever it does

  by_booked : (m : Message) → In m w.now.messages → (f : Phase)
      → IsDoing o w c (last_begun w.past.begun c).partitions f → IsAt t w c f
      → IsBooked t (changed w (client_takes_by t c x m f))
  by_booked m sent (phase.Idle tag) kept h = b
  by_booked m sent (phase.Reads pending_ask r) kept h = reading_booked pending_ask h kept.low kept.high r.asker.tag (stepped r m)
  by_booked m sent (phase.Prepares z) kept h = prepared_booked m sent z h (reply_in z m) refl
  by_booked m sent (phase.Commits z) kept h = committed_booked m sent z h (reply_in z m) refl

  pub message_booked : (m : Message) → In m w.now.messages → IsBooked t (changed w (client_takes t w.now c x m))
  message_booked m sent = go (is_stopped w.now c)
    where
      go : (f : Bool) → IsBooked t (changed w (if f then Nothing else client_takes_by t c x m x.phase))
      go true = b
      go false = by_booked m sent x.phase (k.clients c).phase (b.at c)

  -- an ask begins
  pub asked_booked : (tag : ℕ) (ask : Ask) (who : Principal) → refusal_of ask who ≡ None → (items : List ℕ)
      → IsBooked t (changed w
      (AtClient c (read_begins t x tag (record { viewing = record { ask = ask; reads = 0 }; principal = who })
      items)))
  asked_booked tag ask who taken items =
      let turn = read_begins t x tag (record { viewing = record { ask = ask; reads = 0 }; principal = who }) items in
      let next = changed w (AtClient c turn) in
      let first : (last_begun next.past.begun c).nth ≡ 1 = ap
      (λ (f : Bool). (cond f (let s : Begun = record { client = c; nth = 1; partitions = w.now.partitions } in s)
      (last_begun w.past.begun c)).nth) (self_eqb c) in
      turn_booked o w k b c turn number own (le_refl _) (λ r l. none_some l)
      (record { taken = taken; count = first; few = omega arith })
      (λ r l. none_some l) (λ a l. none_some l) (λ a l. none_some l) (λ a l. none_some l)
