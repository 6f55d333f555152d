-- Each event keeps what is true of each request, and its answer is the only one to its client's last request.
use Rattle.std.proofs.Common.{◌≡◌, ℕ, ◌<◌, ◌+◌, arith, Bool, true, false, cond, not, nat_lt, nat_le, eqb, length, List, [], ◌∷◌, ◌++◌, Option, Some, None, option_to_list, option_map, Contains, Result, Ok, Err, ⊎_elim, sym, ap, ◌∙◌, subst, refl, append-nil, append_assoc, if◌then◌else◌}
use Rattle.std.specs.List.{slice_get}
use Rattle.album_stamps.specs.Clocks.{clock_after_reach, clock_after_next, next_of}
use Rattle.album_stamps.specs.Outcome.{◌>>=◌}
use Rattle.album_stamps.specs.Stamps.{is_client}
use Rattle.album_stamps.specs.declared.limits.TheConstants.{MAX_READS, MAX_READ_ITEMS}
use Rattle.album_stamps.specs.declared.refusals.Refusal.{Refusal}
use Rattle.album_stamps.specs.declared.refusals.Refusal.TheVariants as refusal
use Rattle.album_items.specs.Openings.{is_base_opening}
use Rattle.album_items.specs.declared.openings.Opening.{Opening}
use Rattle.album_calls.specs.declared.messages.Message.{Message}
use Rattle.album_calls.specs.declared.nodes.Node.{Node}
use Rattle.album_calls.specs.declared.nodes.Node.TheVariants.{Part, Client as ToClient}
use Rattle.album_eval.specs.declared.facts.Principal.{Principal}
use Rattle.album_partition.specs.Partition.{PartitionState}
use Rattle.album_partition.specs.Sweeps.{swept}
use Rattle.album_partition.specs.Trims.{trimmed}
use Rattle.album_partition.specs.declared.marks.Mark.{Mark}
use Rattle.album_reader.specs.Answers.{ReadVersion}
use Rattle.album_reader.specs.Rounds.{Step, stepped}
use Rattle.album_reader.specs.Rounds.Step.{Same, Next, Done, Gone}
use Rattle.album_views.specs.Asks.{objects_of}
use Rattle.album_views.specs.Checks.{refusal_of}
use Rattle.album_views.specs.ReadSets.{names_of, looker_of}
use Rattle.album_views.specs.Steps.{again}
use Rattle.album_views.specs.Steps.{stepped as viewed}
use Rattle.album_views.specs.Views.{ViewingState, is_closed}
use Rattle.album_views.specs.declared.asks.Ask.{Ask}
use Rattle.album_views.specs.declared.viewing.ViewStep.TheVariants.{Again, Closed, Busy}
use Rattle.album_views.specs.declared.viewing.Why.TheVariants.{Rounds, Wide}
use Rattle.album_listing.specs.GroupsFound.{basis_on}
use Rattle.album_permits.specs.Effects.{is_full_for, effect_of}
use Rattle.album_permits.specs.Findings.{ruling_of}
use Rattle.album_permits.specs.Notes.{notes_of}
use Rattle.album_permits.specs.Permits.{PermitState}
use Rattle.album_permits.specs.declared.findings.Finding.{Finding}
use Rattle.album_permits.specs.declared.findings.Finding.TheVariants as finding
use Rattle.album_permits.specs.declared.notes.Note.{Note}
use Rattle.album_permits.specs.declared.serving.Served.{Served}
use Rattle.album_writer.specs.Rounds.{answered_by, prepares_left, prepares_by, commits_left, commits_by}
use Rattle.album_writer.specs.WriteReplies.{reply_in}
use Rattle.album_writer.specs.Writing.{WritingState, commit_round, commits_of}
use Rattle.album_writer.specs.declared.write_replies.WriteReply.{WriteReply}
use Rattle.album_writer.specs.declared.write_replies.WriteReply.TheVariants as write_reply
use Rattle.album_permits.specs.declared.answers.Answer.{Answer}
use Rattle.album_permits.specs.declared.answers.Answer.TheVariants as answer
use Rattle.album_client.specs.declared.clients.Phase.{Phase}
use Rattle.album_client.specs.declared.clients.Phase.TheVariants as phase
use Rattle.album_client.specs.Terms.{Terms, terms_of}
use Rattle.album_client.specs.PendingAsks.{PendingAsk}
use Rattle.album_client.specs.Clients.{Client}
use Rattle.album_client.specs.Grants.{served_for}
use Rattle.album_client.specs.Steps.{Transaction, Ended, TransitionState, sends, read_begins, ask_ends, round_for, write_begins, writes_unless, draws_by, grants, rules_by, clock_after_rows, read_ends, read_transition, prepare_transition, commit_transition}
use Rattle.album_permits.specs.declared.events.Event.{Event}
use Rattle.album_permits.specs.declared.events.Event.TheVariants as event
use Rattle.album_permits.specs.declared.outs.Out.TheVariants as out
use Rattle.album_world.specs.State.{client_at, history_in, is_stopped, message_of}
use Rattle.album_world.specs.Past.{World, Asked, Begun, Read, last_asked, last_begun, last_read}
use Rattle.album_world.specs.Changes.{Change, asks_unless, asks_by, part_takes, client_takes_by, arrives, delivers, sweeps, trims, change_of}
use Rattle.album_world.specs.Changes.Change.{Nothing, AtPart, AtClient, Stops}
use Rattle.album_world.specs.Runs.{changed, changed_by, happens, new_request, nth_after, read_over, reads_after, outs_by, requested, run, run_of, start, event_outputs, asked_on}
use Rattle.album_world.specs.Requests.{AreAtOrAfter, IsOneAt, HasBegun, IsAnsweredLast}
use Rattle.album_world.proofs.ListLemmas.{In, within, in_nil, in_uncons, some_same, none_some, self_eqb}
use Rattle.album_world.proofs.ListLemmas.In.{there}
use Rattle.album_world.proofs.ClientLemmas.{rows_client, next_client}
use Rattle.album_world.proofs.Invariant.{IsKept, HasBegun as BeganFrom, IsDoing}
use Rattle.album_world.proofs.ReplyLemmas.{with_past}
use Rattle.album_world.proofs.EventLemmas.{GivesAnswer, answer_of_change}
use Rattle.album_world.proofs.RunLemmas.{opening_is, start_kept, event_kept}
use Rattle.album_world.proofs.StopLemmas.{request_kept}
use Rattle.album_world.proofs.BookLemmas.{begun_client, last_here}
use Rattle.album_world.proofs.RequestLemmas.{IsAlone, ReadsFor, WritesFor, IsUnder, IsRequestedBut, IsRequested, IsTurnFor, Lasts, all_answered, alone_lasts, on_last, turn_requested, turn_answers, idle_under}

-- the client had this turn: what is true of each request is so still, and its answer is to the last one
abbrev IsHad : World → ℕ → TransitionState → Type 0
IsHad w c t = IsRequested (changed w (AtClient c t)) ×
    ((x : Answer) → t.answer ≡ Some x → IsAnsweredLast (changed w (AtClient c t)) c x)

module _ (o : Opening) (w : World) (k : IsKept o w) (c : ℕ) (q : IsRequestedBut w c) where
  abbrev x : Client
  x = client_at w.now.clients c

  abbrev t : Terms
  t = terms_of o

  number : x.number ≡ c
  number = (k.clients c).number

  own : x.clock.client ≡ c
  own = (k.clients c).clock

  -- ---- nothing is answered

  abbrev begun_here : Begun
  begun_here = last_begun w.past.begun c

  quiet_for : (y : Client) (sent : List Message) (b : Asked) → IsTurnFor w c (sends y sent) b
  quiet_for y sent b = record {
    over = λ e l. none_some l;
    writes = λ r l. none_some l;
    begun = λ a l. none_some l;
    read = λ a l. none_some l;
    some = λ a l. none_some l;
  }

  reads_on : (pending_ask : PendingAsk) → ReadsFor w c pending_ask → (f : Phase) (sent : List Message)
      → ((v : World) → ReadsFor v c pending_ask → IsUnder v c f)
      → IsHad w c (sends (record x { phase = f }) sent)
  reads_on pending_ask u f sent is =
      let turn = sends (record x { phase = f }) sent in
      let h = quiet_for (record x { phase = f }) sent u.asked in
      let next = changed w (AtClient c turn) in
      let does : ReadsFor next c pending_ask = record {
        asked = asked_on begun_here turn u.asked;
        last = on_last o w k c q turn number own u.asked u.last u.unanswered h;
        ask = u.ask;
        principal = u.principal;
        unwritten = ap (λ (z : List Transaction). z ++ []) u.unwritten;
        unanswered = ap (λ (z : List Answer). z ++ []) u.unanswered;
        later = u.later;
      } in (
        turn_requested o w k c q turn number own u.asked u.last u.unanswered h (is next does),
        λ a l. none_some l,
      )

  writes_on : (z y : WritingState) → y.stamp ≡ z.stamp → WritesFor w c z → (f : Phase) (sent : List Message)
      → ((v : World) → WritesFor v c y → IsUnder v c f)
      → IsHad w c (sends (record x { phase = f }) sent)
  writes_on z y stamp u f sent is =
      let turn = sends (record x { phase = f }) sent in
      let h = quiet_for (record x { phase = f }) sent u.asked in
      let next = changed w (AtClient c turn) in
      let does : WritesFor next c y = record {
        asked = asked_on begun_here turn u.asked;
        last = on_last o w k c q turn number own u.asked u.last u.unanswered h;
        unanswered = ap (λ (z : List Answer). z ++ []) u.unanswered;
        by = u.by;
        written = ap (λ (z : List Transaction). z ++ []) u.written;
        at = u.at ∙ sym stamp;
        read = u.read;
        some = u.some;
      } in (
        turn_requested o w k c q turn number own u.asked u.last u.unanswered h (is next does),
        λ a l. none_some l,
      )

  -- ---- a write is over

  outcome_had : (z : WritingState) → WritesFor w c z → (tag : ℕ) (a : Answer)
      → ((ws : List Transaction) → IsOneAt z.stamp ws → HasBegun ws a) → IsHad w c (ask_ends x tag a)
  outcome_had z u tag a of =
      let turn = ask_ends x tag a in
      let h : IsTurnFor w c turn u.asked = record {
        over = λ e l. none_some l;
        writes = λ r l. none_some l;
        begun = λ d l. subst (λ (y : Answer). HasBegun (u.asked.writes ++ []) y) (some_same l)
            (of (u.asked.writes ++ [])
            (record { by = u.by; only = ap (λ (z : List Transaction). z ++ []) u.written; at = u.at }));
        read = λ d l. u.read;
        some = λ d l. u.some;
      } in (
        turn_requested o w k c q turn number own u.asked u.last u.unanswered h
            (idle_under o w k c q turn number own u.asked u.last u.unanswered h a refl),
        turn_answers o w k c q turn number own u.asked u.last u.unanswered h,
      )

  -- ---- a read is over

  module _ (pending_ask : PendingAsk) (u : ReadsFor w c pending_ask) (rows : Option (List ReadVersion)) (tag : ℕ) where
    abbrev ended : Ended
    ended = record { ask = pending_ask.viewing.ask; principal = pending_ask.principal; rows = rows }

    abbrev read_now : Read
    read_now = read_over begun_here ended

    over_here : (turn : TransitionState) → turn.over ≡ Some ended → (e : Ended) → turn.over ≡ Some e
        → (e.ask ≡ u.asked.ask) × (e.principal ≡ u.asked.principal) ×
        AreAtOrAfter begun_here.partitions u.asked.partitions
    over_here turn is e l = subst
        (λ (z : Ended). (z.ask ≡ u.asked.ask) × (z.principal ≡ u.asked.principal) ×
        AreAtOrAfter begun_here.partitions u.asked.partitions)
        (some_same (sym is ∙ l)) (sym u.ask, sym u.principal, u.later)

    last_of : (fs : List Read) → last_read (read_now ∷ fs) c ≡ Some read_now
    last_of fs = last_here c begun_here ended fs (begun_client w.past.begun c)

    read_here : (turn : TransitionState) → turn.over ≡ Some ended
        → last_read (asked_on begun_here turn u.asked).reads c ≡ last_read (reads_after w.past c turn) c
    read_here turn is =
        ap (λ (z : Option Ended). last_read (option_to_list (option_map (read_over begun_here) z) ++ u.asked.reads) c) is
        ∙ last_of u.asked.reads ∙ sym (last_of w.past.reads)
        ∙ sym (ap
        (λ (z : Option Ended). last_read (option_to_list (option_map (read_over begun_here) z) ++ w.past.reads) c) is)

    some_here : (turn : TransitionState) → turn.over ≡ Some ended → last_read (reads_after w.past c turn) c ≡ None → ⊥
    some_here turn is none = none_some (sym none
        ∙ ap (λ (z : Option Ended). last_read (option_to_list (option_map (read_over begun_here) z) ++ w.past.reads) c) is
        ∙ last_of w.past.reads)

    -- nothing is begun, and it is answered
    answers_had : (y : Client) → y.number ≡ c → y.clock.client ≡ c → (n : Option (List Note)) (a : Answer)
        → ((ws : List Transaction) → ws ≡ [] → HasBegun ws a)
        → IsHad w c (with_past (ask_ends y tag a) (Some ended) n)
    answers_had y ny oy n a none =
        let turn = with_past (ask_ends y tag a) (Some ended) n in
        let h : IsTurnFor w c turn u.asked = record {
          over = over_here turn refl;
          writes = λ r l. none_some l;
          begun = λ d l. subst (λ (y : Answer). HasBegun (u.asked.writes ++ []) y) (some_same l)
              (none (u.asked.writes ++ []) (ap (λ (z : List Transaction). z ++ []) u.unwritten));
          read = λ d l. read_here turn refl;
          some = λ d l. some_here turn refl;
        } in (
          turn_requested o w k c q turn ny oy u.asked u.last u.unanswered h
              (idle_under o w k c q turn ny oy u.asked u.last u.unanswered h a refl),
          turn_answers o w k c q turn ny oy u.asked u.last u.unanswered h,
        )

    -- another read begins
    reads_again : ((p : ℕ) → BeganFrom w begun_here.partitions p) → (later : ViewingState) (items : List ℕ)
        → later.ask ≡ pending_ask.viewing.ask
        → IsHad w c (record (read_begins t x tag (record { viewing = later; principal = pending_ask.principal }) items)
        { over = Some ended })
    reads_again began later items same =
        let turn : TransitionState = record (read_begins t x tag (record { viewing = later; principal = pending_ask.principal }) items)
        { over = Some ended } in
        let h : IsTurnFor w c turn u.asked = record {
          over = over_here turn refl;
          writes = λ r l. none_some l;
          begun = λ a l. none_some l;
          read = λ a l. none_some l;
          some = λ a l. none_some l;
        } in
        let next = changed w (AtClient c turn) in
        let here_now : (last_begun next.past.begun c).partitions ≡ w.now.partitions = ap
        (λ (f : Bool). (cond f
        (let s : Begun = record { client = c; nth = nth_after w.past c (Some ended); partitions = w.now.partitions } in s)
        begun_here).partitions) (self_eqb c) in
        let does : ReadsFor next c (record { viewing = later; principal = pending_ask.principal }) = record {
          asked = asked_on begun_here turn u.asked;
          last = on_last o w k c q turn number own u.asked u.last u.unanswered h;
          ask = u.ask ∙ sym same;
          principal = u.principal;
          unwritten = ap (λ (z : List Transaction). z ++ []) u.unwritten;
          unanswered = ap (λ (z : List Answer). z ++ []) u.unanswered;
          later = subst (λ (z : List PartitionState). AreAtOrAfter z u.asked.partitions) (sym here_now)
              (λ p. let d = u.later p in let f = began p in (
                d.0 ++ f.more,
                f.is ∙ ap (λ (z : List Mark). z ++ f.more) d.1
                    ∙ append_assoc (history_in u.asked.partitions p) d.0 f.more,
              ));
        } in (
          turn_requested o w k c q turn number own u.asked u.last u.unanswered h does,
          λ a l. none_some l,
        )

    module _ (y : Client) (ny : y.number ≡ c) (oy : y.clock.client ≡ c) (n : Option (List Note)) (permit : PermitState)
        (ask_is : permit.view.ask ≡ pending_ask.viewing.ask) (principal_is : permit.principal ≡ pending_ask.principal) where
      abbrev noting : TransitionState → TransitionState
      noting turn = with_past turn (Some ended) n

      write_had : (v : Client) → v.number ≡ c → v.clock.client ≡ c → (stamp : ℕ)
          → IsHad w c (noting (write_begins t v tag permit stamp))
      write_had v nv ov stamp =
          let turn = noting (write_begins t v tag permit stamp) in
          let r : Transaction = record {
            client = v.number;
            tag = tag + 1;
            stamp = stamp;
            permit = permit;
            writes = effect_of permit stamp;
          } in
          let h : IsTurnFor w c turn u.asked = record {
            over = over_here turn refl;
            writes = λ s l. subst
                (λ (z : Transaction). (u.asked.writes ≡ []) × (z.client ≡ c) × (z.permit.view.ask ≡ u.asked.ask) ×
                (z.permit.principal ≡ u.asked.principal))
                (some_same l)
                (u.unwritten, nv, ask_is ∙ sym u.ask, principal_is ∙ sym u.principal);
            begun = λ a l. none_some l;
            read = λ a l. none_some l;
            some = λ a l. none_some l;
          } in
          let next = changed w (AtClient c turn) in
          let does : WritesFor next c (round_for t v tag permit stamp) = record {
            asked = asked_on begun_here turn u.asked;
            last = on_last o w k c q turn nv ov u.asked u.last u.unanswered h;
            unanswered = ap (λ (z : List Answer). z ++ []) u.unanswered;
            by = r;
            written = ap (λ (z : List Transaction). z ++ r ∷ []) u.unwritten;
            at = refl;
            read = read_here turn refl;
            some = some_here turn refl;
          } in (
            turn_requested o w k c q turn nv ov u.asked u.last u.unanswered h does,
            λ a l. none_some l,
          )

      abbrev drawn : Client
      drawn = record y { clock = clock_after_next y.clock }

      drawn_own : drawn.clock.client ≡ c
      drawn_own = next_client y.clock ∙ oy

      draws_had : (f : Result ℕ Refusal) → IsHad w c (noting (draws_by t drawn tag permit f))
      draws_had (Ok stamp) = go (is_full_for permit stamp)
        where
          go : (f : Bool) → IsHad w c (noting (writes_unless t drawn tag permit stamp f))
          go true = answers_had drawn ny drawn_own n (answer.Refused refusal.AlbumFull) (λ ws e. e)
          go false = write_had drawn ny drawn_own stamp
      draws_had (Err why) = answers_had drawn ny drawn_own n (answer.Refused why) (λ ws e. e)

      grants_had : (f : Option Served) → IsHad w c (noting (grants t y tag permit f))
      grants_had (Some served) = answers_had y ny oy n (answer.Served served) (λ ws e. e)
      grants_had None = draws_had (next_of y.clock)

      rules_had : (f : Finding) → IsHad w c (noting (rules_by t y tag permit f))
      rules_had finding.Granted = grants_had (served_for permit permit.view.ask)
      rules_had (finding.Denied reasons) = answers_had y ny oy n (answer.Denied reasons) (λ ws e. e)
      rules_had (finding.Missing object) = answers_had y ny oy n (answer.Missing object) (λ ws e. e)

    again_had : ((p : ℕ) → BeganFrom w begun_here.partitions p) → (items : List ℕ)
        → IsHad w c (read_ends t x tag pending_ask rows (again pending_ask.viewing items))
    again_had began items = go (nat_le MAX_READS (pending_ask.viewing.reads + 1))
      where
        go : (f : Bool) → IsHad w c (read_ends t x tag pending_ask rows
            (if f then Busy Rounds
            else Again (record { ask = pending_ask.viewing.ask; reads = pending_ask.viewing.reads + 1 }) items))
        go true = answers_had x number own None (answer.Busy Rounds) (λ ws e. e)
        go false = reads_again began (record { ask = pending_ask.viewing.ask; reads = pending_ask.viewing.reads + 1 }) items refl

  done_had : (pending_ask : PendingAsk) → ReadsFor w c pending_ask → ((p : ℕ) → BeganFrom w begun_here.partitions p) → (tag : ℕ)
      → (rows : List ReadVersion) → IsHad w c (read_ends t x tag pending_ask (Some rows) (viewed (looker_of t.policy pending_ask.principal) pending_ask.viewing rows))
  done_had pending_ask u began tag rows = go (is_closed (looker_of t.policy pending_ask.principal) pending_ask.viewing.ask rows)
    where
      wide : (f : Bool) → IsHad w c (read_ends t x tag pending_ask (Some rows)
          (if f then Busy Wide else again pending_ask.viewing (names_of rows (looker_of t.policy pending_ask.principal) pending_ask.viewing.ask)))
      wide true = answers_had pending_ask u (Some rows) tag x number own None (answer.Busy Wide) (λ ws e. e)
      wide false = again_had pending_ask u (Some rows) tag began (names_of rows (looker_of t.policy pending_ask.principal) pending_ask.viewing.ask)

      go : (f : Bool) → IsHad w c (read_ends t x tag pending_ask (Some rows)
          (if f then Closed (record { looker = looker_of t.policy pending_ask.principal; ask = pending_ask.viewing.ask; rows = rows }) else
          (if nat_lt MAX_READ_ITEMS (length (names_of rows (looker_of t.policy pending_ask.principal) pending_ask.viewing.ask)) then Busy Wide else again
          pending_ask.viewing (names_of rows (looker_of t.policy pending_ask.principal) pending_ask.viewing.ask))))
      go true =
          let basis = basis_on t.policy pending_ask.principal rows in
          rules_had pending_ask u (Some rows) tag (record x { clock = clock_after_rows (clock_after_reach x.clock t.first) rows }) number
          (rows_client (clock_after_reach x.clock t.first) rows ∙ own) (Some (notes_of basis pending_ask.viewing.ask))
          (record {
            view = record { looker = looker_of t.policy pending_ask.principal; ask = pending_ask.viewing.ask; rows = rows };
            principal = pending_ask.principal;
            policy = t.policy;
          }) refl refl (ruling_of basis pending_ask.viewing.ask)
      go false = wide (nat_lt MAX_READ_ITEMS (length (names_of rows (looker_of t.policy pending_ask.principal) pending_ask.viewing.ask)))

  reading_had : (pending_ask : PendingAsk) → ReadsFor w c pending_ask → ((p : ℕ) → BeganFrom w begun_here.partitions p) → (tag : ℕ)
      → (s : Step) → IsHad w c (read_transition t x tag pending_ask s)
  reading_had pending_ask u began tag (Same round) = reads_on pending_ask u (phase.Reads pending_ask round) [] (λ v d. d)
  reading_had pending_ask u began tag (Next round sent) = reads_on pending_ask u (phase.Reads pending_ask round) sent (λ v d. d)
  reading_had pending_ask u began tag (Done rows) = done_had pending_ask u began tag rows
  reading_had pending_ask u began tag (Gone items) = again_had pending_ask u None tag began items

  -- ---- a message in a write

  preparing_had : (z : WritingState) → WritesFor w c z → (from : Node) (what : WriteReply)
      → IsHad w c (prepare_transition x z.tag (prepares_by z from what))
  preparing_had z u from write_reply.Prepared = go (answered_by z from).outstanding
    where
      go : (outstanding : List ℕ) → IsHad w c (prepare_transition x z.tag (prepares_left (answered_by z from) outstanding))
      go [] = writes_on z (commit_round (answered_by z from)) refl u (phase.Commits (commit_round (answered_by z from)))
          (commits_of (commit_round (answered_by z from))) (λ v d. d)
      go (p ∷ ps) = writes_on z (answered_by z from) refl u (phase.Prepares (answered_by z from)) [] (λ v d. d)
  preparing_had z u from write_reply.Discarded = outcome_had z u z.tag (answer.Aborted z.stamp) (λ ws e. e)
  preparing_had z u from write_reply.Full = outcome_had z u z.tag (answer.Unsettled z.stamp refusal.Full) (λ ws e. e)
  preparing_had z u from write_reply.Committed = writes_on z z refl u (phase.Prepares z) [] (λ v d. d)
  preparing_had z u from write_reply.Nothing = writes_on z z refl u (phase.Prepares z) [] (λ v d. d)

  committing_had : (z : WritingState) → WritesFor w c z → (from : Node) (what : WriteReply)
      → IsHad w c (commit_transition x z.tag (commits_by z from what))
  committing_had z u from write_reply.Committed = go (answered_by z from).outstanding
    where
      go : (outstanding : List ℕ) → IsHad w c (commit_transition x z.tag (commits_left (answered_by z from) outstanding))
      go [] = outcome_had z u z.tag (answer.Committed (answered_by z from).stamp) (λ ws e. e)
      go (p ∷ ps) = writes_on z (answered_by z from) refl u (phase.Commits (answered_by z from)) [] (λ v d. d)
  committing_had z u from write_reply.Prepared = writes_on z z refl u (phase.Commits z) [] (λ v d. d)
  committing_had z u from write_reply.Discarded = writes_on z z refl u (phase.Commits z) [] (λ v d. d)
  committing_had z u from write_reply.Full = writes_on z z refl u (phase.Commits z) [] (λ v d. d)
  committing_had z u from write_reply.Nothing = writes_on z z refl u (phase.Commits z) [] (λ v d. d)

  -- ---- a request

  -- it is the client's last one, and its read begins with the partitions as they are
  asked_had : (tag : ℕ) (b : Asked) → last_asked w.past.asked c ≡ Some b → b.writes ≡ [] → b.answers ≡ []
      → b.partitions ≡ w.now.partitions → (pending_ask : PendingAsk) → b.ask ≡ pending_ask.viewing.ask
      → b.principal ≡ pending_ask.principal → (items : List ℕ) → IsHad w c (read_begins t x tag pending_ask items)
  asked_had tag b last unwritten unanswered at pending_ask ask principal items =
      let turn = read_begins t x tag pending_ask items in
      let h : IsTurnFor w c turn b = record {
        over = λ e l. none_some l;
        writes = λ r l. none_some l;
        begun = λ a l. none_some l;
        read = λ a l. none_some l;
        some = λ a l. none_some l;
      } in
      let next = changed w (AtClient c turn) in
      let here_now : (last_begun next.past.begun c).partitions ≡ w.now.partitions = ap
      (λ (f : Bool). (cond f
      (let s : Begun = record { client = c; nth = 1; partitions = w.now.partitions } in s) begun_here).partitions)
      (self_eqb c) in
      let does : ReadsFor next c pending_ask = record {
        asked = asked_on begun_here turn b;
        last = on_last o w k c q turn number own b last unanswered h;
        ask = ask;
        principal = principal;
        unwritten = ap (λ (z : List Transaction). z ++ []) unwritten;
        unanswered = ap (λ (z : List Answer). z ++ []) unanswered;
        later = subst (λ (z : List PartitionState). AreAtOrAfter z b.partitions) (sym here_now)
            (subst (λ (z : List PartitionState). AreAtOrAfter w.now.partitions z) (sym at)
            (λ p. ([], sym (append-nil _))));
      } in (
        turn_requested o w k c q turn number own b last unanswered h does,
        λ a l. none_some l,
      )

-- ---- where no client has its turn

-- what partitions have, what was sent and who was stopped is nothing to requests
module _ (w : World) (q : IsRequested w) (partitions : List PartitionState) (messages : List Message)
    (stopped : List ℕ) where
  abbrev alike : World
  alike = record {
    now = record w.now { partitions = partitions; messages = messages; stopped = stopped };
    past = w.past;
  }

  alike_lasts : Lasts w alike
  alike_lasts = record { transactions = λ r i. i; reads = λ f i. i; given = λ x i. i }

  alike_writes : (c : ℕ) (z : WritingState) → WritesFor w c z → WritesFor alike c z
  alike_writes c z u = record {
    asked = u.asked;
    last = u.last;
    unanswered = u.unanswered;
    by = u.by;
    written = u.written;
    at = u.at;
    read = u.read;
    some = u.some;
  }

  alike_under : (c : ℕ) (f : Phase) → IsUnder w c f → IsUnder alike c f
  alike_under c (phase.Idle tag) u = u
  alike_under c (phase.Reads pending_ask round) u = record {
    asked = u.asked;
    last = u.last;
    ask = u.ask;
    principal = u.principal;
    unwritten = u.unwritten;
    unanswered = u.unanswered;
    later = u.later;
  }
  alike_under c (phase.Prepares z) u = alike_writes c z u
  alike_under c (phase.Commits z) u = alike_writes c z u

  still_requested : IsRequested alike
  still_requested = record {
    alone = λ a i. alone_lasts w alike alike_lasts a (q.alone a i);
    given = λ x i. let d = q.given x i in
        record { asked = d.asked; made = d.made; answers = d.answers; is = d.is };
    begun = λ r i. let d = q.begun r i in record { asked = d.asked; made = d.made; writes = d.writes };
    turns = q.turns;
    at = λ c. alike_under c (client_at w.now.clients c).phase (q.at c);
  }

-- a request more, which its client is to have its turn for
module _ (w : World) (q : IsRequested w) (c : ℕ) (who : Principal) (ask : Ask)
    (idle : (a : Asked) → last_asked w.past.asked c ≡ Some a → length a.answers ≡ 1) where
  abbrev request : Asked
  request = new_request w c who ask

  abbrev more : World
  more = requested w (event.Ask c who ask)

  more_lasts : Lasts w more
  more_lasts = record { transactions = λ r i. i; reads = λ f i. i; given = λ x i. i }

  beside_last : (d : ℕ) → eqb c d ≡ false → last_asked more.past.asked d ≡ last_asked w.past.asked d
  beside_last d ne = ap (λ (f : Bool). if f then Some request else last_asked w.past.asked d) ne

  writes_more : (d : ℕ) → eqb c d ≡ false → (z : WritingState) → WritesFor w d z → WritesFor more d z
  writes_more d ne z u = record {
    asked = u.asked;
    last = beside_last d ne ∙ u.last;
    unanswered = u.unanswered;
    by = u.by;
    written = u.written;
    at = u.at;
    read = u.read;
    some = u.some;
  }

  under_more : (d : ℕ) → eqb c d ≡ false → (f : Phase) → IsUnder w d f → IsUnder more d f
  under_more d ne (phase.Idle tag) u = λ a e. u a (sym (beside_last d ne) ∙ e)
  under_more d ne (phase.Reads pending_ask round) u = record {
    asked = u.asked;
    last = beside_last d ne ∙ u.last;
    ask = u.ask;
    principal = u.principal;
    unwritten = u.unwritten;
    unanswered = u.unanswered;
    later = u.later;
  }
  under_more d ne (phase.Prepares z) u = writes_more d ne z u
  under_more d ne (phase.Commits z) u = writes_more d ne z u

  new_alone : IsAlone more request
  new_alone = record {
    reads = λ f i. in_nil i;
    writes = λ r i. in_nil i;
    one_write = omega arith;
    one_answer = omega arith;
    answers = λ x i. in_nil i;
  }

  requested_but : IsRequestedBut more c
  requested_but = record {
    alone = λ a i. ⊎_elim
        (λ (e : a ≡ request). subst (IsAlone more) (sym e) new_alone)
        (λ j. alone_lasts w more more_lasts a (q.alone a j))
        (in_uncons i);
    given = λ x i. let d = q.given x i in
        record { asked = d.asked; made = there d.made; answers = d.answers; is = d.is };
    begun = λ r i. let d = q.begun r i in
        record { asked = d.asked; made = there d.made; writes = d.writes };
    turns = (λ b i e. all_answered w.past.asked c q.turns idle b i e, q.turns);
    at = λ d ne. under_more d ne (client_at w.now.clients d).phase (q.at d);
  }

  request_last : last_asked more.past.asked c ≡ Some request
  request_last = ap (λ (f : Bool). if f then Some request else last_asked w.past.asked c) (self_eqb c)

-- ---- at each event

-- the answer of the change is to the last request of its client
abbrev pub AnswersLast : World → Change → Type 0
AnswersLast next Nothing = Unit {0}
AnswersLast next (AtPart p h sent) = Unit {0}
AnswersLast next (AtClient c t) = (x : Answer) → t.answer ≡ Some x → IsAnsweredLast next c x
AnswersLast next (Stops c) = Unit {0}

abbrev pub IsKeptBy : World → Event → Result Change Refusal → Type 0
IsKeptBy w e (Ok ch) =
    IsRequested (changed (requested w e) ch) × AnswersLast (changed (requested w e) ch) ch
IsKeptBy w e (Err r) = IsRequested w

module _ (o : Opening) (some : 0 < o.parts) (w : World) (k : IsKept o w) (q : IsRequested w) where
  abbrev ts : Terms
  ts = terms_of o

  but : (c : ℕ) → IsRequestedBut w c
  but c = record { alone = q.alone; given = q.given; begun = q.begun; turns = q.turns; at = λ d ne. q.at d }

  unless_by : (e : Event) (f : Bool) (r : Refusal) (g : Result Change Refusal) → IsKeptBy w e g
      → IsKeptBy w e (if f then Err r else g)
  unless_by e true r g h = q
  unless_by e false r g h = h

  asks_had : (c : ℕ) (who : Principal) (ask : Ask) (f : Phase) → IsUnder w c f
      → IsKeptBy w (event.Ask c who ask) (asks_by ts c (client_at w.now.clients c) who ask f)
  asks_had c who ask (phase.Idle tag) u = go (refusal_of ask who)
    where
      go : (f : Option Refusal) → IsKeptBy w (event.Ask c who ask) (asks_unless ts c (client_at w.now.clients c) tag who ask f)
      go (Some r) = q
      go None = asked_had o (requested w (event.Ask c who ask)) (request_kept o w k (new_request w c who ask)) c
          (requested_but w q c who ask u) tag (new_request w c who ask) (request_last w q c who ask u) refl refl refl
          (record { viewing = record { ask = ask; reads = 0 }; principal = who }) refl refl (objects_of ask)
  asks_had c who ask (phase.Reads v r) u = q
  asks_had c who ask (phase.Prepares z) u = q
  asks_had c who ask (phase.Commits z) u = q

  client_had : (c : ℕ) (m : Message) (f : Phase)
      → IsDoing o w c (last_begun w.past.begun c).partitions f → IsUnder w c f
      → IsRequested (changed w (client_takes_by ts c (client_at w.now.clients c) m f)) ×
      AnswersLast (changed w (client_takes_by ts c (client_at w.now.clients c) m f))
      (client_takes_by ts c (client_at w.now.clients c) m f)
  client_had c m (phase.Idle tag) kept u = (q, tt)
  client_had c m (phase.Reads pending_ask r) kept u = reading_had o w k c (but c) pending_ask u kept.begun r.asker.tag
      (stepped r m)
  client_had c m (phase.Prepares z) kept u = preparing_had o w k c (but c) z u m.from (reply_in z m)
  client_had c m (phase.Commits z) kept u = committing_had o w k c (but c) z u m.from (reply_in z m)

  arrival_had : (n : ℕ) (m : Message) (to : Node) → IsKeptBy w (event.Deliver n) (Ok (arrives ts w.now m to))
  arrival_had n m (Part p) = go (slice_get w.now.partitions p)
    where
      go : (f : Option PartitionState) → IsKeptBy w (event.Deliver n) (Ok (part_takes p m f))
      go None = (q, tt)
      go (Some h) = (still_requested w q _ _ w.now.stopped, tt)
  arrival_had n m (ToClient c) = go (is_stopped w.now c)
    where
      go : (f : Bool) → IsKeptBy w (event.Deliver n)
          (Ok (if f then Nothing else client_takes_by ts c (client_at w.now.clients c) m
          (client_at w.now.clients c).phase))
      go true = (q, tt)
      go false = client_had c m (client_at w.now.clients c).phase (k.clients c).phase (q.at c)

  delivery_had : (n : ℕ) (f : Option Message) → IsKeptBy w (event.Deliver n) (delivers ts w.now f)
  delivery_had n None = q
  delivery_had n (Some m) = arrival_had n m m.to

  sweep_had : (p s : ℕ) (f : Option PartitionState) → IsKeptBy w (event.Sweep p s) (sweeps p s f)
  sweep_had p s None = q
  sweep_had p s (Some h) = go (swept h s)
    where
      go : (r : Result (List Message) Refusal)
          → IsKeptBy w (event.Sweep p s) (r >>= λ messages. Ok (AtPart p h messages))
      go (Ok messages) = (still_requested w q _ _ w.now.stopped, tt)
      go (Err r) = q

  trim_had : (p i : ℕ) (f : Option PartitionState) → IsKeptBy w (event.Trim p i) (trims p i f)
  trim_had p i None = q
  trim_had p i (Some h) = go (trimmed h i)
    where
      go : (r : Result PartitionState Refusal)
          → IsKeptBy w (event.Trim p i) (r >>= λ changed. Ok (AtPart p changed []))
      go (Ok h) = (still_requested w q _ _ w.now.stopped, tt)
      go (Err r) = q

  pub event_had : (e : Event) → IsKeptBy w e (change_of ts w.now e)
  event_had (event.Ask c who ask) =
      unless_by (event.Ask c who ask) (not (is_client c)) refusal.BadRequest _
      (unless_by (event.Ask c who ask) (is_stopped w.now c) refusal.Stopped _
      (asks_had c who ask (client_at w.now.clients c).phase (q.at c)))
  event_had (event.Deliver n) = delivery_had n (message_of w.now.messages n)
  event_had (event.Sweep p s) = sweep_had p s (slice_get w.now.partitions p)
  event_had (event.Stop c) = unless_by (event.Stop c) (is_stopped w.now c) refusal.Stopped (Ok (Stops c))
      (still_requested w q w.now.partitions w.now.messages _, tt)
  event_had (event.Trim p i) = trim_had p i (slice_get w.now.partitions p)

  last_of_change : (next : World) (ch : Change) (c : ℕ) (a : Answer) → AnswersLast next ch → GivesAnswer ch c a
      → IsAnsweredLast next c a
  last_of_change next Nothing c a h s = absurd s
  last_of_change next (AtPart p m sent) c a h s = absurd s
  last_of_change next (AtClient d ts) c a h s = subst (λ (z : ℕ). IsAnsweredLast next z a) (sym s.0) (h a s.1)
  last_of_change next (Stops d) c a h s = absurd s

  -- an answer that the event outputs is to the last request of its client
  pub answers_last : (e : Event) (c : ℕ) (a : Answer) → Contains (event_outputs ts w e) (out.Answered c a)
      → IsAnsweredLast (happens ts w e) c a
  answers_last e c a h = go (change_of ts w.now e) (event_had e) (within _ h)
    where
      go : (f : Result Change Refusal) → IsKeptBy w e f → In (out.Answered c a) (outs_by w.now f)
          → IsAnsweredLast (changed_by w e f) c a
      go (Ok ch) kept i = last_of_change (changed (requested w e) ch) ch c a kept.1 (answer_of_change w.now ch c a i)
      go (Err r) kept i = in_nil i

  pub event_requested : (e : Event) → IsRequested (happens ts w e)
  event_requested e = go (change_of ts w.now e) (event_had e)
    where
      go : (f : Result Change Refusal) → IsKeptBy w e f → IsRequested (changed_by w e f)
      go (Ok ch) h = h.0
      go (Err r) h = h

run_requested : (o : Opening) → 0 < o.parts → (w : World) → IsKept o w → IsRequested w → (es : List Event)
    → IsRequested (run (terms_of o) w es)
run_requested o some w k q [] = q
run_requested o some w k q (e ∷ es) = run_requested o some (happens (terms_of o) w e) (event_kept o some w k e)
    (event_requested o some w k q e) es

pub always_requested : (o : Opening) (es : List Event) → is_base_opening o ≡ true → IsRequested (run_of o es)
always_requested o es is =
    let d = opening_is o is in
    run_requested o d.some (start o) (start_kept o d)
    (record {
      alone = λ a h. in_nil h;
      given = λ x h. in_nil h;
      begun = λ r h. in_nil h;
      turns = tt;
      at = λ c. λ a e. none_some e;
    }) es
