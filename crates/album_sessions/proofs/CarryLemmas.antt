-- What a reply in a write leads to: `prepared_on` and `committed_on`.
use Rattle.std.proofs.Common.{◌≡◌, ℕ, List, [], All, Some, None, refl, sym, ap, ◌∙◌, subst, arith}
use Rattle.album_calls.specs.declared.messages.Message.{Message}
use Rattle.album_client.specs.Clients.{Client}
use Rattle.album_client.specs.Transitions.{IsMoved}
use Rattle.album_client.specs.Steps.{prepare_transition, commit_transition, answer_of}
use Rattle.album_client.specs.declared.clients.Phase.{Phase}
use Rattle.album_client.specs.declared.clients.Phase.TheVariants as phase
use Rattle.album_client.specs.declared.transitions.Transition.{Transition}
use Rattle.album_eval.specs.declared.policies.Policy.{Policy}
use Rattle.album_passes.specs.Cuts.{Cut, announced_for, IsPreparedThroughout, Extends}
use Rattle.album_passes.proofs.CutLemmas.{extends_self, extends_trans}
use Rattle.album_permits.specs.Permits.{PermitState}
use Rattle.album_sessions.specs.Asks.{IsOn}
use Rattle.album_grounds.specs.Grounds.{write_of}
use Rattle.album_keepers.specs.Envelopes.{Shows}
use Rattle.album_sessions.specs.Phases.{Outset, IsPreparing, IsCommitting, IsPhase, IsUnderWay}
use Rattle.album_keepers.specs.Replies.{IsReplied}
use Rattle.album_sessions.specs.Resting.{IsBegun, RestsOn}
use Rattle.album_sessions.specs.Sessions.{SessionState}
use Rattle.album_sessions.specs.Steps.{client_step_in}
use Rattle.album_grounds.specs.Writes.{IsBegunOn, AreCommits, IsEndOf, PrepareShows, CommitShows, IsCommittedAt}
use Rattle.album_sessions.proofs.BegunLemmas.{begun_more, ends_rest}
use Rattle.album_sessions.proofs.TransitionLemmas.{IsNoted, IsMovedOn, on_heard, heard_same, goes_plain, goes_sent}
use Rattle.album_sessions.proofs.TransitionLemmas.IsMovedOn.{Told}
use Rattle.album_sessions.proofs.SendLemmas.{commits_plain, some_commits}
use Rattle.album_grounds.proofs.WriteLemmas.{prepare_tells, commit_tells, begun_further, end_all, prepared_all, shows_commits}
use Rattle.album_writer.specs.Rounds.{WriteStep, prepare_stepped, commit_stepped}
use Rattle.album_writer.specs.Rounds.WriteStep.{Waits as Still, Commits as Decides, Ends as IsDone}
use Rattle.album_sessions.specs.Sending.{to_announce}
use Rattle.album_writer.specs.Writing.{WritingState, commit_round, commits_of, places_in}
use Rattle.album_writer.specs.declared.outcomes.Outcome.{Outcome}

module _ (limit : ℕ) (policy : Policy) (o : Outset) (now next noted : SessionState) (at : Cut) (sent : List Message)
    (transition : Transition)
    (N : IsNoted o now next noted transition) (since : Extends at now.cut) (begun : WritingState)
    (granted_before : IsBegun policy o.principal o.ask o.session now begun.stamp (λ permit. permit ≡ begun.permit))
  where
    abbrev After : Type 0
    After = IsMovedOn limit policy o noted at sent transition

    abbrev d : Cut
    d = next.cut

    on_next : IsOn o.session next
    on_next = on_heard o.session now next N.on N.heard

    along : Extends at d
    along = extends_trans at now.cut d since N.heard.grown

    granted : IsBegun policy o.principal o.ask o.session next begun.stamp (λ permit. permit ≡ begun.permit)
    granted =
        begun_more policy o now next begun.stamp (λ permit. permit ≡ begun.permit) N.heard.share N.heard.counter
        N.on.client N.heard.silent N.on.grown N.heard.grown
        N.sound_before N.heard.sound granted_before

    announced : announced_for d begun.stamp ≡ Some (write_of begun.permit begun.stamp)
    announced = granted.holds.2.0.announced ∙ ap (λ (p : PermitState). Some (write_of p begun.stamp)) granted.holds.2.1

    -- of a write nothing more is noted, and the clock stays
    module _ (none : transition.notes.items ≡ []) (clock : transition.client.clock.counter ≡ next.counter) where
      same : noted ≡ next
      same = heard_same o now next noted transition N none clock

      -- the answer says how it ended
      ends : (out : Outcome) → IsEndOf limit d begun out → transition.answer ≡ Some (answer_of out) → After
      ends out e is =
          Told (answer_of out) is
          (subst (λ (s : SessionState). RestsOn limit policy o.principal o.ask o.session s (answer_of out)) (sym same)
          (ends_rest policy o next limit begun granted out e))

      -- the round waits for more
      waits : (n : Phase) → transition.answer ≡ None → transition.client.phase ≡ n → transition.sent.items ≡ []
          → IsPhase policy o next at sent n → After
      waits n quiet is empty w =
          goes_plain limit policy o noted at sent transition quiet [] empty refl (λ k l e. absurd (omega arith))
          (subst (λ (z : SessionState × Phase). IsUnderWay policy o z.0 at sent z.1) (λ i. (sym same i, sym is i))
          (record { taken = N.taken; on = on_next; sound = N.heard.sound; phase = w }))

      -- each participant has prepared
      decides : (other : WritingState) (messages : List Message) → IsBegunOn at begun → AreCommits d begun other messages
          → transition.answer ≡ None → transition.client.phase ≡ phase.Commits other → transition.sent.items ≡ messages → After
      decides other messages over are quiet is sends =
          goes_sent limit policy o noted at sent transition quiet (commits_of commits) (sends ∙ are.messages_are)
          (some_commits commits over.some)
          (ap (to_announce (commits_of commits)) is ∙ commits_plain (commits_of commits) other)
          (subst (λ (e : Cut). All (Shows e) (commits_of commits)) (sym N.cut) (shows_commits d commits throughout))
          (subst (λ (z : SessionState × Phase). IsUnderWay policy o z.0 z.0.cut (commits_of commits) z.1)
          (λ i. (sym same i, sym is i))
          (record {
            taken = N.taken;
            on = on_next;
            sound = N.heard.sound;
            phase = record {
              begun = begun;
              granted = granted;
              since = extends_self d;
              carried = record {
                next = other;
                prepared = subst (λ (ms : List Message). AreCommits d begun other ms) are.messages_are are;
                parts = over.parts ∙ sym along.parts;
                checked = over.checked ∙ sym along.checked;
                asks = sym (ap commits_of are.next_is);
                further = begun_further other (IsCommittedAt d other)
                    (subst (λ (v : WritingState). v.outstanding ≡ places_in v) (sym are.next_is) refl);
              };
            };
          }))
        where
          commits : WritingState
          commits = commit_round begun

          throughout : IsPreparedThroughout d begun.stamp
          throughout = prepared_all d begun (over.parts ∙ sym along.parts) over.some_parts announced are.prepared

    prepares : (writing : WritingState) → IsPreparing at now.cut sent begun writing → (f : WriteStep)
        → PrepareShows limit d begun f
        → IsMoved (prepare_transition (client_step_in next) writing.tag f) transition → After
    prepares writing w (Still other) tells is =
        waits is.noted (ap (λ (z : Client). z.clock.counter) is.client) (phase.Prepares other) is.answer
        (ap (λ (z : Client). z.phase) is.client) is.sent
        (record {
          begun = begun;
          granted = granted;
          since = along;
          carried = record
              { over = w.over; asks = w.asks; further = tells };
        })
    prepares writing w (Decides other messages) tells is =
        decides is.noted (ap (λ (z : Client). z.clock.counter) is.client) other messages w.over tells is.answer
        (ap (λ (z : Client). z.phase) is.client) is.sent
    prepares writing w (IsDone out) tells is =
        ends is.noted (ap (λ (z : Client). z.clock.counter) is.client) out tells is.answer

    commits : (writing : WritingState) → (w : IsCommitting at now.cut sent begun writing) → (f : WriteStep)
        → CommitShows d w.next f
        → IsMoved (commit_transition (client_step_in next) writing.tag f) transition → After
    commits writing w (Still other) tells is =
        waits is.noted (ap (λ (z : Client). z.clock.counter) is.client) (phase.Commits other) is.answer
        (ap (λ (z : Client). z.phase) is.client) is.sent
        (record {
          begun = begun;
          granted = granted;
          since = along;
          carried = record { next = w.next; prepared = w.prepared; parts = w.parts; checked = w.checked; asks = w.asks; further = tells };
        })
    commits writing w (Decides other messages) tells is = absurd tells
    commits writing w (IsDone out) tells is =
        ends is.noted (ap (λ (z : Client). z.clock.counter) is.client) out
        (end_all limit at d begun w.next w.prepared along w.parts w.checked out tells) is.answer

    -- what a reply leads to
    pub prepared_on : (writing : WritingState) (m : Message) → IsPreparing at now.cut sent begun writing
        → IsReplied limit at d sent m
        → IsMoved (prepare_transition (client_step_in next) writing.tag (prepare_stepped writing m)) transition → After
    prepared_on writing m w r is =
        prepares writing w (prepare_stepped writing m)
        (prepare_tells limit at now.cut d begun m N.heard.grown N.heard.sound (w.over.parts ∙ sym along.parts)
        (subst (λ (ms : List Message). IsReplied limit at d ms m) w.asks r) writing w.further) is

    pub committed_on : (writing : WritingState) (m : Message) → IsCommitting at now.cut sent begun writing
        → IsReplied limit at d sent m
        → IsMoved (commit_transition (client_step_in next) writing.tag (commit_stepped writing m)) transition → After
    committed_on writing m w r is =
        commits writing w (commit_stepped writing m)
        (commit_tells limit at now.cut d w.next m N.heard.grown
        (subst (λ (ms : List Message). IsReplied limit at d ms m) w.asks r) writing w.further) is
