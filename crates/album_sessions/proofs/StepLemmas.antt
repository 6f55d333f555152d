-- What a reply to a session's client leads to, by the phase that the client is in: `moved_on`. `Session::go_on` cites
-- what follows of it. `Session::give` cites `taken_so`.
use Rattle.std.proofs.Common.{◌≡◌, ℕ, ◌≤◌, true, false, List, [], Option, Some, None, Result, Ok, Err, IfOk, refl, sym, ◌∙◌, subst, arith}
use Rattle.std.specs.Option.{unwrap_or}
use Rattle.std.specs.Prelude.{IsOkAnd, IfSome, IfNone, OnErr}
use Rattle.album_calls.specs.declared.messages.Message.{Message}
use Rattle.album_client.specs.Clients.{Client, IsProper, is_reading, stamp_at_work}
use Rattle.album_client.specs.Transitions.{IsMoved}
use Rattle.album_client.specs.Terms.{Terms}
use Rattle.album_client.specs.Steps.{transition_of, prepare_transition, commit_transition}
use Rattle.album_client.specs.declared.clients.Phase.{Phase}
use Rattle.album_client.specs.declared.clients.Phase.TheVariants as phase
use Rattle.album_client.specs.declared.transitions.Transition.{Transition}
use Rattle.album_eval.specs.declared.policies.Policy.{Policy}
use Rattle.album_passes.specs.Cuts.{Cut, Extends, IsSound}
use Rattle.album_passes.proofs.CutLemmas.{extends_self}
use Rattle.album_stamps.specs.Clocks.{next_of}
use Rattle.album_stamps.specs.declared.limits.TheConstants.{MAX_COUNTER}
use Rattle.album_stamps.specs.declared.refusals.Refusal.{Refusal}
use Rattle.album_stamps.specs.declared.refusals.Refusal.TheVariants.{StampsSpent}
use Rattle.album_sessions.specs.Asks.{IsOn, IsHeard, AreShared}
use Rattle.album_sessions.specs.Hints.{is_without_view}
use Rattle.album_sessions.specs.Phases.{Outset, IsPhase, IsUnderWay}
use Rattle.album_keepers.specs.Replies.{IsReplied}
use Rattle.album_sessions.specs.Resting.{RestsOn}
use Rattle.album_channels.specs.Sending.{sent_at, sent_last}
use Rattle.album_sessions.specs.Sending.{IsAnnouncedBy}
use Rattle.album_channels.specs.Channels.{IsClosedOrOutOfMemory}
use Rattle.album_sessions.specs.Sessions.{SessionState, AddsNothing}
use Rattle.album_sessions.specs.Steps.{client_step_in, terms_in, IsTaken, IsSent, IsLed}
use Rattle.album_channels.specs.Rounds.{AskedState}
use Rattle.album_channels.specs.declared.asked.NoReply.{NoReply}
use Rattle.album_sessions.specs.declared.ask.Way.{Way}
use Rattle.album_sessions.specs.declared.ask.Way.TheVariants.{Answered, Awaits, InVain}
use Rattle.album_sessions.proofs.BegunLemmas.{cut_rests}
use Rattle.album_sessions.proofs.CarryLemmas.{prepared_on, committed_on}
use Rattle.album_sessions.proofs.ClockLemmas.{moved_clock}
use Rattle.album_sessions.proofs.TransitionLemmas.{IsNoted, IsMovedOn, adds_heard}
use Rattle.album_sessions.proofs.ReadingLemmas.{read_on}
use Rattle.album_writer.specs.Rounds.{WriteStep, prepare_stepped, commit_stepped}
use Rattle.album_writer.specs.Rounds.WriteStep.{Waits, Commits as Decides, Ends}
use Rattle.album_permits.specs.declared.answers.Answer.{Answer}
use Rattle.album_permits.specs.declared.answers.Answer.TheVariants as answer

moved_on : (limit : ℕ) (policy : Policy) (o : Outset) (now next noted : SessionState) (at : Cut) (sent : List Message) (transition : Transition)
    (d : Phase) (m : Message) → IsNoted o now next noted transition → IsPhase policy o now at sent d → IsReplied limit at next.cut sent m
    → IsMoved (transition_of (terms_in policy next) (client_step_in next) m d) transition
    → (o.hinted ≡ true → is_reading d ≡ true → is_without_view transition.sent.items transition.answer ≡ false)
    → IsMovedOn limit policy o noted at sent transition
moved_on limit policy o now next noted at sent transition (phase.Idle tag) m N w r is by = absurd w
moved_on limit policy o now next noted at sent transition (phase.Reads pending_ask round) m N w r is by =
    read_on limit policy o now next noted at sent transition N w.1 (λ hinted. by hinted refl) pending_ask round m w.0 r is
moved_on limit policy o now next noted at sent transition (phase.Prepares writing) m N w r is by =
    prepared_on limit policy o now next noted at sent transition N w.since w.begun w.granted writing m w.carried r is
moved_on limit policy o now next noted at sent transition (phase.Commits writing) m N w r is by =
    committed_on limit policy o now next noted at sent transition N w.since w.begun w.granted writing m w.carried r is

-- ---- a reply

-- it was heard, and has led to this
pub taken_so : (limit : ℕ) (at now : Cut) (sent : List Message) (terms : Terms) (x : Client) (d : Phase) (heard : Result Message NoReply) (transition : Transition)
    → IfOk heard (IsReplied limit at now sent) → IsOkAnd heard (λ reply. IsMoved (transition_of terms x reply d) transition)
    → IsTaken limit at now sent terms x d transition
taken_so limit at now sent terms x d (Ok reply) transition replied is = record { reply = reply; replied = replied; is = is }
taken_so limit at now sent terms x d (Err why) transition replied is = absurd is

-- ---- what a session has come to by it

module _ (limit : ℕ) (policy : Policy) (o : Outset) (now next noted : SessionState) (at : Cut) (sent : List Message) (d : Phase) (transition : Transition)
    (h : IsHeard now next) (t : IsTaken limit at next.cut sent (terms_in policy next) (client_step_in next) d transition)
    (client : noted.client ≡ next.client) (cut : noted.cut ≡ next.cut) (counter : noted.counter ≡ transition.client.clock.counter) where
  -- the ask is answered, or continues
  pub led_on : IsUnderWay policy o now at sent d → IsProper transition.client.phase
      → AreShared next.client next.share noted.share transition.notes.items
      → (next_of transition.client.clock ≡ Err StampsSpent → transition.client.clock.counter ≡ MAX_COUNTER)
      → (o.hinted ≡ true → is_reading d ≡ true → is_without_view transition.sent.items transition.answer ≡ false)
      → IsMovedOn limit policy o noted at sent transition
  led_on w proper shared spent by =
      moved_on limit policy o now next noted at sent transition d t.reply (record {
        taken = w.taken;
        on = w.on;
        sound_before = w.sound;
        heard = h;
        proper = proper;
        client = client;
        counter = counter;
        cut = cut;
        shared = shared;
        spent = spent;
      }) w.phase t.replied t.is by

-- a session is on from what it was as the reply was heard
pub on_moved : (limit : ℕ) (policy : Policy) (next noted : SessionState) (at : Cut) (sent : List Message) (d : Phase) (transition : Transition)
    → IsTaken limit at next.cut sent (terms_in policy next) (client_step_in next) d transition
    → noted.client ≡ next.client → noted.cut ≡ next.cut → noted.counter ≡ transition.client.clock.counter → IsSound next.cut
    → IsOn next noted
on_moved limit policy next noted at sent d transition t client cut counter s = record {
  sound = subst IsSound (sym cut) s;
  client = client;
  grown = subst (Extends next.cut) (sym cut) (extends_self next.cut);
  risen = (let k = moved_clock (terms_in policy next) (client_step_in next) t.reply d transition t.is in
      let rises : next.counter ≤ transition.client.clock.counter = k.1 in omega (arith, counter, rises));
}

-- it announces and sends
pub on_announced : (a b : SessionState) (messages : List Message) (current : Phase) → IsAnnouncedBy a b messages current → IsOn a b
on_announced a b messages current x = record {
  client = x.client;
  grown = x.grown;
  risen = let n : b.counter ≡ a.counter = x.counter in omega (arith, n);
  sound = x.sound;
}

-- what holds anyway holds of a refusal
pub on_refusal : {T E : Type 0} (r : Result T E) (P : Type 0) → P → OnErr r P
on_refusal (Ok x) P h = tt
on_refusal (Err e) P h = h

module _ (limit : ℕ) (policy : Policy) (o : Outset) where
  -- no word comes to what was under way
  pub cut_led : (now next : SessionState) (at : Cut) (sent : List Message) (d : Phase) (why : Refusal) (r : Result (Way AskedState) Refusal) → IsUnderWay policy o now at sent d
      → IsHeard now next → IsClosedOrOutOfMemory why → (stamp : Option ℕ) → stamp ≡ stamp_at_work d
      → IfSome stamp (λ t. r ≡ Ok (Answered (answer.Unsettled t why))) → IfNone stamp (r ≡ Err why) → IfOk r (IsLed limit policy o next)
  cut_led now next at sent d why r w h none (Some t) is begun before =
      subst (λ (z : Result (Way AskedState) Refusal). IfOk z (IsLed limit policy o next)) (sym begun)
      (cut_rests policy o limit now next at sent d t why w (sym is) none h.share h.counter h.silent h.grown h.sound)
  cut_led now next at sent d why r w h none None is begun before =
      subst (λ (z : Result (Way AskedState) Refusal). IfOk z (IsLed limit policy o next)) (sym before) tt

  sent_led : (asked : AskedState) (d : Phase) (messages : List Message) (new : SessionState)
      → IsUnderWay policy o new (sent_at asked.begun.cut new.cut messages) (sent_last asked.sent messages) d
      → (way : Way AskedState) → IsSent asked d messages new.cut way → IsLed limit policy o new way
  sent_led asked d messages new w (Answered told) cut =
      subst (λ (a : Answer). RestsOn limit policy o.principal o.ask o.session new a) (sym cut.is)
      (cut_rests policy o limit new new (sent_at asked.begun.cut new.cut messages) (sent_last asked.sent messages) d cut.stamp cut.why w cut.of cut.none
      refl refl (λ t own. refl) (extends_self new.cut) w.sound)
  sent_led asked d messages new w InVain sent = absurd sent
  sent_led asked d messages new w (Awaits more next) (is, sends, from) =
      subst (λ (z : Cut × List Message × Phase). IsUnderWay policy o new z.0 z.1 z.2) (λ i. (sym from i, sym sends i, sym is i)) w

  -- ---- where it is refused, nothing was noted, drawn or announced

  pub unbegun_now : (now : SessionState) (at : Cut) (sent : List Message) (d : Phase) → IsUnderWay policy o now at sent d → stamp_at_work d ≡ None
      → AddsNothing o.session now
  unbegun_now now at sent (phase.Idle tag) w e = absurd w.phase
  unbegun_now now at sent (phase.Reads pending_ask round) w e = w.phase.1
  unbegun_now now at sent (phase.Prepares writing) w e = absurd (cc)
  unbegun_now now at sent (phase.Commits writing) w e = absurd (cc)

  pub unbegun_cut : (now next : SessionState) (at : Cut) (sent : List Message) (d : Phase) (r : Result (Way AskedState) Refusal) → IsUnderWay policy o now at sent d
      → IsHeard now next → (stamp : Option ℕ) → stamp ≡ stamp_at_work d → OnErr r (stamp ≡ None) → OnErr r (AddsNothing o.session next)
  unbegun_cut now next at sent d (Ok way) w h stamp is none = tt
  unbegun_cut now next at sent d (Err why) w h stamp is none =
      adds_heard o.session now next w.on (unbegun_now now at sent d w (sym is ∙ none)) h

  -- of a write nothing is noted
  pub unbegun_noted : (now next noted : SessionState) (at : Cut) (sent : List Message) (d : Phase) (transition : Transition) → IsUnderWay policy o now at sent d
      → IsHeard now next → noted ≡ next → IsTaken limit at next.cut sent (terms_in policy next) (client_step_in next) d transition
      → (transition.notes.items ≡ [] → ⊥) → AddsNothing o.session noted
  unbegun_noted now next noted at sent (phase.Idle tag) transition w h kept t some = absurd w.phase
  unbegun_noted now next noted at sent (phase.Reads pending_ask round) transition w h kept t some =
      subst (AddsNothing o.session) (sym kept) (adds_heard o.session now next w.on w.phase.1 h)
  unbegun_noted now next noted at sent (phase.Prepares writing) transition w h kept t some =
      absurd (some (t.is.noted ∙ none (prepare_stepped writing t.reply)))
    where
      none : (f : WriteStep) → unwrap_or (prepare_transition (client_step_in next) writing.tag f).noted [] ≡ []
      none (Waits other) = refl
      none (Decides other messages) = refl
      none (Ends out) = refl
  unbegun_noted now next noted at sent (phase.Commits writing) transition w h kept t some =
      absurd (some (t.is.noted ∙ none (commit_stepped writing t.reply)))
    where
      none : (f : WriteStep) → unwrap_or (commit_transition (client_step_in next) writing.tag f).noted [] ≡ []
      none (Waits other) = refl
      none (Decides other messages) = refl
      none (Ends out) = refl

  pub unbegun_sent : (new : SessionState) (at : Cut) (sent : List Message) (d : Phase) (r : Result (Way AskedState) Refusal) → IsUnderWay policy o new at sent d
      → OnErr r (stamp_at_work d ≡ None) → OnErr r (AddsNothing o.session new)
  unbegun_sent new at sent d (Ok way) w none = tt
  unbegun_sent new at sent d (Err why) w none = unbegun_now new at sent d w none

  -- ---- where the messages are sent, the ask continues

  pub all_led : (asked : AskedState) (d : Phase) (messages : List Message) (new : SessionState)
      → IsUnderWay policy o new (sent_at asked.begun.cut new.cut messages) (sent_last asked.sent messages) d
      → (r : Result (Way AskedState) Refusal) → IfOk r (IsSent asked d messages new.cut) → IfOk r (IsLed limit policy o new)
  all_led asked d messages new w (Ok way) h = sent_led asked d messages new w way h
  all_led asked d messages new w (Err why) h = tt
