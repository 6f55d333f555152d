-- What a reply has led to, once what was noted of it is in the share. The ask continues (`goes_plain`, `goes_sent`),
-- and where nothing was noted the session is as it was (`heard_same`).
use Rattle.std.proofs.Common.{◌≡◌, ℕ, ◌+◌, List, [], All, Some, None, Err, sym, ap, ◌∙◌, subst, arith}
use Rattle.album_calls.specs.declared.messages.Message.{Message}
use Rattle.album_client.specs.Clients.{IsProper}
use Rattle.album_client.specs.declared.transitions.Transition.{Transition}
use Rattle.album_eval.specs.declared.policies.Policy.{Policy}
use Rattle.album_passes.specs.Cuts.{Cut, IsSound}
use Rattle.album_passes.proofs.CutLemmas.{extends_trans}
use Rattle.album_audit.specs.Books.{ShareState}
use Rattle.album_stamps.specs.Clocks.{next_of}
use Rattle.album_stamps.specs.declared.limits.TheConstants.{MAX_COUNTER}
use Rattle.album_stamps.specs.declared.refusals.Refusal.TheVariants.{StampsSpent}
use Rattle.album_sessions.specs.Asks.{IsOn, IsHeard, AreShared}
use Rattle.album_keepers.specs.Envelopes.{Shows}
use Rattle.album_sessions.specs.Phases.{Outset, IsUnderWay}
use Rattle.album_sessions.specs.Resting.{RestsOn}
use Rattle.album_channels.specs.Sending.{announced_with, sent_last, sent_at}
use Rattle.album_sessions.specs.Sending.{to_announce, announced_by, IsFreeFor, IsFree, IsAnnouncedBy}
use Rattle.album_sessions.specs.Sessions.{SessionState, AddsNothing}
use Rattle.album_sessions.proofs.SendLemmas.{last_sent, last_at}
use Rattle.album_views.specs.Checks.{refusal_of}
use Rattle.album_permits.specs.declared.answers.Answer.{Answer}

-- An ask of a session was under way. Then a reply was heard, which led its client to this transition; that is noted.
pub record IsNoted (o : Outset) (now next noted : SessionState) (transition : Transition) : Type 0 where
  pub taken : refusal_of o.ask o.principal ≡ None
  pub on : IsOn o.session now
  pub sound_before : IsSound now.cut
  pub heard : IsHeard now next
  pub proper : IsProper transition.client.phase
  pub client : noted.client ≡ next.client
  pub counter : noted.counter ≡ transition.client.clock.counter
  pub cut : noted.cut ≡ next.cut
  pub shared : AreShared next.client next.share noted.share transition.notes.items
  pub spent : next_of transition.client.clock ≡ Err StampsSpent → transition.client.clock.counter ≡ MAX_COUNTER

-- the ask is answered, or continues once the messages are sent
pub data IsMovedOn
    (limit : ℕ) (policy : Policy) (o : Outset) (noted : SessionState) (at : Cut) (sent : List Message) (transition : Transition)
    : Type 0 where
  Told : (told : Answer) → transition.answer ≡ Some told → RestsOn limit policy o.principal o.ask o.session noted told
      → IsMovedOn limit policy o noted at sent transition
  Goes : transition.answer ≡ None → IsFree policy noted transition.sent.items transition.client.phase
      → All (Shows (announced_by noted.cut transition.sent.items transition.client.phase)) transition.sent.items
      → ((new : SessionState) → IsAnnouncedBy noted new transition.sent.items transition.client.phase
      → IsUnderWay policy o new (sent_at at new.cut transition.sent.items) (sent_last sent transition.sent.items)
      transition.client.phase)
      → IsMovedOn limit policy o noted at sent transition

-- it has seen more, and nothing else
pub on_heard : (a b c : SessionState) → IsOn a b → IsHeard b c → IsOn a c
on_heard a b c x h = record {
  client = h.client ∙ x.client;
  grown = extends_trans a.cut b.cut c.cut x.grown h.grown;
  risen = let n : c.counter ≡ b.counter = h.counter in omega (arith, n, x.risen);
  sound = h.sound;
}

-- it still has noted, drawn and announced nothing
pub adds_heard : (a b c : SessionState) → IsOn a b → AddsNothing a b → IsHeard b c → AddsNothing a c
adds_heard a b c x only h = record {
  share = h.share ∙ only.share;
  drawn = record {
    counter = h.counter ∙ only.drawn.counter;
    silent = λ t own. h.silent t (own ∙ sym x.client) ∙ only.drawn.silent t own;
  };
}

-- a share stays where nothing is noted
shared_none : (client : ℕ) (a : ShareState) → AreShared client a a []
shared_none client a = λ i. record {
  totals = record {
    audit_ok = none a.totals.audit_ok i;
    audit_failed = none a.totals.audit_failed i;
    alarm_ok = none a.totals.alarm_ok i;
    alarm_failed = none a.totals.alarm_failed i;
  };
  last = a.last;
}
  where
    none : (n : ℕ) → n ≡ n + 0
    none n = omega arith

-- nothing is noted, and the clock stays
pub heard_same : (o : Outset) (now next noted : SessionState) (transition : Transition) → IsNoted o now next noted transition
    → transition.notes.items ≡ [] → transition.client.clock.counter ≡ next.counter → noted ≡ next
heard_same o now next noted transition n none same = λ i. record {
  client = n.client i;
  counter = (n.counter ∙ same) i;
  cut = n.cut i;
  share = share i;
}
  where
    share : noted.share ≡ next.share
    share = subst (AreShared next.client next.share noted.share) none n.shared ∙ sym
        (shared_none next.client next.share)

module _ (limit : ℕ) (policy : Policy) (o : Outset) (noted : SessionState) (at : Cut) (sent : List Message)
    (transition : Transition)
    (quiet : transition.answer ≡ None) where
  -- these are sent, and none of them prepares anything
  pub goes_plain : (messages : List Message) → transition.sent.items ≡ messages → to_announce messages transition.client.phase ≡ None
      → All (Shows noted.cut) messages
      → IsUnderWay policy o noted (sent_at at noted.cut messages) (sent_last sent messages) transition.client.phase
      → IsMovedOn limit policy o noted at sent transition
  goes_plain messages e plain shown w = Goes quiet free shows goes
    where
      none : to_announce transition.sent.items transition.client.phase ≡ None
      none = ap (λ (ms : List Message). to_announce ms transition.client.phase) e ∙ plain

      free : IsFree policy noted transition.sent.items transition.client.phase
      free = subst (IsFreeFor policy noted) (sym none) (record { granted = tt; unused = tt; reached = tt })

      shows : All (Shows (announced_by noted.cut transition.sent.items transition.client.phase)) transition.sent.items
      shows = subst (λ (y : Cut × List Message). All (Shows y.0) y.1)
          (λ i. (announced_with noted.cut (sym none i), sym e i)) shown

      goes : (new : SessionState) → IsAnnouncedBy noted new transition.sent.items transition.client.phase
          → IsUnderWay policy o new (sent_at at new.cut transition.sent.items) (sent_last sent transition.sent.items)
          transition.client.phase
      goes new a =
          let cut : new.cut ≡ noted.cut = a.cut ∙ ap (announced_with noted.cut) none in
          let same : new ≡ noted = λ i. record {
            client = a.client i;
            counter = a.counter i;
            cut = cut i;
            share =
                a.share i;
          } in
          subst (λ (y : SessionState × List Message). IsUnderWay policy o y.0 (sent_at at y.0.cut y.1)
          (sent_last sent y.1) transition.client.phase)
          (λ i. (sym same i, sym e i)) w

  pub goes_sent : (messages : List Message) → transition.sent.items ≡ messages → (messages ≡ [] → ⊥)
      → to_announce messages transition.client.phase ≡ None
      → All (Shows noted.cut) messages → IsUnderWay policy o noted noted.cut messages transition.client.phase
      → IsMovedOn limit policy o noted at sent transition
  goes_sent messages e some plain shown w =
      goes_plain messages e plain shown
      (subst (λ (y : Cut × List Message). IsUnderWay policy o noted y.0 y.1 transition.client.phase)
      (λ i. (sym (last_at at noted.cut messages some) i, sym (last_sent sent messages some) i)) w)

-- ---- by what the client has come to

module _ (limit : ℕ) (policy : Policy) (o : Outset) (noted : SessionState) (at : Cut) (sent : List Message)
    (transition : Transition) where
  pub told_rests : (told : Answer) → transition.answer ≡ Some told → IsMovedOn limit policy o noted at sent transition
      → RestsOn limit policy o.principal o.ask o.session noted told
  told_rests told is (Told other same h) =
      let both : Some other ≡ Some told = sym same ∙ is in
      let one : other ≡ told = cc in
      subst (RestsOn limit policy o.principal o.ask o.session noted) one h
  told_rests told is (Goes none free shown goes) = absurd (cc)

  pub free_of : transition.answer ≡ None → IsMovedOn limit policy o noted at sent transition → IsFree policy noted transition.sent.items transition.client.phase
  free_of is (Told other same h) = absurd (cc)
  free_of is (Goes none free shown goes) = free

  pub shown_of : transition.answer ≡ None → IsMovedOn limit policy o noted at sent transition
      → All (Shows (announced_by noted.cut transition.sent.items transition.client.phase)) transition.sent.items
  shown_of is (Told other same h) = absurd (cc)
  shown_of is (Goes none free shown goes) = shown

  pub goes_of : transition.answer ≡ None → IsMovedOn limit policy o noted at sent transition
      → (new : SessionState) → IsAnnouncedBy noted new transition.sent.items transition.client.phase
      → IsUnderWay policy o new (sent_at at new.cut transition.sent.items) (sent_last sent transition.sent.items)
      transition.client.phase
  goes_of is (Told other same h) new a = absurd (cc)
  goes_of is (Goes none free shown goes) new a = goes new a
