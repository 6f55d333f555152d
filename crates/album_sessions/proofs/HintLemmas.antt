-- The outcome of a read that is overtaken, and of a hint that is tried. Where they are in vain nothing was taken over
-- (`tried_so`, `given_led`); else the hint has led to a view (`view_by`). `Session::go_on` cites these, and
-- `asked_readable` for the hint that it keeps.
use Rattle.std.proofs.Common.{◌≡◌, ℕ, Bool, true, false, ◌&&◌, List, [], ◌∷◌, Option, Result, Ok, Err, IfOk, refl, sym, ap, ◌∙◌, subst}
use Rattle.std.specs.Prelude.{IfSome, IfNone}
use Rattle.std.proofs.lemmas.Bool.{and_from, and_parts, true≢false}
use Rattle.album_calls.specs.declared.messages.Message.{Message}
use Rattle.album_client.specs.Clients.{is_reading, stamp_at_work}
use Rattle.album_client.specs.declared.clients.Phase.{Phase}
use Rattle.album_client.specs.declared.clients.Phase.TheVariants as phase
use Rattle.album_client.specs.declared.transitions.Transition.{Transition}
use Rattle.album_client.proofs.MoveLemmas.{readable_open}
use Rattle.album_eval.specs.declared.policies.Policy.{Policy}
use Rattle.album_passes.specs.Cuts.{Cut}
use Rattle.album_reader.specs.Answers.{Asker}
use Rattle.album_reader.specs.Rounds.{gets_of}
use Rattle.album_stamps.specs.declared.refusals.Refusal.{Refusal}
use Rattle.album_sessions.specs.Asks.{IsHeard}
use Rattle.album_sessions.specs.Hints.{is_without_view, items_asked}
use Rattle.album_sessions.specs.Phases.{Outset, IsUnderWay}
use Rattle.album_channels.specs.Channels.{IsNoReply}
use Rattle.album_sessions.specs.Sessions.{SessionState}
use Rattle.album_sessions.specs.Steps.{IsLed, IsTried}
use Rattle.album_channels.specs.Rounds.{AskedState}
use Rattle.album_channels.specs.declared.asked.NoReply.{NoReply}
use Rattle.album_channels.specs.declared.asked.NoReply.TheVariants.{Refused, Overtaken}
use Rattle.album_sessions.specs.declared.ask.Way.{Way}
use Rattle.album_sessions.specs.declared.ask.Way.TheVariants.{Answered, InVain}
use Rattle.album_sessions.proofs.StepLemmas.{cut_led}
use Rattle.album_sessions.proofs.TransitionLemmas.{adds_heard}
use Rattle.album_views.specs.Steps.{AreReadable}
use Rattle.album_permits.specs.declared.answers.Answer.TheVariants as answer

-- ---- what it asked for

items_gets : (a : Asker) (ts items : List ℕ) → items_asked (gets_of a ts items) ≡ items
items_gets a ts [] = refl
items_gets a ts (i ∷ items) = ap (λ (is : List ℕ). i ∷ is) (items_gets a ts items)

module _ (policy : Policy) (o : Outset) where
  pub asked_readable : (now : SessionState) (at : Cut) (sent : List Message) (d : Phase) → IsUnderWay policy o now at sent d
      → is_reading d ≡ true → AreReadable (items_asked sent)
  asked_readable now at sent (phase.Idle tag) w e = absurd w.phase
  asked_readable now at sent (phase.Reads pending_ask round) w e =
      let read = w.phase.0 in
      subst (λ (ms : List Message). AreReadable (items_asked ms)) (sym read.asks)
      (subst AreReadable (read.under.items ∙ sym (items_gets _ _ read.begun.items)) (readable_open round read.under.still_open))
  asked_readable now at sent (phase.Prepares writing) w e = absurd (true≢false (sym e))
  asked_readable now at sent (phase.Commits writing) w e = absurd (true≢false (sym e))

  -- ---- in vain

  pub tried_so : (now next : SessionState) (at : Cut) (sent : List Message) (d : Phase) → IsUnderWay policy o now at sent d
      → IsHeard now next → is_reading d ≡ true → IsTried o next
  tried_so now next at sent (phase.Idle tag) w h e = absurd w.phase
  tried_so now next at sent (phase.Reads pending_ask round) w h e = record {
    adds = adds_heard o.session now next w.on w.phase.1 h;
  }
  tried_so now next at sent (phase.Prepares writing) w h e = absurd (true≢false (sym e))
  tried_so now next at sent (phase.Commits writing) w h e = absurd (true≢false (sym e))

  -- it hears no more
  pub given_led : (limit : ℕ) (now next : SessionState) (at : Cut) (sent : List Message) (d : Phase) (why : NoReply)
      (r : Result (Way AskedState) Refusal) → IsUnderWay policy o now at sent d → IsHeard now next → IsNoReply (is_reading d) why
      → (stamp : Option ℕ) → stamp ≡ stamp_at_work d
      → (hinted reads tries : Bool) → reads ≡ is_reading d → tries ≡ (hinted && reads)
      → (tries ≡ true → r ≡ Ok InVain) → (why ≡ Overtaken → r ≡ Ok InVain)
      → (tries ≡ false → (e : Refusal) → why ≡ Refused e → IfSome stamp (λ t. r ≡ Ok (Answered (answer.Unsettled t e))))
      → (tries ≡ false → (e : Refusal) → why ≡ Refused e → IfNone stamp (r ≡ Err e)) → IfOk r (IsLed limit policy o next)
  given_led limit now next at sent d Overtaken r w h none stamp is hinted reads tries same both vain over begun before =
      subst (λ (z : Result (Way AskedState) Refusal). IfOk z (IsLed limit policy o next)) (sym (over refl)) (tried_so now next at sent d w h none)
  given_led limit now next at sent d (Refused why) r w h none stamp is hinted reads tries same both vain over begun before = go tries refl
    where
      go : (b : Bool) → tries ≡ b → IfOk r (IsLed limit policy o next)
      go true e =
          let parts = and_parts hinted reads (sym both ∙ e) in
          subst (λ (z : Result (Way AskedState) Refusal). IfOk z (IsLed limit policy o next)) (sym (vain e))
          (tried_so now next at sent d w h (sym same ∙ parts.1))
      go false e = cut_led limit policy o now next at sent d why r w h none stamp is (begun e why refl) (before e why refl)

-- ---- not in vain

-- a hint that is tried has led to a view
pub view_by : (o : Outset) (hinted reads tries vain : Bool) (d : Phase) (transition : Transition) → o.hinted ≡ hinted
    → reads ≡ is_reading d → tries ≡ (hinted && reads)
    → vain ≡ (tries && is_without_view transition.sent.items transition.answer) → vain ≡ false
    → o.hinted ≡ true → is_reading d ≡ true → is_without_view transition.sent.items transition.answer ≡ false
view_by o hinted reads tries vain d transition by same both is none h r = go (is_without_view transition.sent.items transition.answer) refl
  where
    tried : tries ≡ true
    tried = both ∙ and_from hinted reads (sym by ∙ h) (same ∙ r)

    go : (b : Bool) → is_without_view transition.sent.items transition.answer ≡ b
        → is_without_view transition.sent.items transition.answer ≡ false
    go false e = e
    go true e = absurd (true≢false (sym (is ∙ and_from tries _ tried e) ∙ none))
