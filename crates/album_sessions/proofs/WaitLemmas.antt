-- A reply that ends no round of a read is taken in place, and the ask is under way as before: `waits_on`, for
-- `Session::wait_once`.
use Rattle.std.proofs.Common.{◌≡◌, ℕ, true, not, List, Option, Some, None, Result, Ok, Err, IfOk, ap, subst}
use Rattle.std.specs.Prelude.{IsOkAnd, IfSome, IfNone}
use Rattle.album_calls.specs.declared.messages.Message.{Message}
use Rattle.album_client.specs.PendingAsks.{PendingAsk}
use Rattle.album_client.specs.Clients.{Client}
use Rattle.album_client.specs.Terms.{Terms}
use Rattle.album_client.specs.Steps.{TransitionState, is_waiting, read_transition, still, IsTakenBy}
use Rattle.album_client.specs.declared.clients.Phase.{Phase}
use Rattle.album_client.specs.declared.clients.Phase.TheVariants as phase
use Rattle.album_eval.specs.declared.policies.Policy.{Policy}
use Rattle.album_passes.specs.Cuts.{Cut, Extends}
use Rattle.album_passes.proofs.CutLemmas.{extends_trans}
use Rattle.album_reader.specs.Rounds.{RoundState, Step, is_end, stepped}
use Rattle.album_reader.specs.Rounds.Step.{Same, Next, Done, Gone}
use Rattle.album_sessions.specs.Asks.{IsHeard}
use Rattle.album_channels.specs.declared.asked.NoReply.{NoReply}
use Rattle.album_sessions.specs.Phases.{Outset, IsReading, IsUnderWay}
use Rattle.album_keepers.specs.Replies.{IsReplied}
use Rattle.album_grounds.specs.Replies.{Leads}
use Rattle.album_sessions.specs.Sessions.{SessionState}
use Rattle.album_sessions.specs.Steps.{client_step_in, terms_in}
use Rattle.album_sessions.proofs.TransitionLemmas.{on_heard, adds_heard}
use Rattle.album_grounds.proofs.RoundLemmas.{leads}

module _ (limit : ℕ) (policy : Policy) (o : Outset) (now next : SessionState) (at : Cut) (sent : List Message) (m : Message)
    (h : IsHeard now next) (r : IsReplied limit at next.cut sent m) where
  -- it reads on
  reads_on : (pending_ask : PendingAsk) (round : RoundState) (new : Phase) → IsUnderWay policy o now at sent (phase.Reads pending_ask round)
      → is_waiting (phase.Reads pending_ask round) m ≡ true → IsTakenBy (phase.Reads pending_ask round) m new
      → IsUnderWay policy o next at sent new
  reads_on pending_ask round new w waits taken =
      go (stepped round m)
      (leads limit at now.cut next.cut read.begun round m read.on h.grown since read.parts
      (subst (λ (ms : List Message). IsReplied limit at next.cut ms m) read.asks r) read.under)
      waits taken
    where
      read : IsReading policy o.hinted o.principal o.ask o.session.cut at now.cut sent pending_ask round
      read = w.phase.0

      since : Extends at next.cut
      since = extends_trans at now.cut next.cut read.on h.grown

      go : (f : Step) → Leads at next.cut read.begun f → not (is_end f) ≡ true
          → ((terms : Terms) (x : Client) → read_transition terms x round.asker.tag pending_ask f ≡ still (record x { phase = new }))
          → IsUnderWay policy o next at sent new
      go (Same other) led e t =
          subst (IsUnderWay policy o next at sent)
          (ap (λ (y : TransitionState). y.client.phase) (t (terms_in policy next) (client_step_in next)))
          (record {
            taken = w.taken;
            on = on_heard o.session now next w.on h;
            sound = h.sound;
            phase = (
              record {
                of = read.of;
                whom = read.whom;
                start = read.start;
                begun = read.begun;
                looking = read.looking;
                which = read.which;
                asks = read.asks;
                parts = read.parts;
                under = led;
                sound = read.sound;
                before = read.before;
                on = since;
              },
              adds_heard o.session now next w.on w.phase.1 h,
            );
          })
      go (Next other gets) led e t = absurd (cc)
      go (Done rows) led e t = absurd (cc)
      go (Gone items) led e t = absurd (cc)

  pub waits_on : (d new : Phase) → IsUnderWay policy o now at sent d → is_waiting d m ≡ true → IsTakenBy d m new
      → IsUnderWay policy o next at sent new
  waits_on (phase.Idle tag) new w waits taken = absurd (cc)
  waits_on (phase.Reads pending_ask round) new w waits taken = reads_on pending_ask round new w waits taken
  waits_on (phase.Prepares writing) new w waits taken = absurd (cc)
  waits_on (phase.Commits writing) new w waits taken = absurd (cc)

-- the reply that was heard was taken so
pub waited_on : (limit : ℕ) (policy : Policy) (o : Outset) (now next : SessionState) (at : Cut) (sent : List Message) (d new : Phase)
    (heard : Result Message NoReply) → IsHeard now next → IfOk heard (IsReplied limit at next.cut sent)
    → IsOkAnd heard (λ reply. (is_waiting d reply ≡ true) × IsTakenBy d reply new)
    → IsUnderWay policy o now at sent d → IsUnderWay policy o next at sent new
waited_on limit policy o now next at sent d new (Ok m) h r (waits, taken) w =
    waits_on limit policy o now next at sent m h r d new w waits taken
waited_on limit policy o now next at sent d new (Err why) h r is w = absurd is

-- where nothing is given, the reply that was heard was taken
pub none_on : (limit : ℕ) (policy : Policy) (now next : SessionState) (at : Cut) (sent : List Message) (d new : Phase)
    (heard : Result Message NoReply) (given : Option (Result Message NoReply))
    → IsHeard now next → IfOk heard (IsReplied limit at next.cut sent)
    → IfNone given (IsOkAnd heard (λ reply. (is_waiting d reply ≡ true) × IsTakenBy d reply new))
    → IfNone given ((o : Outset) → IsUnderWay policy o now at sent d → IsUnderWay policy o next at sent new)
none_on limit policy now next at sent d new heard None h r is = λ o w.
    waited_on limit policy o now next at sent d new heard h r is w
none_on limit policy now next at sent d new heard (Some given) h r is = tt

-- what is given was heard
pub given_so : (limit : ℕ) (now : Cut) (at : Cut) (sent : List Message) (heard : Result Message NoReply)
    (given : Option (Result Message NoReply)) → IfOk heard (IsReplied limit at now sent)
    → IfSome given (λ g. IfOk g (λ reply. heard ≡ Ok reply))
    → IfSome given (λ g. IfOk g (IsReplied limit at now sent))
given_so limit now at sent heard None r is = tt
given_so limit now at sent heard (Some (Ok reply)) r is = subst (λ (z : Result Message NoReply). IfOk z (IsReplied limit at now sent)) is r
given_so limit now at sent heard (Some (Err why)) r is = tt
