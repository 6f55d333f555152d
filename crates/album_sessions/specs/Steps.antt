-- What one reply to a session's client leads to, step by step.
use Rattle.std.specs.Prelude.{◌≡◌, ℕ, Bool, true, List, Option, Some, None}
use Rattle.album_calls.specs.declared.messages.Message.{Message}
use Rattle.album_client.specs.Clients.{Client, IsProper, stamp_at_work}
use Rattle.album_client.specs.Transitions.{IsMoved}
use Rattle.album_client.specs.Terms.{Terms}
use Rattle.album_client.specs.Steps.{read_begins, transition_of}
use Rattle.album_client.specs.declared.clients.Phase.{Phase}
use Rattle.album_client.specs.declared.clients.Phase.TheVariants.{Idle}
use Rattle.album_client.specs.declared.transitions.Transition.{Transition}
use Rattle.album_eval.specs.declared.facts.Principal.{Principal}
use Rattle.album_eval.specs.declared.policies.Policy.{Policy}
use Rattle.album_passes.specs.Cuts.{Cut, IsSound}
use Rattle.album_stamps.specs.declared.refusals.Refusal.{Refusal}
use Rattle.album_sessions.specs.Asks.{IsHeard, IsOn}
use Rattle.album_sessions.specs.Hints.{are_among}
use Rattle.album_sessions.specs.Phases.{Outset, IsUnderWay}
use Rattle.album_keepers.specs.Replies.{IsReplied}
use Rattle.album_sessions.specs.Resting.{RestsOn}
use Rattle.album_channels.specs.Sending.{sent_at, sent_last}
use Rattle.album_channels.specs.Channels.{IsClosedOrOutOfMemory}
use Rattle.album_sessions.specs.Sessions.{SessionState, AddsNothing}
use Rattle.album_channels.specs.Rounds.{AskedState}
use Rattle.album_sessions.specs.declared.step.Reaction.{Reaction}
use Rattle.album_sessions.specs.declared.step.Reaction.TheVariants.{Answers, Sends}
use Rattle.album_sessions.specs.declared.ask.Way.{Way}
use Rattle.album_sessions.specs.declared.ask.Way.TheVariants.{Answered, Awaits, InVain}
use Rattle.album_permits.specs.declared.answers.Answer.{Answer}
use Rattle.album_permits.specs.declared.answers.Answer.TheVariants as answer
use Rattle.album_views.specs.Asks.{objects_of}
use Rattle.album_views.specs.declared.asks.Ask.{Ask}

-- a session's client, whatever it does, and the terms on which it asks
abbrev pub client_step_in : SessionState → Client
client_step_in session = record {
  number = session.client;
  clock = record { client = session.client; counter = session.counter };
  phase = Idle 0;
}

-- (its clock began above the epochs before)
abbrev pub terms_in : Policy → SessionState → Terms
terms_in policy session =
    record { parts = session.cut.parts; policy = policy; checked = session.cut.checked; first = 0 }

-- ---- how an ask begins

-- the session has seen more since it was this one, and has noted, drawn and announced nothing
pub record IsStill (session now : SessionState) : Type 0 where
  pub sound : IsSound session.cut
  pub on : IsOn session now
  pub adds : AddsNothing session now

-- the ask is under way since it began at this session, by a hint or not
abbrev pub IsBegunFor : Policy → Principal → Ask → SessionState → Bool → SessionState → AskedState × Phase → Type 0
IsBegunFor policy principal ask session hinted now started =
    IsUnderWay policy (record { principal = principal; ask = ask; session = session; hinted = hinted }) now
    started.0.begun.cut started.0.sent started.1

-- the client begins to read items for the ask, and its objects are among them
pub record IsBegunWith
    (policy : Policy) (principal : Principal) (ask : Ask) (session : SessionState) (transition : Transition)
    : Type 0 where
  pub tag : ℕ
  pub items : List ℕ
  pub objects : are_among (objects_of ask) items ≡ true
  pub is : IsMoved (read_begins (terms_in policy session) (client_step_in session) tag
      (record { viewing = record { ask = ask; reads = 0 }; principal = principal }) items) transition

-- its first messages are sent, and it is in its first phase
pub record IsStarted (at : Cut) (transition : Transition) (started : AskedState × Phase) : Type 0 where
  pub sent : started.0.sent ≡ transition.sent.items
  pub begun : started.0.begun.cut ≡ at
  pub phase : started.1 ≡ transition.client.phase
  pub proper : IsProper transition.client.phase

-- ---- what is heard

-- some ask is under way, by a hint or not
abbrev pub IsSomehowUnderWay : Policy → Bool → SessionState → Cut → List Message → Phase → Type 0
IsSomehowUnderWay policy hinted now at sent phase =
    (outset : Outset) × (outset.hinted ≡ hinted) × IsUnderWay policy outset now at sent phase

-- an ask is under way so, but for the reply that was heard last
pub record IsWaited
    (policy : Policy) (outset : Outset) (new : SessionState) (at : Cut) (sent : List Message) (phase : Phase)
    : Type 0 where
  pub before : SessionState
  pub way : IsUnderWay policy outset before at sent phase
  pub heard : IsHeard before new

-- some ask is, by a hint or not
abbrev pub IsSomehowWaited : Policy → Bool → SessionState → Cut → List Message → Phase → Type 0
IsSomehowWaited policy hinted new at sent phase =
    (outset : Outset) × (outset.hinted ≡ hinted) × IsWaited policy outset new at sent phase

-- a reply has come to one of the messages that were sent, and led to this
pub record IsTaken
    (limit : ℕ) (at now : Cut) (sent : List Message) (terms : Terms) (client : Client) (phase : Phase)
    (transition : Transition)
    : Type 0 where
  pub reply : Message
  pub replied : IsReplied limit at now sent reply
  pub is : IsMoved (transition_of terms client reply phase) transition

-- the client has answered, or does this and sends these messages
abbrev pub IsReaction : Phase → List Message → Option Answer → Reaction → Type 0
IsReaction phase sent given (Answers found) = given ≡ Some found
IsReaction phase sent given (Sends next messages) = (given ≡ None) × (next ≡ phase) × (messages.items ≡ sent)

-- the answer is that the write that was under way is cut off
pub record IsCutOff (phase : Phase) (given : Answer) : Type 0 where
  pub stamp : ℕ
  pub of : stamp_at_work phase ≡ Some stamp
  pub why : Refusal
  pub none : IsClosedOrOutOfMemory why
  pub is : given ≡ answer.Unsettled stamp why

-- the messages are sent, and replies are outstanding; or the ask is cut off
abbrev pub IsSent : AskedState → Phase → List Message → Cut → Way AskedState → Type 0
IsSent asked phase messages now (Answered given) = IsCutOff phase given
IsSent asked phase messages now (Awaits more next) =
    (next ≡ phase)
    × (more.sent ≡ sent_last asked.sent messages)
    × (more.begun.cut ≡ sent_at asked.begun.cut now messages)
IsSent asked phase messages now InVain = ⊥

-- an ask has come to no view, by its hint or since it was overtaken: nothing is noted, drawn or announced
pub record IsTried (outset : Outset) (now : SessionState) : Type 0 where
  pub adds : AddsNothing outset.session now

-- the ask is answered, and the answer rests on what it should; or it is under way; or it has come to no view
abbrev pub IsLed : ℕ → Policy → Outset → SessionState → Way AskedState → Type 0
IsLed limit policy outset now (Answered given) =
    RestsOn limit policy outset.principal outset.ask outset.session now given
IsLed limit policy outset now (Awaits asked phase) =
    IsUnderWay policy outset now asked.begun.cut asked.sent phase
IsLed limit policy outset now InVain = IsTried outset now

-- the same at the end of what was under way
abbrev pub IsDone : ℕ → Policy → Outset → SessionState → Option Answer → Type 0
IsDone limit policy outset now (Some given) =
    RestsOn limit policy outset.principal outset.ask outset.session now given
IsDone limit policy outset now None = IsTried outset now
