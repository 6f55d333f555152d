-- A client in code: its number, clock and terms before a step, and the transition after it.
use Rattle.std.specs.Prelude.{◌≡◌, [], None}
use Rattle.std.specs.Option.{unwrap_or}
use Rattle.album_eval.specs.declared.facts.Principal.{Principal}
use Rattle.album_eval.specs.declared.policies.Policy.{Policy}
use Rattle.album_views.specs.Checks.{refusal_of}
use Rattle.album_views.specs.ReadSets.{looker_of}
use Rattle.album_views.specs.declared.viewing.ViewStep.{ViewStep}
use Rattle.album_views.specs.declared.viewing.ViewStep.TheVariants.{Again, Closed, Busy}
use Rattle.album_client.specs.declared.clients.Phase.TheVariants.{Idle}
use Rattle.album_client.specs.declared.transitions.Transition.{Transition}
use Rattle.album_client.specs.declared.transitions.ClientStep.{ClientStep}
use Rattle.album_client.specs.Clients.{Client}
use Rattle.album_client.specs.Steps.{TransitionState}

-- the client of a step, as if it were idle: the next state doesn't depend on the phase that is replaced
abbrev pub client_of : ClientStep → Client
client_of client_step = record { number = client_step.number; clock = client_step.clock; phase = Idle 0 }

-- the principal may ask the step's ask, and a view was read for the principal, by the policy
abbrev pub IsTakenOf : Policy → Principal → ViewStep → Type 0
IsTakenOf policy principal (Again viewing items) = refusal_of viewing.ask principal ≡ None
IsTakenOf policy principal (Closed view) =
    (refusal_of view.ask principal ≡ None) × (view.looker ≡ looker_of policy principal)
IsTakenOf policy principal (Busy why) = Unit {0}

-- the transition is the one that the definition names, without the fields that only contracts have
pub record IsMoved (due : TransitionState) (transition : Transition) : Type 0 where
  pub client : transition.client ≡ due.client
  pub noted : transition.notes.items ≡ unwrap_or due.noted []
  pub sent : transition.sent.items ≡ due.sent
  pub answer : transition.answer ≡ due.answer
