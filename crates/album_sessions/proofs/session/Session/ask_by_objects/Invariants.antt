use Rattle.album_sessions.specs.Asks.{IsOn}
use Rattle.album_sessions.specs.Sessions.{SessionState}
use Rattle.album_sessions.specs.Steps.{IsStill}
use Rattle.album_sessions.proofs.session.Session.ask_by_objects.Given as goal

abbrev pub invariant-loop : goal.invariant-loop
invariant-loop g l = record {
  still : (session : SessionState) → IsStill session l.fn.self → IsStill session l.self;
  on : IsOn l.fn.self l.self;
}
