use Rattle.album_sessions.specs.Sessions.{SessionState}
use Rattle.album_sessions.specs.Steps.{IsStill}
use Rattle.album_sessions.proofs.session.Session.settle.Given as goal

-- nothing was added so far
abbrev pub invariant-loop-part : goal.invariant-loop-part
invariant-loop-part g l = (session : SessionState) → IsStill session l.fn.self → IsStill session l.self
