use Rattle.std.proofs.Common.{◌≡◌}
use Rattle.album_sessions.specs.Asks.{IsOn}
use Rattle.album_sessions.specs.Phases.{Outset, IsUnderWay}
use Rattle.album_sessions.proofs.session.Session.drive.Given as goal

abbrev pub invariant-loop : goal.invariant-loop
invariant-loop g l = record {
  way : (outset : Outset) → outset.hinted ≡ l.fn.course.hinted
      → IsUnderWay g.J.ServiceNames.policy outset l.fn.self l.fn.asked.begun.cut l.fn.asked.sent l.fn.phase
      → IsUnderWay g.J.ServiceNames.policy outset l.self l.asked.begun.cut l.asked.sent l.phase;
  on : IsOn l.fn.self l.self;
}
