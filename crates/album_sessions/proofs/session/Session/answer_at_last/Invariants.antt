use Rattle.std.proofs.Common.{◌≡◌, true}
use Rattle.album_sessions.specs.Asks.{IsOn}
use Rattle.album_sessions.proofs.AttemptLemmas.{IsAttempted}
use Rattle.album_sessions.proofs.session.Session.answer_at_last.Given as goal

-- on what the last attempt's answer rests
abbrev pub invariant-loop-made : goal.invariant-loop-made
invariant-loop-made g l = record {
  attempted : IsAttempted g.J.DeskNames.terms.limit g.J.ServiceNames.policy l.principal l.ask l.fn.self l.self l.answer l._made;
  checked : l.self.cut.checked ≡ true;
  on : IsOn l.fn.self l.self;
}
