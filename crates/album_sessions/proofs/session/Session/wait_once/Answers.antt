use Rattle.std.proofs.Common.{IfNone, subst}
use Rattle.album_channels.specs.Rounds.{AskedState}
use Rattle.album_sessions.specs.Phases.{Outset, IsUnderWay}
use Rattle.album_sessions.proofs.WaitLemmas.{none_on, given_so}
use Rattle.album_sessions.proofs.session.Session.wait_once.Goals as goal

-- it was taken
pub returns-clause-way : goal.returns-clause-way
returns-clause-way g c =
    let policy = g.J.ServiceNames.policy in
    let new = c.hear-heard.new.self in
    let asked = c.hear-heard.new.asked in
    subst (λ (k : AskedState). IfNone c.waited.result ((outset : Outset)
    → IsUnderWay policy outset c.args.self.now k.begun.cut k.sent c.args.phase.now
    → IsUnderWay policy outset new asked.begun.cut asked.sent c.waited.new.phase)) c.hear-heard.ensures.asked
    (none_on g.J.DeskNames.terms.limit policy c.args.self.now new asked.begun.cut asked.sent c.args.phase.now c.waited.new.phase
    c.hear-heard.result c.waited.result c.hear-heard.ensures.heard c.hear-heard.ensures.replied c.waited.ensures.taken)

-- it is given
pub returns-clause-replied : goal.returns-clause-replied
returns-clause-replied g c =
    given_so g.J.DeskNames.terms.limit c.hear-heard.new.self.cut c.hear-heard.new.asked.begun.cut c.hear-heard.new.asked.sent
    c.hear-heard.result c.waited.result c.hear-heard.ensures.replied c.waited.ensures.same
