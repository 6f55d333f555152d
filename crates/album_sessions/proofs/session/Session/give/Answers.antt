use Rattle.std.proofs.Common.{subst}
use Rattle.album_client.specs.Clients.{Client}
use Rattle.album_client.specs.Transitions.{client_of}
use Rattle.album_client.specs.Terms.{Terms}
use Rattle.album_sessions.specs.Steps.{IsTaken}
use Rattle.album_sessions.proofs.StepLemmas.{taken_so}
use Rattle.album_sessions.proofs.session.Session.give.Goals as goal

pub returns-clause-taken : goal.returns-clause-taken
returns-clause-taken g c =
    subst
    (λ (y : Terms × Client). IsTaken g.J.DeskNames.terms.limit c.args.asked.now.begun.cut c.args.self.now.cut c.args.asked.now.sent y.0 y.1
    c.args.phase c.in_ok-transition.transition)
    (λ i. (c.client_step.ensures.terms i, c.client_step.ensures.client i))
    (taken_so g.J.DeskNames.terms.limit c.args.asked.now.begun.cut c.args.self.now.cut c.args.asked.now.sent c.client_step.result.terms
    (client_of c.client_step.result) c.args.phase c.args.heard c.in_ok-transition.transition c.requires.replied c.in_ok-transition.ensures.transition)
