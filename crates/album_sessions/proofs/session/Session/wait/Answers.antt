use Rattle.std.proofs.Common.{◌∙◌, subst, sym}
use Rattle.album_channels.specs.Rounds.{AskedState}
use Rattle.album_client.specs.declared.clients.Phase.{Phase}
use Rattle.album_sessions.specs.Phases.{IsUnderWay}
use Rattle.album_sessions.proofs.TransitionLemmas.{on_heard}
use Rattle.album_sessions.proofs.session.Session.wait.Goals as goal

pub loop-preserved : goal.loop-preserved
loop-preserved g c = record {
  way = λ outset w. c.in_default.ensures.way outset (c.loop.invariant.way outset w);
  on = on_heard c.args.self.now c.loop.self c.wait_once.new.self c.loop.invariant.on c.wait_once.ensures.heard;
  asked = c.wait_once.ensures.asked ∙ c.loop.invariant.asked;
}

-- a reply is given
pub returns-in-Some-wait_once-clause-way : goal.returns-in-Some-wait_once-clause-way
returns-in-Some-wait_once-clause-way g c = λ outset w. record {
  before = c.loop.self;
  way = subst (λ (z : AskedState × Phase). IsUnderWay g.J.ServiceNames.policy outset c.loop.self z.0.begun.cut z.0.sent z.1)
      (λ i. (sym c.wait_once.ensures.asked i, sym c.in-Some-wait_once.ensures.left i)) (c.loop.invariant.way outset w);
  heard = c.wait_once.ensures.heard;
}

pub returns-in-Some-wait_once-clause-on : goal.returns-in-Some-wait_once-clause-on
returns-in-Some-wait_once-clause-on g c =
    on_heard c.args.self.now c.loop.self c.wait_once.new.self c.loop.invariant.on c.wait_once.ensures.heard
