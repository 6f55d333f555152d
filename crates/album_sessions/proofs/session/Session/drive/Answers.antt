use Rattle.std.proofs.Common.{subst}
use Rattle.album_passes.specs.Cuts.{IsSound}
use Rattle.album_sessions.specs.Steps.{IsLed}
use Rattle.album_sessions.specs.Sessions.{SessionState, AddsNothing}
use Rattle.album_sessions.proofs.SessionLemmas.{on_self, on_trans}
use Rattle.album_sessions.proofs.StepLemmas.{on_refusal}
use Rattle.album_sessions.proofs.session.Session.drive.Goals as goal

pub loop-init : goal.loop-init
loop-init g c = record {
  way = λ outset by w. w;
  on = on_self c.args.self.now (subst (λ (s : SessionState). IsSound s.cut) c.self.view_is c.is_sound.ensures);
}

-- it continues
pub loop-preserved : goal.loop-preserved
loop-preserved g c = record {
  way = λ outset by w. subst (IsLed g.J.DeskNames.terms.limit g.J.ServiceNames.policy outset c.go_on.new.self) c.in-Awaits.is
      (c.in_ok-answer.ensures.way outset by (c.wait-heard.ensures.way outset (c.loop.invariant.way outset by w)));
  on = on_trans c.args.self.now c.loop.self c.go_on.new.self c.loop.invariant.on
      (on_trans c.loop.self c.wait-heard.new.self c.go_on.new.self c.wait-heard.ensures.on c.go_on.ensures.on);
}

-- what is under way was outstanding
pub go_on-requires-clause-way : goal.go_on-requires-clause-way
go_on-requires-clause-way g c =
    let w = c.requires.way in
    (w.0, w.1, c.wait-heard.ensures.way w.0 (c.loop.invariant.way w.0 w.1 w.2))

-- it is refused
pub returns-in_err-answer-clause-unbegun : goal.returns-in_err-answer-clause-unbegun
returns-in_err-answer-clause-unbegun g c = λ outset by w.
    on_refusal c.from_residual.result (AddsNothing outset.session c.go_on.new.self)
    (c.in_err-answer.ensures.unbegun outset by (c.wait-heard.ensures.way outset (c.loop.invariant.way outset by w)))

pub returns-in_err-answer-clause-on : goal.returns-in_err-answer-clause-on
returns-in_err-answer-clause-on g c =
    on_trans c.args.self.now c.loop.self c.go_on.new.self c.loop.invariant.on
    (on_trans c.loop.self c.wait-heard.new.self c.go_on.new.self c.wait-heard.ensures.on c.go_on.ensures.on)

-- it is answered
pub returns-in-Answered-clause-done : goal.returns-in-Answered-clause-done
returns-in-Answered-clause-done g c = λ outset by w.
    subst (IsLed g.J.DeskNames.terms.limit g.J.ServiceNames.policy outset c.go_on.new.self) c.in-Answered.is
    (c.in_ok-answer.ensures.way outset by (c.wait-heard.ensures.way outset (c.loop.invariant.way outset by w)))

pub returns-in-Answered-clause-on : goal.returns-in-Answered-clause-on
returns-in-Answered-clause-on g c =
    on_trans c.args.self.now c.loop.self c.go_on.new.self c.loop.invariant.on
    (on_trans c.loop.self c.wait-heard.new.self c.go_on.new.self c.wait-heard.ensures.on c.go_on.ensures.on)

-- its hint was in vain
pub returns-in-InVain-clause-done : goal.returns-in-InVain-clause-done
returns-in-InVain-clause-done g c = λ outset by w.
    subst (IsLed g.J.DeskNames.terms.limit g.J.ServiceNames.policy outset c.go_on.new.self) c.in-InVain.is
    (c.in_ok-answer.ensures.way outset by (c.wait-heard.ensures.way outset (c.loop.invariant.way outset by w)))

pub returns-in-InVain-clause-on : goal.returns-in-InVain-clause-on
returns-in-InVain-clause-on g c =
    on_trans c.args.self.now c.loop.self c.go_on.new.self c.loop.invariant.on
    (on_trans c.loop.self c.wait-heard.new.self c.go_on.new.self c.wait-heard.ensures.on c.go_on.ensures.on)
