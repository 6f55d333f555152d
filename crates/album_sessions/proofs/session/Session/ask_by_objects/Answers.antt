use Rattle.std.proofs.Common.{false, subst}
use Rattle.album_passes.specs.Cuts.{IsSound}
use Rattle.album_sessions.specs.Phases.{Outset}
use Rattle.album_sessions.specs.Sessions.{SessionState}
use Rattle.album_sessions.specs.Steps.{IsDone}
use Rattle.album_sessions.proofs.SessionLemmas.{on_self, on_trans}
use Rattle.album_sessions.proofs.session.Session.ask_by_objects.Goals as goal

pub loop-init : goal.loop-init
loop-init g c = record {
  still = λ session still. still;
  on = on_self c.args.self.now (subst (λ (s : SessionState). IsSound s.cut) c.self.view_is c.is_sound.ensures);
}

-- the read is overtaken
pub loop-preserved : goal.loop-preserved
loop-preserved g c = record {
  still = λ session still.
      let was = c.loop.invariant.still session still in
      let outset : Outset = record { principal = c.args.principal.now; ask = c.args.ask.now; session = session; hinted = false } in
      let tried = subst (IsDone g.J.DeskNames.terms.limit g.J.ServiceNames.policy outset c.ask_once.new.self) c.in_default.is
      (c.in_ok-answer.ensures.done session was) in
      record { sound = was.sound; on = on_trans session c.loop.self c.ask_once.new.self was.on c.ask_once.ensures.on; adds = tried.adds };
  on = on_trans c.args.self.now c.loop.self c.ask_once.new.self c.loop.invariant.on c.ask_once.ensures.on;
}

-- it is refused, or answered
pub returns-in_err-answer-clause-on : goal.returns-in_err-answer-clause-on
returns-in_err-answer-clause-on g c = on_trans c.args.self.now c.loop.self c.ask_once.new.self c.loop.invariant.on c.ask_once.ensures.on

pub returns-in-Some-2-clause-on : goal.returns-in-Some-2-clause-on
returns-in-Some-2-clause-on g c = on_trans c.args.self.now c.loop.self c.ask_once.new.self c.loop.invariant.on c.ask_once.ensures.on
