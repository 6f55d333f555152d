use Rattle.std.proofs.Common.{true, subst}
use Rattle.album_passes.specs.Cuts.{IsSound}
use Rattle.album_sessions.specs.Phases.{Outset}
use Rattle.album_sessions.specs.Sessions.{SessionState}
use Rattle.album_sessions.specs.Steps.{IsDone}
use Rattle.album_sessions.proofs.SessionLemmas.{on_trans}
use Rattle.album_sessions.proofs.session.Session.answer.Goals as goal

-- there is no hint, or it was in vain
pub returns-clause-rests : goal.returns-clause-rests
returns-clause-rests g c =
    let outset : Outset = record { principal = c.args.principal.now; ask = c.args.ask.now; session = c.args.self.now; hinted = true } in
    let tried = subst (IsDone g.J.DeskNames.terms.limit g.J.ServiceNames.policy outset c.ask_by_hint.new.self) c.in_default.is c.in_ok-answer.ensures.done in
    let sound = subst (λ (s : SessionState). IsSound s.cut) c.self.view_is c.is_sound.ensures in
    c.ask_by_objects.ensures.rests c.args.self.now (record { sound = sound; on = c.ask_by_hint.ensures.on; adds = tried.adds })

pub returns-clause-unbegun : goal.returns-clause-unbegun
returns-clause-unbegun g c =
    let outset : Outset = record { principal = c.args.principal.now; ask = c.args.ask.now; session = c.args.self.now; hinted = true } in
    let tried = subst (IsDone g.J.DeskNames.terms.limit g.J.ServiceNames.policy outset c.ask_by_hint.new.self) c.in_default.is c.in_ok-answer.ensures.done in
    let sound = subst (λ (s : SessionState). IsSound s.cut) c.self.view_is c.is_sound.ensures in
    c.ask_by_objects.ensures.unbegun c.args.self.now (record { sound = sound; on = c.ask_by_hint.ensures.on; adds = tried.adds })

pub returns-clause-on : goal.returns-clause-on
returns-clause-on g c =
    on_trans c.args.self.now c.ask_by_hint.new.self c.ask_by_objects.new.self c.ask_by_hint.ensures.on c.ask_by_objects.ensures.on
