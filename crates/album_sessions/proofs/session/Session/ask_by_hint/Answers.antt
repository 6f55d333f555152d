use Rattle.std.proofs.Common.{true, sym}
use Rattle.album_sessions.specs.Phases.{Outset}
use Rattle.album_sessions.specs.Sessions.{AddsNothing}
use Rattle.album_sessions.proofs.StepLemmas.{on_refusal}
use Rattle.album_sessions.proofs.session.Session.ask_by_hint.Goals as goal

pub returns-clause-done : goal.returns-clause-done
returns-clause-done g c =
    let outset : Outset = record { principal = c.args.principal.now; ask = c.args.ask.now; session = c.args.self.now; hinted = true } in
    c.in_ok-answer.ensures.done outset (sym c.by_hint-course.ensures) c.in-Some.ensures.way

pub returns-in_err-answer-clause-unbegun : goal.returns-in_err-answer-clause-unbegun
returns-in_err-answer-clause-unbegun g c =
    let outset : Outset = record { principal = c.args.principal.now; ask = c.args.ask.now; session = c.args.self.now; hinted = true } in
    on_refusal c.from_residual.result (AddsNothing c.args.self.now c.drive.new.self)
    (c.in_err-answer.ensures.unbegun outset (sym c.by_hint-course.ensures) c.in-Some.ensures.way)
