use Rattle.std.proofs.Common.{false, sym, subst}
use Rattle.album_passes.specs.Cuts.{IsSound}
use Rattle.album_sessions.specs.Asks.{IsOn}
use Rattle.album_sessions.specs.Phases.{Outset}
use Rattle.album_sessions.specs.Sessions.{SessionState}
use Rattle.album_sessions.proofs.ReadingLemmas.{still_self}
use Rattle.album_sessions.proofs.session.Session.ask_once.Goals as goal

pub drive-requires : goal.drive-requires
drive-requires g c =
    let now = c.args.self.now in
    let outset : Outset = record { principal = c.args.principal.now; ask = c.args.ask.now; session = now; hinted = false } in
    let sound = subst (λ (s : SessionState). IsSound s.cut) c.self.view_is c.is_sound.ensures in
    record { way = (outset, sym c.plain-course.ensures, c.in_ok-asked.ensures.way now (still_self now sound)) }

pub returns-clause-done : goal.returns-clause-done
returns-clause-done g c = λ session still.
    let outset : Outset = record { principal = c.args.principal.now; ask = c.args.ask.now; session = session; hinted = false } in
    c.drive.ensures.done outset (sym c.plain-course.ensures) (c.in_ok-asked.ensures.way session still)

pub returns-clause-unbegun : goal.returns-clause-unbegun
returns-clause-unbegun g c = λ session still.
    let outset : Outset = record { principal = c.args.principal.now; ask = c.args.ask.now; session = session; hinted = false } in
    c.drive.ensures.unbegun outset (sym c.plain-course.ensures) (c.in_ok-asked.ensures.way session still)

pub returns-clause-on : goal.returns-clause-on
returns-clause-on g c = subst (λ (s : SessionState). IsOn s c.drive.new.self) c.begin.ensures.same c.drive.ensures.on
