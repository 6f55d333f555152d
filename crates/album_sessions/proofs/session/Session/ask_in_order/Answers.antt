use Rattle.std.proofs.Common.{sym, subst, ap, ◌∙◌}
use Rattle.album_passes.specs.Cuts.{Extends}
use Rattle.album_passes.proofs.CutLemmas.{extends_trans}
use Rattle.album_sessions.specs.Attempts.{RestsOnLast}
use Rattle.album_sessions.specs.Sessions.{SessionState}
use Rattle.album_sessions.proofs.AttemptLemmas.{last_still}
use Rattle.album_sessions.proofs.session.Session.ask_in_order.Goals as goal

-- it is refused
pub returns-in_err-answer-clause-grown : goal.returns-in_err-answer-clause-grown
returns-in_err-answer-clause-grown g c =
    extends_trans c.args.self.now.cut c.listen-listened.new.self.cut c.ask.new.self.cut
    c.listen-listened.ensures.still.on.grown c.ask.ensures.grown

-- it is answered, and what the session has seen then is published
pub returns-clause-in_order : goal.returns-clause-in_order
returns-clause-in_order g c =
    let same = c.publish-published.ensures.same in
    let begun = c.listen-listened.new.self in
    record {
      begun = begun;
      still = c.listen-listened.ensures.still;
      has_listened = c.listen-listened.ensures.listened;
      rests = subst
          (λ (s : SessionState). RestsOnLast g.J.DeskNames.terms.limit g.J.ServiceNames.policy c.args.principal.now
          c.args.ask begun s c.in_ok-answer.answer)
          (sym same) c.in_ok-answer.ensures.rests;
      published_all = c.publish-published.ensures.cut ∙ sym (ap (λ (s : SessionState). s.cut) same);
    }

pub returns-clause-rests : goal.returns-clause-rests
returns-clause-rests g c =
    let limit = g.J.DeskNames.terms.limit in
    let policy = g.J.ServiceNames.policy in
    let answer = c.in_ok-answer.answer in
    let old = c.args.self.now in
    subst (λ (s : SessionState). RestsOnLast limit policy c.args.principal.now c.args.ask old s answer)
    (sym c.publish-published.ensures.same)
    (last_still limit policy c.args.principal.now c.args.ask old c.listen-listened.new.self c.listen-listened.ensures.still
    c.ask.new.self answer c.ask.ensures.grown c.ask.ensures.sound c.in_ok-answer.ensures.rests)

pub returns-clause-grown : goal.returns-clause-grown
returns-clause-grown g c =
    subst (λ (s : SessionState). Extends c.args.self.now.cut s.cut) (sym c.publish-published.ensures.same)
    (extends_trans c.args.self.now.cut c.listen-listened.new.self.cut c.ask.new.self.cut
    c.listen-listened.ensures.still.on.grown c.ask.ensures.grown)
