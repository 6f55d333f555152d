use Rattle.album_sessions.proofs.AttemptLemmas.{settled_rests, settled_adds}
use Rattle.album_sessions.proofs.SessionLemmas.{on_trans}
use Rattle.album_sessions.proofs.session.Session.attempt.Goals as goal

-- what the aborted write has prepared was settled since
pub returns-clause-rests : goal.returns-clause-rests
returns-clause-rests g c =
    settled_rests g.J.DeskNames.terms.limit g.J.ServiceNames.policy c.args.principal.now c.args.ask.now c.args.self.now c.answer-answer.new.self
    c.settle_after.new.self c.answer-answer.result c.answer-answer.ensures.on c.settle_after.ensures.still c.settle_after.ensures.others c.answer-answer.ensures.rests

pub returns-clause-unbegun : goal.returns-clause-unbegun
returns-clause-unbegun g c =
    settled_adds g.J.DeskNames.terms.limit g.J.ServiceNames.policy c.args.principal.now c.args.ask.now c.args.self.now c.answer-answer.new.self
    c.settle_after.new.self c.answer-answer.result c.settle_after.ensures.others c.answer-answer.ensures.unbegun

pub returns-clause-on : goal.returns-clause-on
returns-clause-on g c =
    on_trans c.args.self.now c.answer-answer.new.self c.settle_after.new.self c.answer-answer.ensures.on c.settle_after.ensures.still.on
