use Rattle.std.proofs.lemmas.Result.{err_from_is_err_and}
use Rattle.album_sessions.proofs.SessionLemmas.{on_self, on_trans}
use Rattle.album_lines.specs.Lines.{said}
use Rattle.album_talk.specs.Talk.{rules_of}
use Rattle.album_talk.proofs.Talking.{lines_begin, lines_next, lines_cut, lines_unanswered}
use Rattle.album_talk.proofs.Recording.{recorded_begins, recorded_by, written_by, recorded_next, recorded_cut, recorded_part}
use Rattle.album_talk.proofs.talk.answer_lines.Goals as goal

pub loop-line-init : goal.loop-line-init
loop-line-init g c = record {
  written = lines_begin g.J.DeskNames.terms.limit g.J.ServiceNames.policy (rules_of c.args.admins.now c.args.epoch.now) _ (g.W.Write.contents c.args.writer.now);
  recorded = recorded_begins g.J.DeskNames.terms.limit g.J.ServiceNames.policy (rules_of c.args.admins.now c.args.epoch.now) (g.A.Journal.recorded c.args.journal.now) _ (g.W.Write.contents c.args.writer.now);
  on = on_self c.args.session.now c.has_granted_writes.ensures.sound;
}

pub loop-line-preserved : goal.loop-line-preserved
loop-line-preserved g c = record {
  written =
      lines_next g.J.DeskNames.terms.limit g.J.ServiceNames.policy (rules_of c.args.admins.now c.args.epoch.now) said c.args.lines.now c.loop-line.line-index c.line-item.result
      c.loop-line-test.true c.line-item.is _ _ _ _ _ _ _ c.loop-line.invariant.written c.in_ok-reply.ensures.answered
      (rw c.deref.ensures.value at c.in_ok-write_settled.ensures.ok);
  recorded =
      recorded_next g.J.DeskNames.terms.limit g.J.ServiceNames.policy (rules_of c.args.admins.now c.args.epoch.now) (g.A.Journal.recorded c.args.journal.now) _ _ _
      (said c.line-item.result) _ _ _ _ c.loop-line.invariant.recorded c.in_ok-reply.ensures.answered
      (rw c.deref.ensures.value at c.in_ok-write_settled.ensures.ok)
      (recorded_by g.J.DeskNames.terms.limit g.J.ServiceNames.policy (rules_of c.args.admins.now c.args.epoch.now) (g.A.Journal.recorded c.args.journal.now)
      (record { who = c.loop-line.who; session = c.loop-line.session })
      (record { who = c.answer.new.who; session = c.answer.new.session }) (said c.line-item.result) _ _
      c.in_ok-reply.ensures.ended (rw c.deref.ensures.value at c.in_ok-write_settled.ensures.recorded));
  on = on_trans _ _ _ c.loop-line.invariant.on c.in_ok-reply.ensures.on;
}

-- there is no memory for an answer
pub returns-in_err-reply-clause-fault : goal.returns-in_err-reply-clause-fault
returns-in_err-reply-clause-fault g c =
    let p = err_from_is_err_and c.from_residual.result c.from_residual.ensures.1 in
    rw (p.1, p.2)
    (lines_unanswered g.J.DeskNames.terms.limit g.J.ServiceNames.policy (rules_of c.args.admins.now c.args.epoch.now) said c.args.lines.now c.loop-line.line-index
    c.loop-line-test.true _ _ _ _ c.loop-line.invariant.written _ c.answer.ensures.on)

pub returns-in_err-reply-clause-part : goal.returns-in_err-reply-clause-part
returns-in_err-reply-clause-part g c =
    let p = err_from_is_err_and c.from_residual.result c.from_residual.ensures.1 in
    rw p.1
    (recorded_part g.J.DeskNames.terms.limit g.J.ServiceNames.policy (rules_of c.args.admins.now c.args.epoch.now) (g.A.Journal.recorded c.args.journal.now) _ _ _ _ c.loop-line.invariant.recorded)

pub returns-in_err-reply-clause-on : goal.returns-in_err-reply-clause-on
returns-in_err-reply-clause-on g c = on_trans _ _ _ c.loop-line.invariant.on c.answer.ensures.on

-- it is not written
pub returns-in_err-write_settled-clause-fault : goal.returns-in_err-write_settled-clause-fault
returns-in_err-write_settled-clause-fault g c =
    let p =
    err_from_is_err_and c.from_residual-in_err-write_settled.result c.from_residual-in_err-write_settled.ensures.1 in
    rw (p.1, p.2, c.in_err-write_settled.ensures.fault)
    (lines_cut g.J.DeskNames.terms.limit g.J.ServiceNames.policy (rules_of c.args.admins.now c.args.epoch.now) said c.args.lines.now c.loop-line.line-index c.line-item.result
    c.loop-line-test.true c.line-item.is _ _ _ _ _ _ _ c.loop-line.invariant.written c.in_ok-reply.ensures.answered _
    (on_self _ c.in_ok-reply.ensures.on.sound) (rw c.deref.ensures.value at c.in_err-write_settled.ensures.err))

pub returns-in_err-write_settled-clause-part : goal.returns-in_err-write_settled-clause-part
returns-in_err-write_settled-clause-part g c =
    let p =
    err_from_is_err_and c.from_residual-in_err-write_settled.result c.from_residual-in_err-write_settled.ensures.1 in
    rw p.1
    (recorded_cut g.J.DeskNames.terms.limit g.J.ServiceNames.policy (rules_of c.args.admins.now c.args.epoch.now) (g.A.Journal.recorded c.args.journal.now) _ _ _
    (said c.line-item.result) _ _ _ _ c.loop-line.invariant.recorded c.in_ok-reply.ensures.answered
    (written_by g.J.DeskNames.terms.limit g.J.ServiceNames.policy (rules_of c.args.admins.now c.args.epoch.now) (g.A.Journal.recorded c.args.journal.now)
    (record { who = c.loop-line.who; session = c.loop-line.session })
    (record { who = c.answer.new.who; session = c.answer.new.session }) (said c.line-item.result) _ _ _ _
    c.in_ok-reply.ensures.ended (rw c.deref.ensures.value at c.in_err-write_settled.ensures.part)))

pub returns-in_err-write_settled-clause-on : goal.returns-in_err-write_settled-clause-on
returns-in_err-write_settled-clause-on g c = on_trans _ _ _ c.loop-line.invariant.on c.in_ok-reply.ensures.on
