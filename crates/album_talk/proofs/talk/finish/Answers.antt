use Rattle.std.proofs.Common.{List, OnOk, IfErr, subst}
use Rattle.album_lines.specs.Lines.{Line}
use Rattle.album_talk.specs.Talk.{Talks, MayTalk, rules_of}
use Rattle.album_judge.specs.Writes.{Writes, IsLeftBy}
use Rattle.album_talk.proofs.Talking.{lines_begin}
use Rattle.album_talk.proofs.Recording.{recorded_begins}
use Rattle.album_talk.proofs.talk.finish.Goals as goal

-- the input ends in a newline
pub returns-in-None-clause-ok : goal.returns-in-None-clause-ok
returns-in-None-clause-ok g c =
    let limit = g.J.DeskNames.terms.limit in
    let policy = g.J.ServiceNames.policy in
    let admins = (rules_of c.args.admins.now c.args.epoch.now) in
    let written = g.W.Write.contents c.args.writer.now in
    subst (λ (ls : List Line). Writes (Talks limit policy admins (record { who = c.args.who.now; session = c.args.session.now }) ls
    (record { who = c.args.who.now; session = c.args.session.now })) written written) c.in-None.ensures
    (lines_begin limit policy admins (record { who = c.args.who.now; session = c.args.session.now }) written)

pub returns-in-None-clause-recorded : goal.returns-in-None-clause-recorded
returns-in-None-clause-recorded g c =
    recorded_begins g.J.DeskNames.terms.limit g.J.ServiceNames.policy (rules_of c.args.admins.now c.args.epoch.now) (g.A.Journal.recorded c.args.journal.now)
    (record { who = c.args.who.now; session = c.args.session.now }) (g.W.Write.contents c.args.writer.now)

-- it does not
pub returns-in-Some-clause-ok : goal.returns-in-Some-clause-ok
returns-in-Some-clause-ok g c =
    subst (λ (ls : List Line). OnOk c.answer_lines.result (Writes
    (Talks g.J.DeskNames.terms.limit g.J.ServiceNames.policy (rules_of c.args.admins.now c.args.epoch.now) (record { who = c.args.who.now; session = c.args.session.now }) ls
    (record { who = c.answer_lines.new.who; session = c.answer_lines.new.session }))
    (g.W.Write.contents c.args.writer.now) (g.W.Write.contents c.answer_lines.new.writer)))
    c.in-Some.ensures c.answer_lines.ensures.ok

pub returns-in-Some-clause-fault : goal.returns-in-Some-clause-fault
returns-in-Some-clause-fault g c =
    subst (λ (ls : List Line). IfErr c.answer_lines.result (λ fault. Writes
    (IsLeftBy fault (MayTalk g.J.DeskNames.terms.limit g.J.ServiceNames.policy (rules_of c.args.admins.now c.args.epoch.now) c.answer_lines.new.session
    (record { who = c.args.who.now; session = c.args.session.now })) ls)
    (g.W.Write.contents c.args.writer.now) (g.W.Write.contents c.answer_lines.new.writer)))
    c.in-Some.ensures c.answer_lines.ensures.fault
