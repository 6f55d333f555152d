use Rattle.std.proofs.Common.{◌≡◌, ◌≢◌, ◌≤◌, ℕ, List, [], Option, length, take, refl, sym, ap, subst, arith}
use Rattle.std.proofs.lemmas.List.{length-take}
use Rattle.std.proofs.lemmas.Result.{IfErr-weaker, on_ok_weaker, err_from_is_err_and}
use Rattle.album_sessions.proofs.SessionLemmas.{on_self, on_trans}
use Rattle.album_judge.specs.declared.engine.TheConstants.{PIECE}
use Rattle.album_talk.specs.Talk.{rules_of}
use Rattle.album_talk.proofs.TalkTurns.{HasTalked, begins, has_read_more, prefix_so_far, turn_done, turn_left, turn_uncut, prefix_of_turn, last_done, last_left, prefix_of_last}
use Rattle.album_talk.proofs.Recording.{by_outcome, recorded_begins, recorded_part, recorded_joined, recorded_part_joined}
use Rattle.album_talk.proofs.talk.talk_on.Goals as goal

pub loop-turn-init : goal.loop-turn-init
loop-turn-init g c = record {
  talked = subst
      (λ (unfinished : Option (List ℕ)). HasTalked g.J.DeskNames.terms.limit g.J.ServiceNames.policy (rules_of c.args.admins.now c.args.epoch.now)
      (record { who = c.args.who.now; session = c.args.session.now })
      (record { who = c.args.who.now; session = c.args.session.now }) 0 unfinished
      (g.R.Read.remaining c.args.reader.now) (g.R.Read.remaining c.args.reader.now)
      (g.W.Write.contents c.args.writer.now) (g.W.Write.contents c.args.writer.now))
      (sym c.new-lines.ensures)
      (begins g.J.DeskNames.terms.limit g.J.ServiceNames.policy (rules_of c.args.admins.now c.args.epoch.now)
      (record { who = c.args.who.now; session = c.args.session.now })
      (g.R.Read.remaining c.args.reader.now) (g.W.Write.contents c.args.writer.now));
  recorded = recorded_begins g.J.DeskNames.terms.limit g.J.ServiceNames.policy (rules_of c.args.admins.now c.args.epoch.now) (g.A.Journal.recorded c.args.journal.now) _ (g.W.Write.contents c.args.writer.now);
  on = on_self c.args.session.now c.has_granted_writes.ensures.sound;
  unread = λ _. refl;
}

-- a read failed
pub returns-in_default-clause-err : goal.returns-in_default-clause-err
returns-in_default-clause-err g c = prefix_so_far _ _ _ _ _ _ _ _ _ _ _ c.loop-turn.invariant.talked _ (on_self _ c.loop-turn.invariant.on.sound)

pub returns-in_default-clause-recorded : goal.returns-in_default-clause-recorded
returns-in_default-clause-recorded g c =
    recorded_part g.J.DeskNames.terms.limit g.J.ServiceNames.policy (rules_of c.args.admins.now c.args.epoch.now) (g.A.Journal.recorded c.args.journal.now) _ _ _ _ c.loop-turn.invariant.recorded

-- the reader is at its end
pub returns-then-len-eq0-clause-ok : goal.returns-then-len-eq0-clause-ok
returns-then-len-eq0-clause-ok g c =
    let none : take c.in-Ok.len c.read.new.buf ≡ [] = ap (λ n. take n c.read.new.buf) c.if-len-eq0.true in
    let end = c.in-Ok.ensures.bytes.1 c.if-len-eq0.true (omega arith) in
    on_ok_weaker c.finish.result
    (λ w. last_done _ _ _ _ _ _ _ _ _ _ _ c.loop-turn.invariant.talked _ _ c.in-Ok.ensures.bytes.0 none
    (record { who = c.finish.new.who; session = c.finish.new.session }) _ end w)
    c.finish.ensures.ok

pub returns-then-len-eq0-clause-err : goal.returns-then-len-eq0-clause-err
returns-then-len-eq0-clause-err g c =
    let none : take c.in-Ok.len c.read.new.buf ≡ [] = ap (λ n. take n c.read.new.buf) c.if-len-eq0.true in
    let end = c.in-Ok.ensures.bytes.1 c.if-len-eq0.true (omega arith) in
    IfErr-weaker c.finish.result _ _
    (λ fault w. prefix_of_last _ _ _ _ _ _ _ _ _ _ _ c.loop-turn.invariant.talked _ _ c.in-Ok.ensures.bytes.0 none _ fault _ end w)
    c.finish.ensures.fault

pub returns-then-len-eq0-clause-fault : goal.returns-then-len-eq0-clause-fault
returns-then-len-eq0-clause-fault g c =
    let none : take c.in-Ok.len c.read.new.buf ≡ [] = ap (λ n. take n c.read.new.buf) c.if-len-eq0.true in
    IfErr-weaker c.finish.result _ _
    (λ fault w. last_left _ _ _ _ _ _ _ _ _ _ _ c.loop-turn.invariant.talked _ _ c.in-Ok.ensures.bytes.0 none _ fault _ w)
    c.finish.ensures.fault

pub returns-then-len-eq0-clause-on : goal.returns-then-len-eq0-clause-on
returns-then-len-eq0-clause-on g c = on_trans _ _ _ c.loop-turn.invariant.on c.finish.ensures.on

pub returns-then-len-eq0-clause-recorded : goal.returns-then-len-eq0-clause-recorded
returns-then-len-eq0-clause-recorded g c =
    by_outcome c.finish.result
    (λ w. recorded_part g.J.DeskNames.terms.limit g.J.ServiceNames.policy (rules_of c.args.admins.now c.args.epoch.now) (g.A.Journal.recorded c.args.journal.now) _ _ _ _ (recorded_joined g.J.DeskNames.terms.limit g.J.ServiceNames.policy (rules_of c.args.admins.now c.args.epoch.now) (g.A.Journal.recorded c.args.journal.now) _ _ _ _ _ _ c.loop-turn.invariant.recorded w))
    (λ w. recorded_part_joined g.J.DeskNames.terms.limit g.J.ServiceNames.policy (rules_of c.args.admins.now c.args.epoch.now) (g.A.Journal.recorded c.args.journal.now) _ _ _ _ _ c.loop-turn.invariant.recorded w)
    c.finish.ensures.recorded c.finish.ensures.part

-- no memory for the lines
pub returns-in_err-ended-clause-err : goal.returns-in_err-ended-clause-err
returns-in_err-ended-clause-err g c =
    let p = err_from_is_err_and c.from_residual.result c.from_residual.ensures.1 in
    rw p.1 (prefix_so_far _ _ _ _ _ _ _ _ _ _ _ c.loop-turn.invariant.talked _ (on_self _ c.loop-turn.invariant.on.sound))

pub returns-in_err-ended-clause-fault : goal.returns-in_err-ended-clause-fault
returns-in_err-ended-clause-fault g c =
    let p = err_from_is_err_and c.from_residual.result c.from_residual.ensures.1 in
    let some : take c.in-Ok.len c.read.new.buf ≢ [] =
    λ none. absurd (omega (arith, ap length none, length-take c.in-Ok.len c.read.new.buf, c.in-Ok.ensures.bound)) in
    rw (p.1, p.2)
    (turn_uncut _ _ _ _ _ _ _ _ _ _ _ c.loop-turn.invariant.talked _ _ c.in-Ok.ensures.bytes.0 _ _ refl _ (on_self _ c.loop-turn.invariant.on.sound) some)

pub returns-in_err-ended-clause-few : goal.returns-in_err-ended-clause-few
returns-in_err-ended-clause-few g c =
    let short : length (take c.in-Ok.len c.read.new.buf) ≤ PIECE =
    omega (arith, length-take c.in-Ok.len c.read.new.buf) in
    has_read_more _ _ _ _ _ _ _ _ _ _ _ c.loop-turn.invariant.talked _ _ c.in-Ok.ensures.bytes.0 _ short c.loop-turn-test.true

pub returns-in_err-ended-clause-recorded : goal.returns-in_err-ended-clause-recorded
returns-in_err-ended-clause-recorded g c =
    recorded_part g.J.DeskNames.terms.limit g.J.ServiceNames.policy (rules_of c.args.admins.now c.args.epoch.now) (g.A.Journal.recorded c.args.journal.now) _ _ _ _ c.loop-turn.invariant.recorded

-- an answer is not written
pub returns-in_err-answer_lines-clause-err : goal.returns-in_err-answer_lines-clause-err
returns-in_err-answer_lines-clause-err g c =
    let p =
    err_from_is_err_and c.from_residual-in_err-answer_lines.result c.from_residual-in_err-answer_lines.ensures.1 in
    let left = rw c.deref.ensures.value at c.in_err-answer_lines.ensures.fault in
    rw p.1
    (prefix_of_turn _ _ _ _ _ _ _ _ _ _ _ c.loop-turn.invariant.talked _ _ c.in-Ok.ensures.bytes.0 _ _
    c.in_ok-ended.ensures.lines _ c.in_err-answer_lines.field-0.0 _ left)

pub returns-in_err-answer_lines-clause-fault : goal.returns-in_err-answer_lines-clause-fault
returns-in_err-answer_lines-clause-fault g c =
    let p =
    err_from_is_err_and c.from_residual-in_err-answer_lines.result c.from_residual-in_err-answer_lines.ensures.1 in
    let left = rw c.deref.ensures.value at c.in_err-answer_lines.ensures.fault in
    rw (p.1, p.2)
    (turn_left _ _ _ _ _ _ _ _ _ _ _ c.loop-turn.invariant.talked _ _ c.in-Ok.ensures.bytes.0 _ _
    c.in_ok-ended.ensures.lines _ c.in_err-answer_lines.field-0.0 _ left)

pub returns-in_err-answer_lines-clause-few : goal.returns-in_err-answer_lines-clause-few
returns-in_err-answer_lines-clause-few g c =
    let short : length (take c.in-Ok.len c.read.new.buf) ≤ PIECE =
    omega (arith, length-take c.in-Ok.len c.read.new.buf) in
    has_read_more _ _ _ _ _ _ _ _ _ _ _ c.loop-turn.invariant.talked _ _ c.in-Ok.ensures.bytes.0 _ short c.loop-turn-test.true

pub returns-in_err-answer_lines-clause-on : goal.returns-in_err-answer_lines-clause-on
returns-in_err-answer_lines-clause-on g c = on_trans _ _ _ c.loop-turn.invariant.on c.answer_lines.ensures.on

pub returns-in_err-answer_lines-clause-recorded : goal.returns-in_err-answer_lines-clause-recorded
returns-in_err-answer_lines-clause-recorded g c =
    recorded_part_joined g.J.DeskNames.terms.limit g.J.ServiceNames.policy (rules_of c.args.admins.now c.args.epoch.now) (g.A.Journal.recorded c.args.journal.now) _ _ _ _ _ c.loop-turn.invariant.recorded c.in_err-answer_lines.ensures.part

-- the next turn
pub loop-turn-preserved : goal.loop-turn-preserved
loop-turn-preserved g c =
    let short : length (take c.in-Ok.len c.read.new.buf) ≤ PIECE =
    omega (arith, length-take c.in-Ok.len c.read.new.buf) in
    record {
      talked =
          turn_done _ _ _ _ _ _ _ _ _ _ _ c.loop-turn.invariant.talked _ _ c.in-Ok.ensures.bytes.0 _ _
          c.in_ok-ended.ensures.lines (record { who = c.answer_lines.new.who; session = c.answer_lines.new.session }) _ short
          (rw c.deref.ensures.value at c.in_ok-answer_lines.ensures.ok);
      recorded = recorded_joined g.J.DeskNames.terms.limit g.J.ServiceNames.policy (rules_of c.args.admins.now c.args.epoch.now) (g.A.Journal.recorded c.args.journal.now) _ _ _ _ _ _ c.loop-turn.invariant.recorded c.in_ok-answer_lines.ensures.recorded;
      on = on_trans _ _ _ c.loop-turn.invariant.on c.answer_lines.ensures.on;
      unread = λ none. absurd (omega (arith, none, c.loop-turn-test.true));
    }

-- the turns ran out
pub returns-clause-err : goal.returns-clause-err
returns-clause-err g c = prefix_so_far _ _ _ _ _ _ _ _ _ _ _ c.loop-turn.invariant.talked _ (on_self _ c.loop-turn.invariant.on.sound)

pub returns-clause-recorded : goal.returns-clause-recorded
returns-clause-recorded g c =
    recorded_part g.J.DeskNames.terms.limit g.J.ServiceNames.policy (rules_of c.args.admins.now c.args.epoch.now) (g.A.Journal.recorded c.args.journal.now) _ _ _ _ c.loop-turn.invariant.recorded
