use Rattle.std.proofs.Common.{◌≡◌, ◌≢◌, ◌≤◌, [], length, take, refl, ap, arith}
use Rattle.std.proofs.lemmas.List.{length-take}
use Rattle.std.proofs.lemmas.Result.{IfErr-weaker, on_ok_weaker, err_from_is_err_and}
use Rattle.album_judge.specs.declared.engine.TheConstants.{PIECE}
use Rattle.album_judge.specs.Judge.{Answers}
use Rattle.album_judge.proofs.Exchanging.{exchanges_handed_on}
use Rattle.album_judge.proofs.Texts.{answers_append, answers_go_on}
use Rattle.album_judge.proofs.Turns.{has_read_more, prefix_so_far, turn_done, turn_left, turn_uncut, prefix_of_turn, last_done, last_left, prefix_of_last}
use Rattle.album_judge.proofs.engine.judge_paced.Goals as goal

-- what was held can't be handed on
pub returns-then-not-before_read-clause-err : goal.returns-then-not-before_read-clause-err
returns-then-not-before_read-clause-err g c =
    prefix_so_far Answers Answers (λ lines text h. h) answers_go_on _ _ _ _ _ _ (exchanges_handed_on _ _ _ _ _ _ c.loop-turn.invariant.answered c.before_read.ensures)

-- a read failed
pub returns-in_default-clause-err : goal.returns-in_default-clause-err
returns-in_default-clause-err g c = prefix_so_far Answers Answers (λ lines text h. h) answers_go_on _ _ _ _ _ _ (exchanges_handed_on _ _ _ _ _ _ c.loop-turn.invariant.answered c.before_read.ensures)

-- the reader is at its end
pub returns-then-len-eq0-clause-ok : goal.returns-then-len-eq0-clause-ok
returns-then-len-eq0-clause-ok g c =
    let none : take c.in-Ok.len c.read.new.buf ≡ [] = ap (λ n. take n c.read.new.buf) c.if-len-eq0.true in
    let end = c.in-Ok.ensures.bytes.1 c.if-len-eq0.true (omega arith) in
    on_ok_weaker c.finish.result
    (λ w. last_done Answers Answers _ _ _ none _ _ _ _ _ _ (exchanges_handed_on _ _ _ _ _ _ c.loop-turn.invariant.answered c.before_read.ensures) c.in-Ok.ensures.bytes.0 Answers answers_append end w)
    c.finish.ensures.ok

pub returns-then-len-eq0-clause-err : goal.returns-then-len-eq0-clause-err
returns-then-len-eq0-clause-err g c =
    let none : take c.in-Ok.len c.read.new.buf ≡ [] = ap (λ n. take n c.read.new.buf) c.if-len-eq0.true in
    let end = c.in-Ok.ensures.bytes.1 c.if-len-eq0.true (omega arith) in
    IfErr-weaker c.finish.result _ _
    (λ fault w. prefix_of_last Answers Answers _ _ _ none _ _ _ _ _ _ (exchanges_handed_on _ _ _ _ _ _ c.loop-turn.invariant.answered c.before_read.ensures) c.in-Ok.ensures.bytes.0 Answers answers_append answers_go_on fault end w)
    c.finish.ensures.fault

pub returns-then-len-eq0-clause-fault : goal.returns-then-len-eq0-clause-fault
returns-then-len-eq0-clause-fault g c =
    let none : take c.in-Ok.len c.read.new.buf ≡ [] = ap (λ n. take n c.read.new.buf) c.if-len-eq0.true in
    IfErr-weaker c.finish.result _ _
    (λ fault w. last_left Answers Answers _ _ _ none _ _ _ _ _ _ (exchanges_handed_on _ _ _ _ _ _ c.loop-turn.invariant.answered c.before_read.ensures) c.in-Ok.ensures.bytes.0 Answers answers_append answers_go_on fault w)
    c.finish.ensures.fault

-- no memory for the lines
pub returns-in_err-ended-clause-err : goal.returns-in_err-ended-clause-err
returns-in_err-ended-clause-err g c =
    let p = err_from_is_err_and c.from_residual.result c.from_residual.ensures.1 in
    rw p.1 (prefix_so_far Answers Answers (λ lines text h. h) answers_go_on _ _ _ _ _ _ (exchanges_handed_on _ _ _ _ _ _ c.loop-turn.invariant.answered c.before_read.ensures))

pub returns-in_err-ended-clause-fault : goal.returns-in_err-ended-clause-fault
returns-in_err-ended-clause-fault g c =
    let p = err_from_is_err_and c.from_residual.result c.from_residual.ensures.1 in
    let some : take c.in-Ok.len c.read.new.buf ≢ [] =
    λ none. absurd (omega (arith, ap length none, length-take c.in-Ok.len c.read.new.buf, c.in-Ok.ensures.bound)) in
    rw (p.1, p.2) (turn_uncut Answers Answers _ _ _ _ _ refl Answers (λ lines text h. h) _ _ _ _ _ some (exchanges_handed_on _ _ _ _ _ _ c.loop-turn.invariant.answered c.before_read.ensures) c.in-Ok.ensures.bytes.0)

pub returns-in_err-ended-clause-few : goal.returns-in_err-ended-clause-few
returns-in_err-ended-clause-few g c =
    let short : length (take c.in-Ok.len c.read.new.buf) ≤ PIECE =
    omega (arith, length-take c.in-Ok.len c.read.new.buf) in
    has_read_more Answers _ _ _ _ _ _ _ _ _ (exchanges_handed_on _ _ _ _ _ _ c.loop-turn.invariant.answered c.before_read.ensures) c.in-Ok.ensures.bytes.0 short c.loop-turn-test.true

-- an answer is not written
pub returns-in_err-answer_lines-clause-err : goal.returns-in_err-answer_lines-clause-err
returns-in_err-answer_lines-clause-err g c =
    let p =
    err_from_is_err_and c.from_residual-in_err-answer_lines.result c.from_residual-in_err-answer_lines.ensures.1 in
    let left = rw c.deref.ensures.value at c.in_err-answer_lines.ensures.fault in
    rw p.1
    (prefix_of_turn Answers Answers _ _ _ _ _ c.in_ok-ended.ensures.lines Answers answers_append answers_go_on answers_go_on c.in_err-answer_lines.field-0.0 _ _ _ _ _ _
    (exchanges_handed_on _ _ _ _ _ _ c.loop-turn.invariant.answered c.before_read.ensures) c.in-Ok.ensures.bytes.0 left)

pub returns-in_err-answer_lines-clause-fault : goal.returns-in_err-answer_lines-clause-fault
returns-in_err-answer_lines-clause-fault g c =
    let p =
    err_from_is_err_and c.from_residual-in_err-answer_lines.result c.from_residual-in_err-answer_lines.ensures.1 in
    let left = rw c.deref.ensures.value at c.in_err-answer_lines.ensures.fault in
    rw (p.1, p.2)
    (turn_left Answers Answers _ _ _ _ _ c.in_ok-ended.ensures.lines Answers answers_append answers_go_on c.in_err-answer_lines.field-0.0 _ _ _ _ _ _
    (exchanges_handed_on _ _ _ _ _ _ c.loop-turn.invariant.answered c.before_read.ensures) c.in-Ok.ensures.bytes.0 left)

pub returns-in_err-answer_lines-clause-few : goal.returns-in_err-answer_lines-clause-few
returns-in_err-answer_lines-clause-few g c =
    let short : length (take c.in-Ok.len c.read.new.buf) ≤ PIECE =
    omega (arith, length-take c.in-Ok.len c.read.new.buf) in
    has_read_more Answers _ _ _ _ _ _ _ _ _ (exchanges_handed_on _ _ _ _ _ _ c.loop-turn.invariant.answered c.before_read.ensures) c.in-Ok.ensures.bytes.0 short c.loop-turn-test.true

-- the next turn
pub loop-turn-preserved : goal.loop-turn-preserved
loop-turn-preserved g c =
    let short : length (take c.in-Ok.len c.read.new.buf) ≤ PIECE =
    omega (arith, length-take c.in-Ok.len c.read.new.buf) in
    record {
      answered =
          turn_done Answers Answers _ _ _ _ _ c.in_ok-ended.ensures.lines Answers answers_append _ _ _ _ _ _ short (exchanges_handed_on _ _ _ _ _ _ c.loop-turn.invariant.answered c.before_read.ensures) c.in-Ok.ensures.bytes.0
          (rw c.deref.ensures.value at c.in_ok-answer_lines.ensures.ok);
      unread = λ none. absurd (omega (arith, none, c.loop-turn-test.true));
    }

-- the turns ran out
pub returns-clause-err : goal.returns-clause-err
returns-clause-err g c = prefix_so_far Answers Answers (λ lines text h. h) answers_go_on _ _ _ _ _ _ c.loop-turn.invariant.answered
