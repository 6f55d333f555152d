use Rattle.std.proofs.Common.{◌≡◌, ◌≢◌, ◌≤◌, [], length, take, inr, refl, sym, ap, ◌∙◌, arith}
use Rattle.std.proofs.lemmas.List.{length-take}
use Rattle.std.proofs.lemmas.Result.{IfErr-weaker, on_ok_weaker, err_from_is_err_and}
use Rattle.album_judge.specs.declared.engine.TheConstants.{PIECE}
use Rattle.album_replay.proofs.Promising.{promised}
use Rattle.album_replay.proofs.ReplayTurns.{begins, has_read_more, over_now, over_whole, prefix_so_far, turn_done, turn_left, turn_uncut, prefix_of_turn, last_done, last_left, prefix_of_last}
use Rattle.album_replay.proofs.engine.replay.Goals as goal

pub loop-turn-init : goal.loop-turn-init
loop-turn-init g c = record {
  replayed =
      rw c.new-lines.ensures (begins (g.R.Read.remaining c.args.reader.now) (g.W.Write.contents c.args.writer.now));
  unread = λ none. refl;
}

-- a read failed
pub returns-in_default-clause-err : goal.returns-in_default-clause-err
returns-in_default-clause-err g c = prefix_so_far _ _ _ _ _ _ _ c.loop-turn.invariant.replayed

-- the reader is at its end
pub returns-then-len-eq0-clause-ok : goal.returns-then-len-eq0-clause-ok
returns-then-len-eq0-clause-ok g c =
    let none : take c.in-Ok.len c.read.new.buf ≡ [] = ap (λ n. take n c.read.new.buf) c.if-len-eq0.true in
    let end = c.in-Ok.ensures.bytes.1 c.if-len-eq0.true (omega arith) in
    on_ok_weaker c.finish.result
    (λ w. last_done _ _ _ _ none _ _ _ _ _ _ c.loop-turn.invariant.replayed c.in-Ok.ensures.bytes.0 end w)
    c.finish.ensures.ok

pub returns-then-len-eq0-clause-promise : goal.returns-then-len-eq0-clause-promise
returns-then-len-eq0-clause-promise g c =
    on_ok_weaker c.finish.result (promised _ _ _) (returns-then-len-eq0-clause-ok g c)

pub returns-then-len-eq0-clause-err : goal.returns-then-len-eq0-clause-err
returns-then-len-eq0-clause-err g c =
    let none : take c.in-Ok.len c.read.new.buf ≡ [] = ap (λ n. take n c.read.new.buf) c.if-len-eq0.true in
    let end = c.in-Ok.ensures.bytes.1 c.if-len-eq0.true (omega arith) in
    IfErr-weaker c.finish.result _ _
    (λ fault w. prefix_of_last _ _ _ _ none _ _ _ _ _ _ c.loop-turn.invariant.replayed c.in-Ok.ensures.bytes.0 fault end w)
    c.finish.ensures.fault

pub returns-then-len-eq0-clause-fault : goal.returns-then-len-eq0-clause-fault
returns-then-len-eq0-clause-fault g c =
    let none : take c.in-Ok.len c.read.new.buf ≡ [] = ap (λ n. take n c.read.new.buf) c.if-len-eq0.true in
    IfErr-weaker c.finish.result _ _
    (λ fault w. last_left _ _ _ _ none _ _ _ _ _ _ c.loop-turn.invariant.replayed c.in-Ok.ensures.bytes.0 fault w)
    c.finish.ensures.fault

-- no memory for the lines
pub returns-in_err-ended-clause-err : goal.returns-in_err-ended-clause-err
returns-in_err-ended-clause-err g c =
    let p = err_from_is_err_and c.from_residual.result c.from_residual.ensures.1 in
    rw p.1 (prefix_so_far _ _ _ _ _ _ _ c.loop-turn.invariant.replayed)

pub returns-in_err-ended-clause-fault : goal.returns-in_err-ended-clause-fault
returns-in_err-ended-clause-fault g c =
    let p = err_from_is_err_and c.from_residual.result c.from_residual.ensures.1 in
    let some : take c.in-Ok.len c.read.new.buf ≢ [] =
    λ none. absurd (omega (arith, ap length none, length-take c.in-Ok.len c.read.new.buf, c.in-Ok.ensures.bound)) in
    rw (p.1, p.2) (turn_uncut _ _ _ _ _ _ refl _ _ _ _ _ some c.loop-turn.invariant.replayed c.in-Ok.ensures.bytes.0)

pub returns-in_err-ended-clause-few : goal.returns-in_err-ended-clause-few
returns-in_err-ended-clause-few g c =
    let short : length (take c.in-Ok.len c.read.new.buf) ≤ PIECE =
    omega (arith, length-take c.in-Ok.len c.read.new.buf) in
    has_read_more _ _ _ _ _ _ _ _ _ _ c.loop-turn.invariant.replayed c.in-Ok.ensures.bytes.0 short c.loop-turn-test.true

-- an answer is not written
pub returns-in_err-take_lines-clause-err : goal.returns-in_err-take_lines-clause-err
returns-in_err-take_lines-clause-err g c =
    let p =
    err_from_is_err_and c.from_residual-in_err-take_lines.result c.from_residual-in_err-take_lines.ensures.1 in
    let left = rw c.deref.ensures.value at c.in_err-take_lines.ensures.fault in
    rw p.1
    (prefix_of_turn _ _ _ _ _ _ c.in_ok-ended.ensures.lines c.in_err-take_lines.field-0.0 _ _ _ _ _ _
    c.loop-turn.invariant.replayed c.in-Ok.ensures.bytes.0 left)

pub returns-in_err-take_lines-clause-fault : goal.returns-in_err-take_lines-clause-fault
returns-in_err-take_lines-clause-fault g c =
    let p =
    err_from_is_err_and c.from_residual-in_err-take_lines.result c.from_residual-in_err-take_lines.ensures.1 in
    let left = rw c.deref.ensures.value at c.in_err-take_lines.ensures.fault in
    rw (p.1, p.2)
    (turn_left _ _ _ _ _ _ c.in_ok-ended.ensures.lines c.in_err-take_lines.field-0.0 _ _ _ _ _ _
    c.loop-turn.invariant.replayed c.in-Ok.ensures.bytes.0 left)

pub returns-in_err-take_lines-clause-few : goal.returns-in_err-take_lines-clause-few
returns-in_err-take_lines-clause-few g c =
    let short : length (take c.in-Ok.len c.read.new.buf) ≤ PIECE =
    omega (arith, length-take c.in-Ok.len c.read.new.buf) in
    has_read_more _ _ _ _ _ _ _ _ _ _ c.loop-turn.invariant.replayed c.in-Ok.ensures.bytes.0 short c.loop-turn-test.true

-- the next turn
pub loop-turn-preserved : goal.loop-turn-preserved
loop-turn-preserved g c =
    let short : length (take c.in-Ok.len c.read.new.buf) ≤ PIECE =
    omega (arith, length-take c.in-Ok.len c.read.new.buf) in
    record {
      replayed =
          turn_done _ _ _ _ _ _ c.in_ok-ended.ensures.lines _ _ _ _ _ _ _ short c.loop-turn.invariant.replayed c.in-Ok.ensures.bytes.0
          (rw c.deref.ensures.value at c.in_ok-take_lines.ensures.ok);
      unread = λ none. absurd (omega (arith, none, c.loop-turn-test.true));
    }

-- the turns ran out
pub returns-clause-err : goal.returns-clause-err
returns-clause-err g c = prefix_so_far _ _ _ _ _ _ _ c.loop-turn.invariant.replayed

-- an opening was refused
pub returns-then-is_over-clause-ok : goal.returns-then-is_over-clause-ok
returns-then-is_over-clause-ok g c =
    let short : length (take c.in-Ok.len c.read.new.buf) ≤ PIECE =
    omega (arith, length-take c.in-Ok.len c.read.new.buf) in
    over_whole _ _ _ _ _ _ _ (sym c.is_over.ensures ∙ c.if-is_over.true)
    (turn_done _ _ _ _ _ _ c.in_ok-ended.ensures.lines _ _ _ _ _ _ _ short c.loop-turn.invariant.replayed c.in-Ok.ensures.bytes.0
    (rw c.deref.ensures.value at c.in_ok-take_lines.ensures.ok))

pub returns-then-is_over-clause-promise : goal.returns-then-is_over-clause-promise
returns-then-is_over-clause-promise g c = promised _ _ _ (returns-then-is_over-clause-ok g c)

pub returns-then-is_over-clause-whole : goal.returns-then-is_over-clause-whole
returns-then-is_over-clause-whole g c =
    let short : length (take c.in-Ok.len c.read.new.buf) ≤ PIECE =
    omega (arith, length-take c.in-Ok.len c.read.new.buf) in
    inr (over_now _ _ _ _ _ _ _ (sym c.is_over.ensures ∙ c.if-is_over.true)
    (turn_done _ _ _ _ _ _ c.in_ok-ended.ensures.lines _ _ _ _ _ _ _ short c.loop-turn.invariant.replayed c.in-Ok.ensures.bytes.0
    (rw c.deref.ensures.value at c.in_ok-take_lines.ensures.ok)))

pub returns-then-is_over-clause-few : goal.returns-then-is_over-clause-few
returns-then-is_over-clause-few g c =
    let short : length (take c.in-Ok.len c.read.new.buf) ≤ PIECE =
    omega (arith, length-take c.in-Ok.len c.read.new.buf) in
    has_read_more _ _ _ _ _ _ _ _ _ _ c.loop-turn.invariant.replayed c.in-Ok.ensures.bytes.0 short c.loop-turn-test.true
