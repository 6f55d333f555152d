use Rattle.std.proofs.Common.{◌≡◌, ◌≢◌, ◌≤◌, [], length, take, refl, ap, arith}
use Rattle.std.proofs.lemmas.List.{length-take}
use Rattle.std.proofs.lemmas.Result.{IfErr-weaker, IfOk-weaker, err_from_is_err_and}
use Rattle.album_judge.specs.declared.engine.TheConstants.{PIECE}
use Rattle.album_judge.proofs.Turns.{has_read_more, reading_fails, prefix_so_far, turn_done, turn_left, turn_uncut, prefix_of_turn, last_done, last_left, prefix_of_last}
use Rattle.album_explain.specs.Explain.{at_start, Explains, ExplainsOn}
use Rattle.album_explain.proofs.Joining.{So, are_so, join_so, join_on, explanations_go_on}
use Rattle.album_explain.proofs.explaining.explain.Goals as goal

-- a read failed
pub returns-in_default-clause-err : goal.returns-in_default-clause-err
returns-in_default-clause-err g c =
    prefix_so_far (So g.E.Explainer.IsExplanation c.args.explainer c.loop-turn.progress) (ExplainsOn g.E.Explainer.IsExplanation (at_start c.args.explainer)) (are_so g.E.Explainer.IsExplanation c.args.explainer c.loop-turn.progress) (explanations_go_on g.E.Explainer.IsExplanation g.met.E.Explainer.goes_on (at_start c.args.explainer)) _ _ _ _ _ _ c.loop-turn.invariant.answered

pub returns-in_default-clause-fault : goal.returns-in_default-clause-fault
returns-in_default-clause-fault g c =
    reading_fails (So g.E.Explainer.IsExplanation c.args.explainer c.loop-turn.progress) (ExplainsOn g.E.Explainer.IsExplanation (at_start c.args.explainer)) (are_so g.E.Explainer.IsExplanation c.args.explainer c.loop-turn.progress) _ _ _ _ _ _ _ c.loop-turn.invariant.answered c.in_default.ensures.bytes

-- the reader is at its end
pub returns-then-len-eq0-clause-ok : goal.returns-then-len-eq0-clause-ok
returns-then-len-eq0-clause-ok g c =
    let none : take c.in-Ok.len c.read.new.buf ≡ [] = ap (λ n. take n c.read.new.buf) c.if-len-eq0.true in
    let end = c.in-Ok.ensures.bytes.1 c.if-len-eq0.true (omega arith) in
    IfOk-weaker c.finish.result _ _
    (λ far w. last_done (So g.E.Explainer.IsExplanation c.args.explainer c.loop-turn.progress) (λ lines text. Explains g.E.Explainer.IsExplanation c.loop-turn.progress lines far text) _ _ _ none _ _ _ _ _ _ c.loop-turn.invariant.answered c.in-Ok.ensures.bytes.0 (λ lines text. Explains g.E.Explainer.IsExplanation (at_start c.args.explainer) lines far text) (join_so g.E.Explainer.IsExplanation c.args.explainer c.loop-turn.progress far) end w)
    c.finish.ensures.ok

pub returns-then-len-eq0-clause-err : goal.returns-then-len-eq0-clause-err
returns-then-len-eq0-clause-err g c =
    let none : take c.in-Ok.len c.read.new.buf ≡ [] = ap (λ n. take n c.read.new.buf) c.if-len-eq0.true in
    let end = c.in-Ok.ensures.bytes.1 c.if-len-eq0.true (omega arith) in
    IfErr-weaker c.finish.result _ _
    (λ fault w. prefix_of_last (So g.E.Explainer.IsExplanation c.args.explainer c.loop-turn.progress) (ExplainsOn g.E.Explainer.IsExplanation c.loop-turn.progress) _ _ _ none _ _ _ _ _ _ c.loop-turn.invariant.answered c.in-Ok.ensures.bytes.0 (ExplainsOn g.E.Explainer.IsExplanation (at_start c.args.explainer)) (join_on g.E.Explainer.IsExplanation c.args.explainer c.loop-turn.progress) (explanations_go_on g.E.Explainer.IsExplanation g.met.E.Explainer.goes_on c.loop-turn.progress) fault end w)
    c.finish.ensures.fault

pub returns-then-len-eq0-clause-fault : goal.returns-then-len-eq0-clause-fault
returns-then-len-eq0-clause-fault g c =
    let none : take c.in-Ok.len c.read.new.buf ≡ [] = ap (λ n. take n c.read.new.buf) c.if-len-eq0.true in
    IfErr-weaker c.finish.result _ _
    (λ fault w. last_left (So g.E.Explainer.IsExplanation c.args.explainer c.loop-turn.progress) (ExplainsOn g.E.Explainer.IsExplanation c.loop-turn.progress) _ _ _ none _ _ _ _ _ _ c.loop-turn.invariant.answered c.in-Ok.ensures.bytes.0 (ExplainsOn g.E.Explainer.IsExplanation (at_start c.args.explainer)) (join_on g.E.Explainer.IsExplanation c.args.explainer c.loop-turn.progress) (explanations_go_on g.E.Explainer.IsExplanation g.met.E.Explainer.goes_on (at_start c.args.explainer)) fault w)
    c.finish.ensures.fault

-- no memory for the lines
pub returns-in_err-ended-clause-err : goal.returns-in_err-ended-clause-err
returns-in_err-ended-clause-err g c =
    let p = err_from_is_err_and c.from_residual.result c.from_residual.ensures.1 in
    rw p.1 (prefix_so_far (So g.E.Explainer.IsExplanation c.args.explainer c.loop-turn.progress) (ExplainsOn g.E.Explainer.IsExplanation (at_start c.args.explainer)) (are_so g.E.Explainer.IsExplanation c.args.explainer c.loop-turn.progress) (explanations_go_on g.E.Explainer.IsExplanation g.met.E.Explainer.goes_on (at_start c.args.explainer)) _ _ _ _ _ _ c.loop-turn.invariant.answered)

pub returns-in_err-ended-clause-fault : goal.returns-in_err-ended-clause-fault
returns-in_err-ended-clause-fault g c =
    let p = err_from_is_err_and c.from_residual.result c.from_residual.ensures.1 in
    let some : take c.in-Ok.len c.read.new.buf ≢ [] =
    λ none. absurd (omega (arith, ap length none, length-take c.in-Ok.len c.read.new.buf, c.in-Ok.ensures.bound)) in
    rw (p.1, p.2) (turn_uncut (So g.E.Explainer.IsExplanation c.args.explainer c.loop-turn.progress) (So g.E.Explainer.IsExplanation c.args.explainer c.loop-turn.progress) _ _ _ _ _ refl (ExplainsOn g.E.Explainer.IsExplanation (at_start c.args.explainer)) (are_so g.E.Explainer.IsExplanation c.args.explainer c.loop-turn.progress) _ _ _ _ _ some c.loop-turn.invariant.answered c.in-Ok.ensures.bytes.0)

pub returns-in_err-ended-clause-few : goal.returns-in_err-ended-clause-few
returns-in_err-ended-clause-few g c =
    let short : length (take c.in-Ok.len c.read.new.buf) ≤ PIECE =
    omega (arith, length-take c.in-Ok.len c.read.new.buf) in
    has_read_more (So g.E.Explainer.IsExplanation c.args.explainer c.loop-turn.progress) _ _ _ _ _ _ _ _ _ c.loop-turn.invariant.answered c.in-Ok.ensures.bytes.0 short c.loop-turn-test.true

-- an explanation is not written
pub returns-in_err-explain_lines-clause-err : goal.returns-in_err-explain_lines-clause-err
returns-in_err-explain_lines-clause-err g c =
    let p =
    err_from_is_err_and c.from_residual-in_err-explain_lines.result c.from_residual-in_err-explain_lines.ensures.1 in
    let left = rw c.deref.ensures.value at c.in_err-explain_lines.ensures.fault in
    rw p.1
    (prefix_of_turn (So g.E.Explainer.IsExplanation c.args.explainer c.loop-turn.progress) (ExplainsOn g.E.Explainer.IsExplanation c.loop-turn.progress) _ _ _ _ _ c.in_ok-ended.ensures.lines (ExplainsOn g.E.Explainer.IsExplanation (at_start c.args.explainer)) (join_on g.E.Explainer.IsExplanation c.args.explainer c.loop-turn.progress) (explanations_go_on g.E.Explainer.IsExplanation g.met.E.Explainer.goes_on c.loop-turn.progress) (explanations_go_on g.E.Explainer.IsExplanation g.met.E.Explainer.goes_on (at_start c.args.explainer)) c.in_err-explain_lines.field-0.0 _ _ _ _ _ _
    c.loop-turn.invariant.answered c.in-Ok.ensures.bytes.0 left)

pub returns-in_err-explain_lines-clause-fault : goal.returns-in_err-explain_lines-clause-fault
returns-in_err-explain_lines-clause-fault g c =
    let p =
    err_from_is_err_and c.from_residual-in_err-explain_lines.result c.from_residual-in_err-explain_lines.ensures.1 in
    let left = rw c.deref.ensures.value at c.in_err-explain_lines.ensures.fault in
    rw (p.1, p.2)
    (turn_left (So g.E.Explainer.IsExplanation c.args.explainer c.loop-turn.progress) (ExplainsOn g.E.Explainer.IsExplanation c.loop-turn.progress) _ _ _ _ _ c.in_ok-ended.ensures.lines (ExplainsOn g.E.Explainer.IsExplanation (at_start c.args.explainer)) (join_on g.E.Explainer.IsExplanation c.args.explainer c.loop-turn.progress) (explanations_go_on g.E.Explainer.IsExplanation g.met.E.Explainer.goes_on (at_start c.args.explainer)) c.in_err-explain_lines.field-0.0 _ _ _ _ _ _
    c.loop-turn.invariant.answered c.in-Ok.ensures.bytes.0 left)

pub returns-in_err-explain_lines-clause-few : goal.returns-in_err-explain_lines-clause-few
returns-in_err-explain_lines-clause-few g c =
    let short : length (take c.in-Ok.len c.read.new.buf) ≤ PIECE =
    omega (arith, length-take c.in-Ok.len c.read.new.buf) in
    has_read_more (So g.E.Explainer.IsExplanation c.args.explainer c.loop-turn.progress) _ _ _ _ _ _ _ _ _ c.loop-turn.invariant.answered c.in-Ok.ensures.bytes.0 short c.loop-turn-test.true

-- the next turn
pub loop-turn-preserved : goal.loop-turn-preserved
loop-turn-preserved g c =
    let short : length (take c.in-Ok.len c.read.new.buf) ≤ PIECE =
    omega (arith, length-take c.in-Ok.len c.read.new.buf) in
    record {
      answered =
          turn_done (So g.E.Explainer.IsExplanation c.args.explainer c.loop-turn.progress) (λ lines text. Explains g.E.Explainer.IsExplanation c.loop-turn.progress lines c.explain_lines.new.progress text) _ _ _ _ _ c.in_ok-ended.ensures.lines (So g.E.Explainer.IsExplanation c.args.explainer c.explain_lines.new.progress) (join_so g.E.Explainer.IsExplanation c.args.explainer c.loop-turn.progress c.explain_lines.new.progress) _ _ _ _ _ _ short c.loop-turn.invariant.answered c.in-Ok.ensures.bytes.0
          (rw c.deref.ensures.value at c.in_ok-explain_lines.ensures.ok);
      unread = λ none. absurd (omega (arith, none, c.loop-turn-test.true));
    }

-- the turns ran out
pub returns-clause-err : goal.returns-clause-err
returns-clause-err g c =
    prefix_so_far (So g.E.Explainer.IsExplanation c.args.explainer c.loop-turn.progress) (ExplainsOn g.E.Explainer.IsExplanation (at_start c.args.explainer)) (are_so g.E.Explainer.IsExplanation c.args.explainer c.loop-turn.progress) (explanations_go_on g.E.Explainer.IsExplanation g.met.E.Explainer.goes_on (at_start c.args.explainer)) _ _ _ _ _ _ c.loop-turn.invariant.answered
