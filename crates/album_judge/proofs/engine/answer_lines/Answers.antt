use Rattle.std.proofs.Common.{map, subst}
use Rattle.std.proofs.lemmas.List.{take_all}
use Rattle.std.proofs.lemmas.Result.{err_from_is_err_and, on_ok_weaker, on_err_weaker}
use Rattle.album_judge.specs.declared.fault.Fault.TheVariants.{Memory}
use Rattle.album_lines.specs.Lines.{said}
use Rattle.album_judge.specs.Judge.{Answers}
use Rattle.album_judge.proofs.Answering.{left_is_prefix}
use Rattle.album_judge.proofs.Texts.{next_added, no_memory_at, not_all_written, writes_this, all_are_prefix, left_by_writing, answers_go_on}
use Rattle.album_judge.proofs.engine.answer_lines.Goals as goal

pub loop-line-preserved : goal.loop-line-preserved
loop-line-preserved g c = record {
  answered =
      next_added said c.args.lines.now c.loop-line.line-index c.line-item.result _ _
      c.loop-line-test.true c.line-item.is c.loop-line.invariant.answered c.in-Ok.ensures.ok;
  unwritten = c.loop-line.invariant.unwritten;
}

-- no memory for an answer: those before it are written, or not wholly
pub returns-in_default-clause-fault : goal.returns-in_default-clause-fault
returns-in_default-clause-fault g c =
    let left =
    no_memory_at said c.args.lines.now c.loop-line.line-index c.loop-line.text.items c.loop-line-test.true c.loop-line.invariant.answered in
    let written = rw c.in_default.ensures.err at c.deref.ensures.value in
    writes_this _ _ _ _ _ _ c.loop-line.invariant.unwritten written left c.in_ok-write_text.ensures.ok

pub returns-in_err-write_text-clause-fault : goal.returns-in_err-write_text-clause-fault
returns-in_err-write_text-clause-fault g c =
    let p = err_from_is_err_and c.from_residual.result c.from_residual.ensures.1 in
    let left =
    no_memory_at said c.args.lines.now c.loop-line.line-index c.loop-line.text.items c.loop-line-test.true c.loop-line.invariant.answered in
    let written = rw c.in_default.ensures.err at c.deref.ensures.value in
    let begin = left_is_prefix Answers answers_go_on Memory _ _ left in
    rw (p.1, p.2, c.in_err-write_text.ensures.fault)
    (not_all_written Answers _ _ _ _ _ _ c.loop-line.invariant.unwritten written begin c.in_err-write_text.ensures.err)

-- all are answered
pub returns-clause-ok : goal.returns-clause-ok
returns-clause-ok g c =
    let all = subst (λ ls. Answers (map said ls) c.loop-line.text.items) (take_all c.loop-line.line-index c.args.lines.now c.loop-line-test.false) c.loop-line.invariant.answered in
    on_ok_weaker c.write_text-2.result
    (λ w. writes_this _ _ _ _ _ _ c.loop-line.invariant.unwritten c.deref-2.ensures.value all w)
    c.write_text-2.ensures.ok

pub returns-clause-fault : goal.returns-clause-fault
returns-clause-fault g c =
    let all = subst (λ ls. Answers (map said ls) c.loop-line.text.items) (take_all c.loop-line.line-index c.args.lines.now c.loop-line-test.false) c.loop-line.invariant.answered in
    let left =
    on_err_weaker c.write_text-2.result
    (λ w. not_all_written Answers _ _ _ _ _ _ c.loop-line.invariant.unwritten c.deref-2.ensures.value (all_are_prefix Answers _ _ all) w)
    c.write_text-2.ensures.err in
    left_by_writing Answers c.write_text-2.result _ _ _ left c.write_text-2.ensures.fault
