use Rattle.std.proofs.Common.{arith}
use Rattle.std.proofs.lemmas.List.{take_all}
use Rattle.std.proofs.lemmas.Result.{err_from_is_err_and}
use Rattle.album_lines.specs.Lines.{said}
use Rattle.album_replay.proofs.Standing.{lines_begin, lines_next, lines_stop}
use Rattle.album_replay.proofs.engine.take_lines.Goals as goal

pub loop-line-init : goal.loop-line-init
loop-line-init g c past = lines_begin c.args.stage.now past (g.W.Write.contents c.args.writer.now)

pub loop-line-preserved : goal.loop-line-preserved
loop-line-preserved g c =
    lines_next said c.args.lines.now c.loop-line.line-index c.line-item.result c.loop-line-test.true c.line-item.is
    c.args.stage.now c.loop-line.stage _ _ _ c.loop-line.invariant c.take.new.self c.in_ok-take.ensures.ok

-- a line is not taken
pub returns-in_err-take-clause-fault : goal.returns-in_err-take-clause-fault
returns-in_err-take-clause-fault g c =
    let p = err_from_is_err_and c.from_residual.result c.from_residual.ensures.1 in
    rw (p.1, p.2)
    (lines_stop said c.args.lines.now c.loop-line.line-index c.line-item.result c.loop-line-test.true c.line-item.is
    c.args.stage.now c.loop-line.stage _ _ _ c.loop-line.invariant c.in_err-take.field-0.0 c.in_err-take.ensures.fault)

-- all are taken
pub returns-clause-ok : goal.returns-clause-ok
returns-clause-ok g c =
    rw (take_all c.loop-line.line-index c.args.lines.now (omega (arith, c.loop-line-test.false))) at c.loop-line.invariant
