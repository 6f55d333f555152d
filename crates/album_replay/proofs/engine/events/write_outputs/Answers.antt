use Rattle.std.proofs.lemmas.Result.{err_from_is_err_and}
use Rattle.album_replay.specs.Replay.{showing}
use Rattle.album_replay.proofs.OutputTexts.{no_outputs, outputs_next, outputs_left}
use Rattle.album_replay.proofs.engine.events.write_outputs.Goals as goal

pub loop-out-init : goal.loop-out-init
loop-out-init g c = no_outputs (g.W.Write.contents c.args.writer.now)

pub loop-out-preserved : goal.loop-out-preserved
loop-out-preserved g c =
    outputs_next (showing c.args.trace c.args.stamps.now) c.args.world.now.kept c.args.outs.now c.loop-out.out-index c.out-item.result
    c.loop-out-test.true c.out-item.is _ _ _ c.loop-out.invariant c.in_ok-write_output.ensures.ok

-- a line is not written
pub returns-in_err-write_output-clause-fault : goal.returns-in_err-write_output-clause-fault
returns-in_err-write_output-clause-fault g c =
    let p = err_from_is_err_and c.from_residual.result c.from_residual.ensures.1 in
    rw (p.1, p.2)
    (outputs_left (showing c.args.trace c.args.stamps.now) c.args.world.now.kept c.args.outs.now c.loop-out.out-index c.out-item.result
    c.loop-out-test.true c.out-item.is c.in_err-write_output.field-0.0 _ _ _ c.loop-out.invariant c.in_err-write_output.ensures.fault)
