use Rattle.std.proofs.lemmas.Result.{err_from_is_err_and, on_ok_weaker}
use Rattle.album_lines.specs.Lines.{last}
use Rattle.album_replay.specs.Stages.{stage_of}
use Rattle.album_replay.proofs.Standing.{end_written, end_stops, last_lines_begun}
use Rattle.album_replay.proofs.engine.finish.Goals as goal

-- the last line is not taken
pub returns-in_err-take_last-clause-fault : goal.returns-in_err-take_last-clause-fault
returns-in_err-take_last-clause-fault g c =
    let p = err_from_is_err_and c.from_residual.result c.from_residual.ensures.1 in
    rw (p.1, p.2)
    (λ past. last_lines_begun c.in_err-take_last.field-0.0 (stage_of c.args.stage.now past) (last c.args.lines) _ _
    (c.in_err-take_last.ensures.fault past))

-- the end is written
pub returns-clause-ok : goal.returns-clause-ok
returns-clause-ok g c =
    on_ok_weaker c.end.result
    (λ w. end_written c.args.stage.now c.take_last.new.stage (last c.args.lines) _ _ _ c.in_ok-take_last.ensures.ok w)
    c.end.ensures.ok

pub returns-clause-fault : goal.returns-clause-fault
returns-clause-fault g c =
    end_stops c.end.result c.args.stage.now c.take_last.new.stage (last c.args.lines) _ _ _ c.in_ok-take_last.ensures.ok
    c.end.ensures.memory c.end.ensures.fault
