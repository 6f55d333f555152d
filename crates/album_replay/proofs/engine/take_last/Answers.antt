use Rattle.std.proofs.Common.{List, OnOk, IfErr, subst}
use Rattle.album_world.specs.Past.{Past}
use Rattle.album_lines.specs.Lines.{Line}
use Rattle.album_replay.specs.Stages.{Replayed, IsLeftAmid, stage_of}
use Rattle.album_judge.specs.Writes.{Writes}
use Rattle.album_replay.proofs.Standing.{lines_begin}
use Rattle.album_replay.proofs.engine.take_last.Goals as goal

-- the input ends in a newline
pub returns-in-None-clause-ok : goal.returns-in-None-clause-ok
returns-in-None-clause-ok g c past =
    let written = g.W.Write.contents c.args.writer.now in
    subst (λ (ls : List Line). Writes (Replayed c.args.stage.now past ls c.args.stage.now) written written) c.in-None.ensures
    (lines_begin c.args.stage.now past written)

-- it does not
pub returns-in-Some-clause-ok : goal.returns-in-Some-clause-ok
returns-in-Some-clause-ok g c =
    subst (λ (ls : List Line). OnOk c.take_lines.result
    ((past : Past) → Writes (Replayed c.args.stage.now past ls c.take_lines.new.stage) (g.W.Write.contents c.args.writer.now) (g.W.Write.contents c.take_lines.new.writer)))
    c.in-Some.ensures c.take_lines.ensures.ok

pub returns-in-Some-clause-fault : goal.returns-in-Some-clause-fault
returns-in-Some-clause-fault g c =
    subst (λ (ls : List Line). IfErr c.take_lines.result (λ fault. (past : Past) → Writes
    (IsLeftAmid fault (stage_of c.args.stage.now past) ls) (g.W.Write.contents c.args.writer.now) (g.W.Write.contents c.take_lines.new.writer)))
    c.in-Some.ensures c.take_lines.ensures.fault
