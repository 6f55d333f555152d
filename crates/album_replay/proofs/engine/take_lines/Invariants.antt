use Rattle.std.proofs.Common.{map, take}
use Rattle.album_world.specs.Past.{Past}
use Rattle.album_lines.specs.Lines.{said}
use Rattle.album_replay.specs.Stages.{Replayed}
use Rattle.album_judge.specs.Writes.{Writes}
use Rattle.album_replay.proofs.engine.take_lines.Given as goal

abbrev pub invariant-loop-line : goal.invariant-loop-line
invariant-loop-line g l =
    (past : Past)
    → Writes (Replayed l.initial.stage past (map said (take l.line-index l.lines)) l.stage)
    (g.W.Write.contents l.initial.writer) (g.W.Write.contents l.writer)
