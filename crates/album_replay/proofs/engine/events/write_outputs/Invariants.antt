use Rattle.std.proofs.Common.{take}
use Rattle.std.specs.Io.KnownBytes.{Appends}
use Rattle.album_replay.specs.Replay.{outputs_text, showing}
use Rattle.album_replay.proofs.engine.events.write_outputs.Given as goal

abbrev pub invariant-loop-out : goal.invariant-loop-out
invariant-loop-out g l =
    Appends (g.W.Write.contents l.initial.writer) (g.W.Write.contents l.writer)
    (outputs_text (showing l.trace l.stamps) l.world.kept (take l.out-index l.outs))
