use Rattle.std.proofs.Common.{◌≡◌}
use Rattle.album_replay.proofs.ReplayTurns.{HasReplayed}
use Rattle.album_replay.proofs.engine.replay.Given as goal

abbrev pub invariant-loop-turn : goal.invariant-loop-turn
invariant-loop-turn g l = record {
  replayed : HasReplayed l._turn l.lines l.stage (g.R.Read.remaining l.initial.reader) (g.R.Read.remaining l.reader)
      (g.W.Write.contents l.initial.writer) (g.W.Write.contents l.writer);
  unread : l.turns ≡ 0 → g.R.Read.remaining l.reader ≡ g.R.Read.remaining l.initial.reader;
}
