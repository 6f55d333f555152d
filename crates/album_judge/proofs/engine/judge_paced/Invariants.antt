use Rattle.std.proofs.Common.{◌≡◌}
use Rattle.album_judge.specs.Judge.{Answers}
use Rattle.album_judge.proofs.Turns.{HasAnswered}
use Rattle.album_judge.proofs.engine.judge_paced.Given as goal

abbrev pub invariant-loop-turn : goal.invariant-loop-turn
invariant-loop-turn g l = record {
  answered : HasAnswered Answers l._turn l.lines (g.R.Read.remaining l.initial.reader) (g.R.Read.remaining l.reader)
      (g.W.Write.contents l.initial.writer) (g.W.Write.contents l.writer);
  unread : l.turns ≡ 0 → g.R.Read.remaining l.reader ≡ g.R.Read.remaining l.initial.reader;
}
