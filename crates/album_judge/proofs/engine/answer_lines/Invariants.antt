use Rattle.std.proofs.Common.{◌≡◌, map, take}
use Rattle.album_lines.specs.Lines.{said}
use Rattle.album_judge.specs.Judge.{Answers}
use Rattle.album_judge.proofs.engine.answer_lines.Given as goal

abbrev pub invariant-loop-line : goal.invariant-loop-line
invariant-loop-line g l = record {
  answered : Answers (map said (take l.line-index l.lines)) l.text.items;
  unwritten : g.W.Write.contents l.writer ≡ g.W.Write.contents l.initial.writer;
}
