use Rattle.std.proofs.Common.{◌≡◌, map, take}
use Rattle.album_lines.specs.Lines.{said}
use Rattle.album_explain.specs.Explain.{Explains}
use Rattle.album_explain.proofs.explaining.explain_lines.Given as goal

abbrev pub invariant-loop-line : goal.invariant-loop-line
invariant-loop-line g l = record {
  explained : Explains g.E.Explainer.IsExplanation l.initial.progress (map said (take l.line-index l.lines)) l.progress l.text.items;
  unwritten : g.W.Write.contents l.writer ≡ g.W.Write.contents l.initial.writer;
}
