use Rattle.std.proofs.Common.{◌∙◌, sym, map}
use Rattle.album_lines.specs.Lines.{said}
use Rattle.album_lines.proofs.Cuts.{line_more, line_last}
use Rattle.album_lines.proofs.lines.Lines.later_lines.Goals as goal

pub loop-line-preserved : goal.loop-line-preserved
loop-line-preserved c =
    rw (c.in_ok-push.ensures.items, c.take.ensures.empty)
    (line_more c.loop-line.lines.items c.loop-line.next c.loop-line.rest.now c.in-Some.line.now c.in-Some.behind.now c.take.result
    c.in-Some.ensures.found c.in-Some.ensures.first (c.take.ensures.line ∙ c.in_ok-add.ensures.ok) ∙ c.loop-line.invariant)

pub returns : goal.returns
returns c =
    rw (c.in_ok-add-2.ensures.ok, ← c.new-next.ensures)
    (sym (line_last (map said c.loop-line.lines.items) c.loop-line.next c.loop-line.rest.now c.in_default.ensures.none) ∙ c.loop-line.invariant)
