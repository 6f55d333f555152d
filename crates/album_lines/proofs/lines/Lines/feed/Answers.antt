use Rattle.std.proofs.Common.{◌∙◌, List, ap}
use Rattle.album_lines.specs.Lines.{Line}
use Rattle.album_lines.proofs.Cuts.{cut_part, first_put}
use Rattle.album_lines.proofs.lines.Lines.feed.Goals as goal

pub returns-in_default-clause-lines : goal.returns-in_default-clause-lines
returns-in_default-clause-lines c =
    rw (c.new.ensures.items, c.in_ok-add.ensures.ok) (cut_part c.args.self.now c.args.piece.now c.in_default.ensures.none)

pub returns-clause-lines : goal.returns-clause-lines
returns-clause-lines c =
    let later = rw c.in_ok-lines.ensures.items at c.in_ok-next.ensures in
    rw c.next.view_is
    (first_put c.args.self.now c.in_ok-next.next c.args.piece.now c.in-Some.front.now c.in-Some.behind.now c.later_lines.new.lines.items c.take.result
    c.in-Some.ensures.found c.in-Some.ensures.first (ap (λ (r : List Line × Line). r.0) later) (ap (λ (r : List Line × Line). r.1) later) (c.take.ensures.line ∙ c.in_ok-add-2.ensures.ok))
