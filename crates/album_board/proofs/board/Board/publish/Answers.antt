use Rattle.std.proofs.Common.{List, length, sym, ap, ◌∙◌, subst}
use Rattle.album_passes.specs.Cuts.{Extends}
use Rattle.album_passes.specs.Pass.{PassState}
use Rattle.album_board.specs.Writer.{number_of}
use Rattle.album_board.proofs.BoardLemmas.{seen_more, seen_push, stands_last}
use Rattle.album_board.proofs.board.Board.publish.Goals as goal

-- the board's pass has taken in what was published
pub invariant_of-self : goal.invariant_of-self
invariant_of-self g c =
    let cut = c.join.new.self.cut in
    record {
      of = c.join.ensures.table ∙ c.self.invariant.of;
      unnumbered = c.join.ensures.number ∙ c.self.invariant.unnumbered;
      seen = seen_push cut c.self.inside.writer c.add-mine.new.self c.split.result c.add-mine.ensures.added
          (seen_more c.self.inside.pass.cut cut c.join.ensures.grown c.self.inside.writer c.self.invariant.seen)
          (subst (λ (p : PassState). Extends p.cut cut) c.add-mine.ensures.same c.join.ensures.heard);
    }

-- and that is last in the list
pub invariant_of-result : goal.invariant_of-result
invariant_of-result g c =
    stands_last c.split-2.result.cut c.split.result c.self.inside.writer c.front-2.result c.number-number.result
    (ap (λ (p : PassState). p.cut) c.split.ensures.split
    ∙ sym (ap (λ (p : PassState). p.cut) c.split-2.ensures.split ∙ ap (λ (p : PassState). p.cut) c.split.ensures.same))
    (c.number-number.ensures ∙ ap (λ (ps : List PassState). number_of (length ps)) c.front.ensures)
    (c.front-2.ensures ∙ c.add-mine.ensures.added)
