use Rattle.std.proofs.Common.{sym, ◌∙◌, ap}
use Rattle.album_board.proofs.StepLemmas.{adds_moves}
use Rattle.album_board.proofs.writer.Writer.add.Goals as goal

pub compare_exchange-self-inside-requires : goal.compare_exchange-self-inside-requires
compare_exchange-self-inside-requires g c =
    let now = c.self.invariant in
    let h = now.head_is in
    let offer = c.plain-offer.ensures in
    let book = sym (ap (λ w. w.book) h) in
    let old = c.replace.ensures.value in (
      ap (λ w. w.tracked) h,
      now.seen_of ∙ book,
      ap (λ p. p.book) old ∙ (now.pen_of ∙ book),
      offer.0,
      rw (ap (λ w. w.key) h, offer.3) (adds_moves c.self.inside.seen.log c.plain-offer.result.ask c.replace.result.nib
          (ap (λ p. p.nib.right) old ∙ now.right) (sym (ap (λ e. e.key) offer.1))),
    )
