use Rattle.std.proofs.Common.{sym, ◌∙◌, ap}
use Rattle.album_board.proofs.StepLemmas.{draws_moves}
use Rattle.album_board.proofs.writer.new_key.Goals as goal

pub compare_exchange-requires : goal.compare_exchange-requires
compare_exchange-requires c =
    let h = c.requires.head in
    let offer = c.plain-offer.ensures in
    let pen = c.no_pen-pen.ensures in
    let same = ap (λ s. s.book) c.again-aside.ensures ∙ sym (ap (λ w. w.book) h) in (
      ap (λ w. w.tracked) h,
      same,
      pen.0 ∙ same,
      offer.0,
      rw (ap (λ w. w.key) h, pen.1, offer.3) (draws_moves c.again-aside.result.log c.plain-offer.result.ask),
    )
