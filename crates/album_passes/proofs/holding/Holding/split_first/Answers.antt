use Rattle.std.proofs.Common.{rules, ◌<◌, sym, subst}
use Rattle.album_passes.specs.Holding.{Held}
use Rattle.album_passes.proofs.SplitLemmas.{splits_first}
use Rattle.album_passes.proofs.holding.Holding.split_first.Goals as goal

pub split_seat-seat-requires : goal.split_seat-seat-requires
split_seat-seat-requires c = (search rules, search rules, splits_first _ _ _ (subst (λ (h : Held). h.seat.low < h.seat.high) (sym c.self.view_is) c.requires.owns))
