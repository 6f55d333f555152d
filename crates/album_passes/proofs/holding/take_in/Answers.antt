use Rattle.std.proofs.Common.{rules, ap}
use Rattle.album_passes.proofs.HoldingLemmas.{two_cuts}
use Rattle.album_passes.proofs.SplitLemmas.{joins, merges}
use Rattle.album_passes.proofs.holding.take_in.Goals as goal

-- the two seats have one cut each, so that the kept one has two
pub join_seat-requires : goal.join_seat-requires
join_seat-requires c = (search rules, search rules, c.requires.bare, search rules, joins _ _ _ _ _ c.requires.own_cut c.requires.other_cut)

pub load-requires : goal.load-requires
load-requires c = (search rules, search rules, merges _ _ _ _ _ (two_cuts c.args.seat.now.me.0 c.args.other.me.0 _ c.requires.own_cut c.requires.other_cut (ap (λ m. m.0) c.join_seat.ensures.2)))
