use Rattle.std.proofs.Common.{rules}
use Rattle.album_passes.proofs.SplitLemmas.{splits_cut}
use Rattle.album_passes.proofs.holding.Holding.split.Goals as goal

pub split_seat-seat-requires : goal.split_seat-seat-requires
split_seat-seat-requires c = (search rules, search rules, splits_cut _ _ _)
