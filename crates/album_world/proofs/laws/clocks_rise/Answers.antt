use Rattle.album_world.proofs.TidyLemmas.{clocks_rise}
use Rattle.album_world.proofs.laws.clocks_rise.Goals as goal

pub returns : goal.returns
returns c = clocks_rise
