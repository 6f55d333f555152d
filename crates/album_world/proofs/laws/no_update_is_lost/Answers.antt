use Rattle.album_world.proofs.UpdateLemmas.{no_update_is_lost}
use Rattle.album_world.proofs.laws.no_update_is_lost.Goals as goal

pub returns : goal.returns
returns c = no_update_is_lost
