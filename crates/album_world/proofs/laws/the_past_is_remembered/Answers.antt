use Rattle.album_world.proofs.EventLemmas.{all_is_remembered}
use Rattle.album_world.proofs.laws.the_past_is_remembered.Goals as goal

pub returns : goal.returns
returns c = all_is_remembered
