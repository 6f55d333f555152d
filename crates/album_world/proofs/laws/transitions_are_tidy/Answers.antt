use Rattle.album_world.proofs.TidyLemmas.{turn_tidy}
use Rattle.album_world.proofs.laws.transitions_are_tidy.Goals as goal

pub returns : goal.returns
returns c = turn_tidy
