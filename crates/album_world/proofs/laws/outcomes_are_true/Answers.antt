use Rattle.album_world.proofs.PromiseLemmas.{outcomes_are_true}
use Rattle.album_world.proofs.laws.outcomes_are_true.Goals as goal

pub returns : goal.returns
returns c = outcomes_are_true
