use Rattle.album_world.proofs.PromiseLemmas.{views_are_fresh}
use Rattle.album_world.proofs.laws.views_are_fresh.Goals as goal

pub returns : goal.returns
returns c = views_are_fresh
