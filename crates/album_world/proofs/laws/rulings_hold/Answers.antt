use Rattle.album_world.proofs.PromiseLemmas.{rulings_hold}
use Rattle.album_world.proofs.laws.rulings_hold.Goals as goal

pub returns : goal.returns
returns c = rulings_hold
