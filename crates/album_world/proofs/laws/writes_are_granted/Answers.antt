use Rattle.album_world.proofs.PromiseLemmas.{writes_are_granted}
use Rattle.album_world.proofs.laws.writes_are_granted.Goals as goal

pub returns : goal.returns
returns c = writes_are_granted
