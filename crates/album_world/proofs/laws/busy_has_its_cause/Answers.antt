use Rattle.album_world.proofs.PromiseLemmas.{busy_has_its_cause}
use Rattle.album_world.proofs.laws.busy_has_its_cause.Goals as goal

pub returns : goal.returns
returns c = busy_has_its_cause
