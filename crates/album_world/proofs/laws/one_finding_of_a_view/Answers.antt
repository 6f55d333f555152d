use Rattle.album_world.proofs.PromiseLemmas.{one_finding}
use Rattle.album_world.proofs.laws.one_finding_of_a_view.Goals as goal

pub returns : goal.returns
returns c = one_finding
