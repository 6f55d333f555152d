use Rattle.album_grounds.proofs.GoingOnLemmas.{stable}
use Rattle.album_grounds.proofs.laws.reads_are_stable.Goals as goal

pub returns : goal.returns
returns c = stable
