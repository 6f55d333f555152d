use Rattle.album_epochs.proofs.ChainedLemmas.{carried_on}
use Rattle.album_epochs.proofs.laws.no_carried_update_is_lost.Goals as goal

pub returns : goal.returns
returns c = λ cut item stamp value left checked closed wrote. carried_on cut item stamp value left checked closed wrote
