use Rattle.album_grounds.proofs.GoingOnLemmas.{kept_made_on}
use Rattle.album_grounds.proofs.laws.kept_writes_lose_no_update.Goals as goal

pub returns : goal.returns
returns c = kept_made_on
