use Rattle.album_grounds.proofs.GrantedLemmas.{kept_was_known}
use Rattle.album_grounds.proofs.laws.what_was_acknowledged_is_known.Goals as goal

pub returns : goal.returns
returns c = kept_was_known
