use Rattle.album_grounds.proofs.GrantedLemmas.{as_asked}
use Rattle.album_grounds.proofs.laws.what_is_kept_was_asked_for.Goals as goal

pub returns : goal.returns
returns c = as_asked
