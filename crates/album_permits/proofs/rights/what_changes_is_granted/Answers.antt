use Rattle.album_permits.proofs.Granting.{effect-granted}
use Rattle.album_permits.proofs.rights.what_changes_is_granted.Goals as goal

pub returns : goal.returns
returns c = effect-granted
