use Rattle.album_permits.proofs.Needing.{effect-may}
use Rattle.album_permits.proofs.grant_laws.what_is_written_is_needed.Goals as goal

pub returns : goal.returns
returns c = effect-may
