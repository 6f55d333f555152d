use Rattle.album_lasting.proofs.VersionLemmas.{all_granted, granted_still, above_opening}
use Rattle.album_lasting.proofs.laws.sessions_know_a_service.Goals as goal

pub returns-clause-granted : goal.returns-clause-granted
returns-clause-granted c = all_granted

pub returns-clause-still : goal.returns-clause-still
returns-clause-still c = granted_still

pub returns-clause-above : goal.returns-clause-above
returns-clause-above c = above_opening
