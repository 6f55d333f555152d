use Rattle.album_permits.proofs.Disclosing.{granted-alike, served-alike}
use Rattle.album_permits.proofs.disclosure.answers_disclose_nothing.Goals as goal

pub returns : goal.returns
returns c = record { granted = granted-alike; served = served-alike }
