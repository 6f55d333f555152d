use Rattle.album_permits.proofs.Disclosing.{ruled-alike, noted-alike}
use Rattle.album_permits.proofs.disclosure.secrets_decide_nothing.Goals as goal

pub returns : goal.returns
returns c = record { ruling = ruled-alike; notes = noted-alike }
