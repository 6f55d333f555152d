use Rattle.album_permits.proofs.Agreeing.{ruling-alike, notes-alike}
use Rattle.album_permits.proofs.ruling_laws.rulings_look_at_what_is_named.Goals as goal

pub returns : goal.returns
returns c = record { ruling = ruling-alike; notes = notes-alike }
