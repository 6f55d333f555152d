use Rattle.album_permits.proofs.Spending.{effect-alike, room-alike, served-alike}
use Rattle.album_permits.proofs.ruling_laws.permits_are_spent_on_what_is_named.Goals as goal

pub returns : goal.returns
returns c = record { effect = effect-alike; room = room-alike; served = served-alike }
