use Rattle.album_world.proofs.StayLemmas.{stamps_high}
use Rattle.album_world.proofs.laws.stamps_are_above_the_opening.Goals as goal

pub returns : goal.returns
returns c = λ opening events by is begun. stamps_high opening events is by begun
