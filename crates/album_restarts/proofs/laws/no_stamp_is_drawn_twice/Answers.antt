use Rattle.album_restarts.proofs.NextLemmas.{stamp_below}
use Rattle.album_restarts.proofs.laws.no_stamp_is_drawn_twice.Goals as goal

pub returns : goal.returns
returns c = λ opening next events by is of drawn. stamp_below opening next events by is of drawn
