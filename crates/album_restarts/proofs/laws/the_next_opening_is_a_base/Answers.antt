use Rattle.album_restarts.proofs.BaseLemmas.{next_base}
use Rattle.album_restarts.proofs.laws.the_next_opening_is_a_base.Goals as goal

pub returns : goal.returns
returns c = λ opening next events is of. next_base opening next events is of
