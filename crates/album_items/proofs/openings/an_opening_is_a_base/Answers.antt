use Rattle.album_items.proofs.BaseLemmas.{opening_is_base}
use Rattle.album_items.proofs.openings.an_opening_is_a_base.Goals as goal

pub returns : goal.returns
returns c = λ opening is. opening_is_base opening is
