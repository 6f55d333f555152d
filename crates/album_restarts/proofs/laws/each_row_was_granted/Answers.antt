use Rattle.album_restarts.proofs.NextLemmas.{row_granted}
use Rattle.album_restarts.proofs.laws.each_row_was_granted.Goals as goal

pub returns : goal.returns
returns c = λ opening next events row is of there. row_granted opening next events row is of there
