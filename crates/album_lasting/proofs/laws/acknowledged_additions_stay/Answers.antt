use Rattle.album_lasting.proofs.AddLemmas.{additions_stay}
use Rattle.album_lasting.proofs.laws.acknowledged_additions_stay.Goals as goal

pub returns : goal.returns
returns c = additions_stay
