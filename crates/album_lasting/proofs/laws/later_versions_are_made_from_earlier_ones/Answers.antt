use Rattle.album_lasting.proofs.MadeLemmas.{made_from}
use Rattle.album_lasting.proofs.laws.later_versions_are_made_from_earlier_ones.Goals as goal

pub returns : goal.returns
returns c = made_from
