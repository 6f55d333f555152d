use Rattle.album_partition.proofs.LawLemmas.{marks_are_caused}
use Rattle.album_partition.proofs.laws.marks_have_their_causes.Goals as goal

pub returns : goal.returns
returns c = marks_are_caused
