use Rattle.album_partition.proofs.LawLemmas.{replies_are_true}
use Rattle.album_partition.proofs.laws.replies_are_true.Goals as goal

pub returns : goal.returns
returns c = replies_are_true
