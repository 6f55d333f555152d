use Rattle.album_passes.proofs.ReadLemmas.{same_written}
use Rattle.album_passes.proofs.laws.what_is_committed_is_there.Goals as goal

pub returns : goal.returns
returns c = λ old new item stamp s r x h. same_written old new s r x stamp h item
