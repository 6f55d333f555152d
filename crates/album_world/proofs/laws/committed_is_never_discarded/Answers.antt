use Rattle.album_world.proofs.AnsweredLemmas.{never_discarded}
use Rattle.album_world.proofs.laws.committed_is_never_discarded.Goals as goal

pub returns : goal.returns
returns c = never_discarded
