use Rattle.album_items.proofs.BaseLemmas.{root_by_policy}
use Rattle.album_items.proofs.openings.a_root_is_of_policy_3.Goals as goal

pub returns : goal.returns
returns c = λ opening root is named. root_by_policy opening root is named
