use Rattle.album_world.proofs.ShareLemmas.{no_part}
use Rattle.album_world.proofs.laws.no_view_holds_a_part_of_a_share.Goals as goal

pub returns : goal.returns
returns c = no_part
