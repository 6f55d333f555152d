use Rattle.std.proofs.Common.{refl}
use Rattle.album_client.proofs.GrantLemmas.{served_is}
use Rattle.album_world.proofs.laws.what_is_served_is_what_is_asked.Goals as goal

pub returns : goal.returns
returns c = λ permit given h. served_is permit permit.view.ask refl given h
