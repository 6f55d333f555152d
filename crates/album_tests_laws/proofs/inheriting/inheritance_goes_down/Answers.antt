use Rattle.album_tests_laws.proofs.Generations.{goes-down}
use Rattle.album_tests_laws.proofs.inheriting.inheritance_goes_down.Goals as goal

pub returns : goal.returns
returns c = goes-down
