use Rattle.album_world.proofs.StayLemmas.{made_from, what_is_committed_stays}
use Rattle.album_world.specs.Staying.{Passes}
use Rattle.album_world.proofs.laws.what_is_committed_stays.Goals as goal

pub returns-clause-versions : goal.returns-clause-versions
returns-clause-versions c = made_from

pub returns-clause-tests : goal.returns-clause-tests
returns-clause-tests c = λ opening events test. what_is_committed_stays opening events (Passes test)
