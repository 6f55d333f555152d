use Rattle.album_world.proofs.TidyLemmas.{turn_awake, stopped_for_good, stop_stops}
use Rattle.album_world.proofs.laws.stops_are_for_good.Goals as goal

pub returns-clause-stopped : goal.returns-clause-stopped
returns-clause-stopped c = stop_stops

pub returns-clause-stays : goal.returns-clause-stays
returns-clause-stays c = stopped_for_good

pub returns-clause-still : goal.returns-clause-still
returns-clause-still c = turn_awake
