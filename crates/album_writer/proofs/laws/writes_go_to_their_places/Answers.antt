use Rattle.album_writer.proofs.Placing.{places-rise, participant, placed}
use Rattle.album_writer.proofs.laws.writes_go_to_their_places.Goals as goal

pub returns-clause-rising : goal.returns-clause-rising
returns-clause-rising c = places-rise

pub returns-clause-participants : goal.returns-clause-participants
returns-clause-participants c = participant

pub returns-clause-placed : goal.returns-clause-placed
returns-clause-placed c = placed
