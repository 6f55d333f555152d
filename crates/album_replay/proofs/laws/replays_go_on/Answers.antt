use Rattle.album_replay.proofs.Replaying.{replays_append, front_of_replay, nothing_printed}
use Rattle.album_replay.proofs.laws.replays_go_on.Goals as goal

pub returns-clause-more : goal.returns-clause-more
returns-clause-more c = replays_append

pub returns-clause-prefix : goal.returns-clause-prefix
returns-clause-prefix c = front_of_replay

pub returns-clause-over : goal.returns-clause-over
returns-clause-over c = nothing_printed
