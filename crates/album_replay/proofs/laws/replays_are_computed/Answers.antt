use Rattle.album_replay.proofs.Replaying.{is_replay}
use Rattle.album_replay.proofs.laws.replays_are_computed.Goals as goal

pub returns : goal.returns
returns c = is_replay
