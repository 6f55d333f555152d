use Rattle.album_replay.proofs.Promising.{as_promised}
use Rattle.album_replay.proofs.laws.what_replay_prints.Goals as goal

pub returns : goal.returns
returns c = as_promised
