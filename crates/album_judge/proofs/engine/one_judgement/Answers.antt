use Rattle.album_judge.proofs.Judging.{one_judgement}
use Rattle.album_judge.proofs.engine.one_judgement.Goals as goal

pub returns : goal.returns
returns c = one_judgement
