use Rattle.album_eval.proofs.Computing.{one_verdict, verdict_computed}
use Rattle.album_eval.proofs.verdicts.one_verdict.Goals as goal

pub returns-clause-one : goal.returns-clause-one
returns-clause-one c = one_verdict

pub returns-clause-computed : goal.returns-clause-computed
returns-clause-computed c = verdict_computed
