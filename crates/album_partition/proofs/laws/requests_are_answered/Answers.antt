use Rattle.album_partition.proofs.LawLemmas.{clash_only, requests_are_answered}
use Rattle.album_partition.proofs.laws.requests_are_answered.Goals as goal

pub returns-clause-answered : goal.returns-clause-answered
returns-clause-answered c = requests_are_answered

pub returns-clause-clash : goal.returns-clause-clash
returns-clause-clash c = clash_only
