use Rattle.album_tests_laws.proofs.Judged.{judged-grant, judged-reason, reason-of-alternative}
use Rattle.album_tests_laws.proofs.judging.the_store_judges_as_the_judge_does.Goals as goal

pub returns-clause-granted : goal.returns-clause-granted
returns-clause-granted c = judged-grant

pub returns-clause-reason : goal.returns-clause-reason
returns-clause-reason c basis alternative reason head entries there listed found =
    let of = reason-of-alternative basis alternative reason head there found in
    (of.0, of.1, judged-reason basis alternative reason head entries there listed found)
