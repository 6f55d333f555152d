use Rattle.std.proofs.lemmas.Result.{IfErr-weaker}
use Rattle.album_judge.proofs.Exchanging.{exchanges_handed_on}
use Rattle.album_judge.proofs.buffered.judge_buffered.Goals as goal

pub returns-in-Ok-clause-fault : goal.returns-in-Ok-clause-fault
returns-in-Ok-clause-fault g c =
    IfErr-weaker c.judge_paced-judged.result _ _
    (λ fault ended other. exchanges_handed_on _ _ _ _ _ _ ended c.flush.ensures.bytes)
    c.judge_paced-judged.ensures.fault
