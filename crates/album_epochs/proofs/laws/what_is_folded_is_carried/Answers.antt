use Rattle.album_epochs.proofs.NextLemmas.{next_rows, next_stamps}
use Rattle.album_epochs.proofs.laws.what_is_folded_is_carried.Goals as goal

pub returns-clause-rows : goal.returns-clause-rows
returns-clause-rows c = λ cut first histories rows left opening prefixes folded.
    next_rows cut left first histories rows opening prefixes folded

pub returns-clause-stamps : goal.returns-clause-stamps
returns-clause-stamps c = λ cut first histories stamps next left opening prefixes folded.
    next_stamps cut left first histories stamps next opening prefixes folded
