use Rattle.album_epochs.proofs.StayLemmas.{left_alone, as_written, gone}
use Rattle.album_epochs.proofs.laws.stamps_stay.Goals as goal

pub returns-clause-alone : goal.returns-clause-alone
returns-clause-alone c = left_alone

pub returns-clause-written : goal.returns-clause-written
returns-clause-written c = as_written

pub returns-clause-gone : goal.returns-clause-gone
returns-clause-gone c = gone
