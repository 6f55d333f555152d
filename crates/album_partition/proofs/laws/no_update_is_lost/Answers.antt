use Rattle.album_partition.proofs.ChainLemmas.{one_pending, pending_above, commits_rise, made_on, base_is_latest, replied_on}
use Rattle.album_partition.proofs.PartitionLemmas.{stays_after}
use Rattle.album_partition.proofs.laws.no_update_is_lost.Goals as goal

pub returns-clause-one_pending : goal.returns-clause-one_pending
returns-clause-one_pending c = one_pending

pub returns-clause-above : goal.returns-clause-above
returns-clause-above c = pending_above

pub returns-clause-rising : goal.returns-clause-rising
returns-clause-rising c = commits_rise

pub returns-clause-made_on : goal.returns-clause-made_on
returns-clause-made_on c = made_on

pub returns-clause-bases : goal.returns-clause-bases
returns-clause-bases c = base_is_latest

pub returns-clause-checked : goal.returns-clause-checked
returns-clause-checked c = λ p m h checked. (stays_after p m h).chained checked

pub returns-clause-replied : goal.returns-clause-replied
returns-clause-replied c = replied_on
