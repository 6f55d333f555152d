use Rattle.album_partition.proofs.GrowthLemmas.{committed_stays, discarded_stays, version_stays, latest_rises, load_rises, full_still}
use Rattle.album_partition.proofs.TrimLemmas.{floor_rises}
use Rattle.album_partition.proofs.laws.histories_only_grow.Goals as goal

pub returns-clause-committed : goal.returns-clause-committed
returns-clause-committed c = committed_stays

pub returns-clause-discarded : goal.returns-clause-discarded
returns-clause-discarded c = discarded_stays

pub returns-clause-version : goal.returns-clause-version
returns-clause-version c = version_stays

pub returns-clause-latest : goal.returns-clause-latest
returns-clause-latest c = latest_rises

pub returns-clause-floor : goal.returns-clause-floor
returns-clause-floor c = floor_rises

pub returns-clause-load : goal.returns-clause-load
returns-clause-load c = load_rises

pub returns-clause-full : goal.returns-clause-full
returns-clause-full c = full_still
