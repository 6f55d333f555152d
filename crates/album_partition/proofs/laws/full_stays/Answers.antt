use Rattle.album_partition.proofs.LawLemmas.{still_full, still_unknown}
use Rattle.album_partition.proofs.PartitionLemmas.{full_is_left}
use Rattle.album_partition.proofs.laws.full_stays.Goals as goal

pub returns-clause-full : goal.returns-clause-full
returns-clause-full c = still_full

pub returns-clause-unknown : goal.returns-clause-unknown
returns-clause-unknown c = still_unknown

pub returns-clause-trimmed : goal.returns-clause-trimmed
returns-clause-trimmed c = full_is_left
