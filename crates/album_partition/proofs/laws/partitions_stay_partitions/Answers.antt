use Rattle.album_partition.proofs.LawLemmas.{votes_are_kept}
use Rattle.album_partition.proofs.PartitionLemmas.{opened_is, stays_after, trimmed_is}
use Rattle.album_partition.proofs.laws.partitions_stay_partitions.Goals as goal

pub returns-clause-opened : goal.returns-clause-opened
returns-clause-opened c = λ number parts limit items p. opened_is number parts limit items p

pub returns-clause-after : goal.returns-clause-after
returns-clause-after c = stays_after

pub returns-clause-kept : goal.returns-clause-kept
returns-clause-kept c = votes_are_kept

pub returns-clause-trimmed : goal.returns-clause-trimmed
returns-clause-trimmed c = trimmed_is
