use Rattle.album_partition.proofs.GrowthLemmas.{promised_unprepared, promised_discarded, promised_stays}
use Rattle.album_partition.proofs.LawLemmas.{never_is_a_promise}
use Rattle.album_partition.proofs.laws.promises_against_are_kept.Goals as goal

pub returns-clause-unprepared : goal.returns-clause-unprepared
returns-clause-unprepared c = promised_unprepared

pub returns-clause-discarded : goal.returns-clause-discarded
returns-clause-discarded c = promised_discarded

pub returns-clause-stays : goal.returns-clause-stays
returns-clause-stays c = promised_stays

pub returns-clause-never : goal.returns-clause-never
returns-clause-never c = never_is_a_promise
