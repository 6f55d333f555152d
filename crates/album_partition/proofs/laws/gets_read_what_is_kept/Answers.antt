use Rattle.album_partition.proofs.TrimLemmas.{never_gone, read_kept}
use Rattle.album_partition.proofs.laws.gets_read_what_is_kept.Goals as goal

pub returns-clause-latest : goal.returns-clause-latest
returns-clause-latest c = never_gone

pub returns-clause-kept : goal.returns-clause-kept
returns-clause-kept c = read_kept
