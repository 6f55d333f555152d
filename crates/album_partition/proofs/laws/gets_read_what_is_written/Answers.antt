use Rattle.album_partition.proofs.LawLemmas.{version_is_read, get_is_answered, gone_is_trimmed}
use Rattle.album_partition.proofs.laws.gets_read_what_is_written.Goals as goal

pub returns-clause-version : goal.returns-clause-version
returns-clause-version c = version_is_read

pub returns-clause-answered : goal.returns-clause-answered
returns-clause-answered c = get_is_answered

pub returns-clause-gone : goal.returns-clause-gone
returns-clause-gone c = gone_is_trimmed
