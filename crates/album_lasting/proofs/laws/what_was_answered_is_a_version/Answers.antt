use Rattle.album_lasting.proofs.VersionLemmas.{kept_whole, row_version, read_since, read_again}
use Rattle.album_lasting.proofs.laws.what_was_answered_is_a_version.Goals as goal

pub returns-clause-acknowledged : goal.returns-clause-acknowledged
returns-clause-acknowledged c = kept_whole

pub returns-clause-read : goal.returns-clause-read
returns-clause-read c = row_version

pub returns-clause-read_since : goal.returns-clause-read_since
returns-clause-read_since c = read_since

pub returns-clause-read_again : goal.returns-clause-read_again
returns-clause-read_again c = read_again
