use Rattle.album_writer.proofs.Giving.{first-replied, second-replied, prepare-replied, commit-replied}
use Rattle.album_writer.proofs.laws.a_write_depends_on_its_replies.Goals as goal

pub returns-clause-first : goal.returns-clause-first
returns-clause-first c = first-replied

pub returns-clause-second : goal.returns-clause-second
returns-clause-second c = second-replied

pub returns-clause-prepares : goal.returns-clause-prepares
returns-clause-prepares c = prepare-replied

pub returns-clause-commits : goal.returns-clause-commits
returns-clause-commits c = commit-replied
