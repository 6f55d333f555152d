use Rattle.album_tests_laws.proofs.AsAsked.{root-writes}
use Rattle.album_tests_laws.proofs.writing.root_writes_as_the_user.Goals as goal

pub returns : goal.returns
returns c = root-writes
