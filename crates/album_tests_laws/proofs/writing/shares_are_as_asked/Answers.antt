use Rattle.album_tests_laws.proofs.AsAsked.{share-only}
use Rattle.album_tests_laws.proofs.writing.shares_are_as_asked.Goals as goal

pub returns : goal.returns
returns c = share-only
