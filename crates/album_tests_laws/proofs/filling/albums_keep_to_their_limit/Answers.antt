use Rattle.album_tests_laws.proofs.Rooms.{kept-to}
use Rattle.album_tests_laws.proofs.filling.albums_keep_to_their_limit.Goals as goal

pub returns : goal.returns
returns c = kept-to
