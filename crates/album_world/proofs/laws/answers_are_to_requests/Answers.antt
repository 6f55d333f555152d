use Rattle.album_world.proofs.AnsweredLemmas.{answers_are_to_requests}
use Rattle.album_world.proofs.laws.answers_are_to_requests.Goals as goal

pub returns : goal.returns
returns c = answers_are_to_requests
