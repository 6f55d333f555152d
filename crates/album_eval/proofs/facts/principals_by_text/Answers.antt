use Rattle.album_eval.proofs.Principals.{principal_spelled, spelled_principal}
use Rattle.album_eval.proofs.facts.principals_by_text.Goals as goal

pub returns : goal.returns
returns c = λ p text. (principal_spelled p text, spelled_principal p text)
