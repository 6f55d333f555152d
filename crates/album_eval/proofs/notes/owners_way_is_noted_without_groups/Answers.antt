use Rattle.album_eval.proofs.Giving.{audited-way}
use Rattle.album_eval.proofs.notes.owners_way_is_noted_without_groups.Goals as goal

pub returns : goal.returns
returns c = λ case is_in mask success entries way. audited-way case is_in mask success way entries
