use Rattle.album_world.proofs.EventLemmas.{answers_are_kept, notes_are_kept}
use Rattle.album_world.proofs.laws.outputs_are_in_the_past.Goals as goal

pub returns-clause-answers : goal.returns-clause-answers
returns-clause-answers c = answers_are_kept

pub returns-clause-notes : goal.returns-clause-notes
returns-clause-notes c = notes_are_kept
