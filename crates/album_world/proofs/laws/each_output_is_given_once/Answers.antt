use Rattle.album_world.proofs.OutputLemmas.{given_by_event, given_by_run}
use Rattle.album_world.proofs.laws.each_output_is_given_once.Goals as goal

pub returns-clause-event : goal.returns-clause-event
returns-clause-event c = given_by_event

pub returns-clause-run : goal.returns-clause-run
returns-clause-run c = given_by_run
