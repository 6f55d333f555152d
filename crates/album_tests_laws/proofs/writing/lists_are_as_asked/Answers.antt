use Rattle.album_tests_laws.proofs.AsAsked.{lists-all, lists-only}
use Rattle.album_tests_laws.proofs.writing.lists_are_as_asked.Goals as goal

pub returns-clause-each : goal.returns-clause-each
returns-clause-each c = lists-all

pub returns-clause-only : goal.returns-clause-only
returns-clause-only c = lists-only
