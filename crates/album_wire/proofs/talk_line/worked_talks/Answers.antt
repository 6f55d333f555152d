use Rattle.std.proofs.Common.{refl}
use Rattle.album_wire.proofs.OnLiterals.{lines_on_literals}
use Rattle.album_wire.proofs.talk_line.worked_talks.Goals as goal

pub returns-clause-hello : goal.returns-clause-hello
unfolding lines_on_literals
returns-clause-hello c = refl

pub returns-clause-anonymous : goal.returns-clause-anonymous
unfolding lines_on_literals
returns-clause-anonymous c = refl

pub returns-clause-nobody : goal.returns-clause-nobody
unfolding lines_on_literals
returns-clause-nobody c = refl

pub returns-clause-asked_first : goal.returns-clause-asked_first
unfolding lines_on_literals
returns-clause-asked_first c = refl

pub returns-clause-asked_at_once : goal.returns-clause-asked_at_once
unfolding lines_on_literals
returns-clause-asked_at_once c = refl

pub returns-clause-who_again : goal.returns-clause-who_again
unfolding lines_on_literals
returns-clause-who_again c = refl

pub returns-clause-nobody_again : goal.returns-clause-nobody_again
unfolding lines_on_literals
returns-clause-nobody_again c = refl

pub returns-clause-asked : goal.returns-clause-asked
unfolding lines_on_literals
returns-clause-asked c = refl

pub returns-clause-asked_by : goal.returns-clause-asked_by
unfolding lines_on_literals
returns-clause-asked_by c = refl

pub returns-clause-pending : goal.returns-clause-pending
unfolding lines_on_literals
returns-clause-pending c = refl

pub returns-clause-pending_past_the_last : goal.returns-clause-pending_past_the_last
unfolding lines_on_literals
returns-clause-pending_past_the_last c = refl

pub returns-clause-sweep : goal.returns-clause-sweep
unfolding lines_on_literals
returns-clause-sweep c = refl

pub returns-clause-no_stamp : goal.returns-clause-no_stamp
unfolding lines_on_literals
returns-clause-no_stamp c = refl

pub returns-clause-trim : goal.returns-clause-trim
unfolding lines_on_literals
returns-clause-trim c = refl

pub returns-clause-deliver : goal.returns-clause-deliver
unfolding lines_on_literals
returns-clause-deliver c = refl

pub returns-clause-dump : goal.returns-clause-dump
unfolding lines_on_literals
returns-clause-dump c = refl

pub returns-clause-no_dump : goal.returns-clause-no_dump
unfolding lines_on_literals
returns-clause-no_dump c = refl

pub returns-clause-dump_of : goal.returns-clause-dump_of
unfolding lines_on_literals
returns-clause-dump_of c = refl
