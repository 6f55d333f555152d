use Rattle.std.proofs.Common.{refl}
use Rattle.album_wire.proofs.OnLiterals.{lines_on_literals}
use Rattle.album_wire.proofs.event_line.worked_events.Goals as goal

pub returns-clause-range : goal.returns-clause-range
unfolding lines_on_literals
returns-clause-range c = refl

pub returns-clause-backwards : goal.returns-clause-backwards
unfolding lines_on_literals
returns-clause-backwards c = refl

pub returns-clause-wide : goal.returns-clause-wide
unfolding lines_on_literals
returns-clause-wide c = refl

pub returns-clause-last_counts : goal.returns-clause-last_counts
unfolding lines_on_literals
returns-clause-last_counts c = refl

pub returns-clause-two_events : goal.returns-clause-two_events
unfolding lines_on_literals
returns-clause-two_events c = refl

pub returns-clause-sweep : goal.returns-clause-sweep
unfolding lines_on_literals
returns-clause-sweep c = refl

pub returns-clause-no_stamp : goal.returns-clause-no_stamp
unfolding lines_on_literals
returns-clause-no_stamp c = refl

pub returns-clause-stop : goal.returns-clause-stop
unfolding lines_on_literals
returns-clause-stop c = refl

pub returns-clause-restart : goal.returns-clause-restart
unfolding lines_on_literals
returns-clause-restart c = refl

pub returns-clause-no_restart : goal.returns-clause-no_restart
unfolding lines_on_literals
returns-clause-no_restart c = refl

pub returns-clause-restart_with_more : goal.returns-clause-restart_with_more
unfolding lines_on_literals
returns-clause-restart_with_more c = refl

pub returns-clause-trim : goal.returns-clause-trim
unfolding lines_on_literals
returns-clause-trim c = refl

pub returns-clause-asked : goal.returns-clause-asked
unfolding lines_on_literals
returns-clause-asked c = refl

pub returns-clause-head : goal.returns-clause-head
unfolding lines_on_literals
returns-clause-head c = refl

pub returns-clause-children : goal.returns-clause-children
unfolding lines_on_literals
returns-clause-children c = refl

pub returns-clause-children_of_object : goal.returns-clause-children_of_object
unfolding lines_on_literals
returns-clause-children_of_object c = refl

pub returns-clause-group_added : goal.returns-clause-group_added
unfolding lines_on_literals
returns-clause-group_added c = refl

pub returns-clause-shared : goal.returns-clause-shared
unfolding lines_on_literals
returns-clause-shared c = refl

pub returns-clause-half_shared : goal.returns-clause-half_shared
unfolding lines_on_literals
returns-clause-half_shared c = refl

pub returns-clause-shape_first : goal.returns-clause-shape_first
unfolding lines_on_literals
returns-clause-shape_first c = refl

pub returns-clause-who_second : goal.returns-clause-who_second
unfolding lines_on_literals
returns-clause-who_second c = refl

pub returns-clause-content_last : goal.returns-clause-content_last
unfolding lines_on_literals
returns-clause-content_last c = refl
