use Rattle.std.proofs.Common.{refl}
use Rattle.album_wire.proofs.OnLiterals.{lines_on_literals}
use Rattle.album_wire.proofs.out_json.worked_outs.Goals as goal

pub returns-clause-noted : goal.returns-clause-noted
unfolding lines_on_literals
returns-clause-noted c = refl

pub returns-clause-served : goal.returns-clause-served
unfolding lines_on_literals
returns-clause-served c = refl

pub returns-clause-listed : goal.returns-clause-listed
unfolding lines_on_literals
returns-clause-listed c = refl

pub returns-clause-head_of_picture : goal.returns-clause-head_of_picture
unfolding lines_on_literals
returns-clause-head_of_picture c = refl

pub returns-clause-head_of_album : goal.returns-clause-head_of_album
unfolding lines_on_literals
returns-clause-head_of_album c = refl

pub returns-clause-head_of_group : goal.returns-clause-head_of_group
unfolding lines_on_literals
returns-clause-head_of_group c = refl

pub returns-clause-children : goal.returns-clause-children
unfolding lines_on_literals
returns-clause-children c = refl

pub returns-clause-denied : goal.returns-clause-denied
unfolding lines_on_literals
returns-clause-denied c = refl

pub returns-clause-busy : goal.returns-clause-busy
unfolding lines_on_literals
returns-clause-busy c = refl

pub returns-clause-committed : goal.returns-clause-committed
unfolding lines_on_literals
returns-clause-committed c = refl

pub returns-clause-aborted : goal.returns-clause-aborted
unfolding lines_on_literals
returns-clause-aborted c = refl

pub returns-clause-unsettled : goal.returns-clause-unsettled
unfolding lines_on_literals
returns-clause-unsettled c = refl

pub returns-clause-refused : goal.returns-clause-refused
unfolding lines_on_literals
returns-clause-refused c = refl
