use Rattle.std.proofs.Common.{refl}
use Rattle.album_wire.proofs.OnLiterals.{lines_on_literals}
use Rattle.album_wire.proofs.message_json.worked_messages.Goals as goal

pub returns-clause-get : goal.returns-clause-get
unfolding lines_on_literals
returns-clause-get c = refl

pub returns-clause-version : goal.returns-clause-version
unfolding lines_on_literals
returns-clause-version c = refl

pub returns-clause-second_get : goal.returns-clause-second_get
unfolding lines_on_literals
returns-clause-second_get c = refl

pub returns-clause-prepare : goal.returns-clause-prepare
unfolding lines_on_literals
returns-clause-prepare c = refl

pub returns-clause-prepare_on : goal.returns-clause-prepare_on
unfolding lines_on_literals
returns-clause-prepare_on c = refl

pub returns-clause-status : goal.returns-clause-status
unfolding lines_on_literals
returns-clause-status c = refl
