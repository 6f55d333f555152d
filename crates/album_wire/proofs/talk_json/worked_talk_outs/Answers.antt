use Rattle.std.proofs.Common.{refl}
use Rattle.album_wire.proofs.OnLiterals.{lines_on_literals}
use Rattle.album_wire.proofs.talk_json.worked_talk_outs.Goals as goal

pub returns-clause-hello : goal.returns-clause-hello
unfolding lines_on_literals
returns-clause-hello c = refl

pub returns-clause-swept : goal.returns-clause-swept
unfolding lines_on_literals
returns-clause-swept c = refl

pub returns-clause-trimmed : goal.returns-clause-trimmed
unfolding lines_on_literals
returns-clause-trimmed c = refl

pub returns-clause-serving : goal.returns-clause-serving
unfolding lines_on_literals
returns-clause-serving c = refl

pub returns-clause-restarted : goal.returns-clause-restarted
unfolding lines_on_literals
returns-clause-restarted c = refl

pub returns-clause-totals : goal.returns-clause-totals
unfolding lines_on_literals
returns-clause-totals c = refl

pub returns-clause-hello_in : goal.returns-clause-hello_in
unfolding lines_on_literals
returns-clause-hello_in c = refl

pub returns-clause-dump : goal.returns-clause-dump
unfolding lines_on_literals
returns-clause-dump c = refl
