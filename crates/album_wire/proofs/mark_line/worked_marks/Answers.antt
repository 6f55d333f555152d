use Rattle.std.proofs.Common.{refl}
use Rattle.album_wire.proofs.OnLiterals.{lines_on_literals}
use Rattle.album_wire.proofs.mark_line.worked_marks.Goals as goal

pub returns-clause-written : goal.returns-clause-written
unfolding lines_on_literals
returns-clause-written c = refl

pub returns-clause-read : goal.returns-clause-read
unfolding lines_on_literals
returns-clause-read c = refl

pub returns-clause-with_value : goal.returns-clause-with_value
unfolding lines_on_literals
returns-clause-with_value c = refl

pub returns-clause-without_writes : goal.returns-clause-without_writes
unfolding lines_on_literals
returns-clause-without_writes c = refl

pub returns-clause-torn : goal.returns-clause-torn
unfolding lines_on_literals
returns-clause-torn c = refl

pub returns-clause-no_items : goal.returns-clause-no_items
unfolding lines_on_literals
returns-clause-no_items c = refl

pub returns-clause-past_parts : goal.returns-clause-past_parts
unfolding lines_on_literals
returns-clause-past_parts c = refl

pub returns-clause-no_stamp : goal.returns-clause-no_stamp
unfolding lines_on_literals
returns-clause-no_stamp c = refl

pub returns-clause-half_write : goal.returns-clause-half_write
unfolding lines_on_literals
returns-clause-half_write c = refl

pub returns-clause-shape_first : goal.returns-clause-shape_first
unfolding lines_on_literals
returns-clause-shape_first c = refl

pub returns-clause-mask : goal.returns-clause-mask
unfolding lines_on_literals
returns-clause-mask c = refl
