use Rattle.std.proofs.Common.{refl}
use Rattle.std.specs.Fmt.{digits}
use Rattle.album_port.proofs.ending_line.worked_endings.Goals as goal

pub returns-clause-committed : goal.returns-clause-committed
unfolding digits
returns-clause-committed c = refl

pub returns-clause-unsettled : goal.returns-clause-unsettled
unfolding digits
returns-clause-unsettled c = refl

pub returns-clause-denied : goal.returns-clause-denied
unfolding digits
returns-clause-denied c = refl
