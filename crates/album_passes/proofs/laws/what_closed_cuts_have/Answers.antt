use Rattle.album_passes.proofs.ClosedLemmas.{announced_tells, backed_there, committed_tells, discarded_tells, never_discarded}
use Rattle.album_partition.specs.declared.marks.Mark.TheVariants.{Prepared}
use Rattle.album_passes.proofs.laws.what_closed_cuts_have.Goals as goal

pub returns-clause-announced : goal.returns-clause-announced
returns-clause-announced c = λ cut part stamp closed e. announced_tells cut part stamp closed e

pub returns-clause-prepared : goal.returns-clause-prepared
returns-clause-prepared c = λ cut part stamp writes items closed there. (backed_there cut part (Prepared stamp writes items) closed there).named

pub returns-clause-committed : goal.returns-clause-committed
returns-clause-committed c = λ cut part stamp closed e. committed_tells cut part stamp closed e

pub returns-clause-discarded : goal.returns-clause-discarded
returns-clause-discarded c = λ cut part stamp closed e. discarded_tells cut part stamp closed e

pub returns-clause-apart : goal.returns-clause-apart
returns-clause-apart c = λ cut part other stamp sound e. never_discarded cut part other stamp sound e
