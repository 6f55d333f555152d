use Rattle.std.proofs.Common.{arith}
use Rattle.album_passes.proofs.ClosedLemmas.{votes_back}
use Rattle.album_passes.proofs.CutLemmas.{backed_marked}
use Rattle.album_passes.proofs.PreparedLemmas.{plain_backs, checked_backs}
use Rattle.album_passes.proofs.laws.marks_are_backed.Goals as goal

pub returns-clause-plain : goal.returns-clause-plain
returns-clause-plain c = λ cut part stamp writes items plain named. plain_backs cut part stamp writes items plain named

pub returns-clause-checked : goal.returns-clause-checked
returns-clause-checked c = λ cut part stamp writes items bases sound inside proper named based.
    checked_backs cut part stamp writes items bases (let wide = sound.wide in omega arith) proper named based

pub returns-clause-already : goal.returns-clause-already
returns-clause-already c = λ cut part mark b. backed_marked cut part mark b

pub returns-clause-committed : goal.returns-clause-committed
returns-clause-committed c = λ cut part stamp sound inside own others. votes_back cut part stamp sound inside own others
