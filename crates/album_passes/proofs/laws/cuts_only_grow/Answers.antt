use Rattle.album_passes.proofs.ClosedLemmas.{merged_least}
use Rattle.album_passes.proofs.CutLemmas.{extends_trans, backed_more}
use Rattle.album_passes.proofs.laws.cuts_only_grow.Goals as goal

pub returns-clause-along : goal.returns-clause-along
returns-clause-along c = λ first second third x y. extends_trans first second third x y

pub returns-clause-backed : goal.returns-clause-backed
returns-clause-backed c = λ old new mark x b. backed_more old new x mark b

pub returns-clause-least : goal.returns-clause-least
returns-clause-least c = λ first second cut x y. merged_least first second cut x y
