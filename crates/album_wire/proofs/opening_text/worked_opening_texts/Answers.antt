use Rattle.std.proofs.Common.{refl}
use Rattle.album_wire.proofs.OnLiterals.{lines_on_literals}
use Rattle.album_wire.proofs.opening_text.worked_opening_texts.Goals as goal

pub returns-clause-open : goal.returns-clause-open
unfolding lines_on_literals
returns-clause-open c = refl

pub returns-clause-rooted : goal.returns-clause-rooted
unfolding lines_on_literals
returns-clause-rooted c = refl

pub returns-clause-item : goal.returns-clause-item
unfolding lines_on_literals
returns-clause-item c = refl

pub returns-clause-begin : goal.returns-clause-begin
unfolding lines_on_literals
returns-clause-begin c = refl
