use Rattle.std.proofs.Common.{take}
use Rattle.album_epochs.specs.Folding.{IsGreatestOf}
use Rattle.album_epochs.proofs.greatest.greatest_in.Given as goal

abbrev pub invariant-loop-mark : goal.invariant-loop-mark
invariant-loop-mark l = IsGreatestOf (take l.mark-index l.marks) l.greatest
