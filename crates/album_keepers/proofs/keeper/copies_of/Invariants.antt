use Rattle.std.proofs.Common.{◌≡◌, take}
use Rattle.album_keepers.proofs.keeper.copies_of.Given as goal

abbrev pub invariant-loop-mark : goal.invariant-loop-mark
invariant-loop-mark l = l.copies.items ≡ take l.mark-index l.marks
