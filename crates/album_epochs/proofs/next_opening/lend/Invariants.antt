use Rattle.std.proofs.Common.{◌≡◌, map, take}
use Rattle.album_epochs.specs.Folding.{histories_lent}
use Rattle.album_epochs.proofs.next_opening.lend.Given as goal

abbrev pub invariant-loop-marks : goal.invariant-loop-marks
invariant-loop-marks l = histories_lent l.lent.items ≡ map (λ marks. marks.items) (take l.marks-index l.histories)
