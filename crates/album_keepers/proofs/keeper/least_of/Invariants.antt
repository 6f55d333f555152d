use Rattle.std.proofs.Common.{◌≤◌, All, take}
use Rattle.album_keepers.proofs.keeper.least_of.Given as goal

abbrev pub invariant-loop-stamp : goal.invariant-loop-stamp
invariant-loop-stamp l = record { below : All (λ stamp. l.least ≤ stamp) (take l.stamp-index l.stamps) }
