use Rattle.std.proofs.Common.{◌≡◌, drop, max, is_some}
use Rattle.album_versions.specs.Best.{best_of}
use Rattle.album_versions.specs.Rows.{version_in}
use Rattle.album_versions.proofs.rows.Row.best.Given as goal

abbrev pub invariant-loop-stamp : goal.invariant-loop-stamp
invariant-loop-stamp l = max l.best (best_of (λ t. is_some (version_in l.self.versions t)) (drop l.stamp-index l.stamps)) ≡ best_of (λ t. is_some (version_in l.self.versions t)) l.stamps
