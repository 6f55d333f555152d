use Rattle.std.proofs.Common.{◌≡◌, ◌-◌, ◌≤◌, length, IsTrue}
use Rattle.sqlite_disk.specs.Disk.{Torn, Follows}
use Rattle.album_log.specs.Logs.{HasZeros}
use Rattle.album_log.proofs.zeros.write_zeros.Given as goal

-- so far, zeros were written from `from` up to `at`
abbrev pub invariant-loop-at : goal.invariant-loop-at
invariant-loop-at g l =
    (l.from ≤ l.at) × (l.at ≤ l.to)
    × (l.from ≤ length (g.D.Disk.seen l.initial.disk) → HasZeros l.from l.at (g.D.Disk.seen l.disk))
    × Torn l.from (l.at - l.from) (g.D.Disk.seen l.initial.disk) (g.D.Disk.seen l.disk)
    × Follows (Torn l.from (l.at - l.from)) (g.D.Disk.may_leave l.initial.disk) (g.D.Disk.may_leave l.disk)
    × (g.D.Disk.is_clean l.disk ≡ g.D.Disk.is_clean l.initial.disk)
    × IsTrue (g.D.Disk.is_usable l.disk)
    × (g.D.Disk.faults l.disk ≡ g.D.Disk.faults l.initial.disk)

abbrev pub decreases-loop-at : goal.decreases-loop-at
decreases-loop-at g l = l.to - l.at
