use Rattle.std.proofs.Common.{◌≡◌, ◌≤◌, ◌-◌, ◌++◌, ℕ, List, length, drop, IsTrue}
use Rattle.album_log.specs.Texts.{before_zero}
use Rattle.album_log.proofs.reader.read_to_zero.Given as goal

-- the text so far and what is before the first zero of the rest are all that is to be read
abbrev pub invariant-loop-at : goal.invariant-loop-at
invariant-loop-at g l =
    (l.at ≤ l.len)
    × (IsTrue (g.D.Disk.is_clean l.disk) → l.text.items ++ before_zero (drop l.at (g.D.Disk.seen l.fn.disk)) ≡ l.fn.text.items ++ before_zero (g.D.Disk.seen l.fn.disk))
    × (g.D.Disk.seen l.disk ≡ g.D.Disk.seen l.fn.disk)
    × ((c : List ℕ) → g.D.Disk.may_leave l.disk c → g.D.Disk.may_leave l.fn.disk c)
    × IsTrue (g.D.Disk.is_usable l.disk)
    × (IsTrue (g.D.Disk.is_clean l.disk) → IsTrue (g.D.Disk.is_clean l.fn.disk) × (l.len ≡ length (g.D.Disk.seen l.fn.disk)))
    × (g.D.Disk.faults l.disk ≡ g.D.Disk.faults l.fn.disk)

abbrev pub decreases-loop-at : goal.decreases-loop-at
decreases-loop-at g l = l.len - l.at
