-- One more write of zeros keeps what the loop says.
use Rattle.std.proofs.Common.{◌≡◌, ◌<◌, ◌≤◌, ℕ, length, take, subst, ◌∙◌, arith}
use Rattle.std.proofs.lemmas.List.{length-take-le}
use Rattle.sqlite_disk.specs.Disk.{Torn, Follows}
use Rattle.album_log.proofs.ZeroLemmas.{zeros_more, follows_more, torn_next}
use Rattle.album_log.proofs.zeros.write_zeros.Goals as goal

pub loop-at-preserved : goal.loop-at-preserved
loop-at-preserved g c =
    let at = c.loop-at.at in
    let n = c.min-n.result in
    let zeros = c.args.zeros.now in
    let few : n ≤ length zeros = omega (arith, c.min-n.ensures) in
    let some : 0 < n = omega (arith, c.min-n.ensures, c.requires.some, c.loop-at-test.true) in
    let long : length (take n zeros) ≡ n = length-take-le n zeros few in
    let e = c.in_ok-write_at.ensures in (
      omega arith,
      omega arith,
      λ h. zeros_more c.args.from at n zeros _ _ c.requires.zeros few (e.written (omega arith)) e.others (c.loop-at.invariant.2 h),
      torn_next c.args.from at n _ _ _ c.loop-at.invariant.0 c.loop-at.invariant.3 (subst (λ (m : ℕ). Torn at m (g.D.Disk.seen c.loop-at.disk) (g.D.Disk.seen c.write_at.new.self)) long e.others),
      follows_more c.args.from at n _ _ _ c.loop-at.invariant.0 c.loop-at.invariant.4 (subst (λ (m : ℕ). Follows (Torn at m) (g.D.Disk.may_leave c.loop-at.disk) (g.D.Disk.may_leave c.write_at.new.self)) long e.crash),
      e.calm ∙ c.loop-at.invariant.5,
      e.usable,
      e.faults ∙ c.loop-at.invariant.7,
    )
