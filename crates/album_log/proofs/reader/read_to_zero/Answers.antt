-- A piece is read: what is before its first zero is appended, and the loop goes on if that is all of it.
use Rattle.std.proofs.Common.{◌≡◌, ◌<◌, ℕ, List, length, take, subst, ◌∙◌, arith}
use Rattle.std.proofs.lemmas.List.{length-take-le}
use Rattle.sqlite_disk.specs.Disk.{Holds}
use Rattle.album_log.proofs.ReadLemmas.{read_all, read_part}
use Rattle.album_log.proofs.reader.read_to_zero.Goals as goal

pub returns-then-not-branch-clause-text : goal.returns-then-not-branch-clause-text
returns-then-not-branch-clause-text g c clean =
    let inv = c.loop-at.invariant in
    let e = c.in_ok-read_at.ensures in
    let long : length (take c.min-n.result c.loop-at.buffer) ≡ c.min-n.result = length-take-le c.min-n.result c.loop-at.buffer (omega (arith, c.min-n.ensures)) in
    let some : 0 < c.min-n.result = omega (arith, c.min-n.ensures, c.requires.some, c.loop-at.auto.buffer) in
    let holds = subst (λ (file : List ℕ). Holds file c.loop-at.at c.read_at.new.buf) inv.2 (e.read clean (omega (arith, c.read_at.auto.buf))) in
    read_part _ c.read_at.new.buf _ _ _ c.loop-at.at (inv.1 (e.clean clean)) holds
    c.in_ok-push_to_zero.ensures.text (c.in_ok-push_to_zero.ensures.part c.if-not-branch.true)

pub loop-at-preserved : goal.loop-at-preserved
loop-at-preserved g c =
    let inv = c.loop-at.invariant in
    let e = c.in_ok-read_at.ensures in
    let long : length (take c.min-n.result c.loop-at.buffer) ≡ c.min-n.result = length-take-le c.min-n.result c.loop-at.buffer (omega (arith, c.min-n.ensures)) in
    let some : 0 < c.min-n.result = omega (arith, c.min-n.ensures, c.requires.some, c.loop-at.auto.buffer) in (
      omega arith,
      λ clean.
          let holds = subst (λ (file : List ℕ). Holds file c.loop-at.at c.read_at.new.buf) inv.2 (e.read clean (omega (arith, c.read_at.auto.buf))) in
          read_all _ c.read_at.new.buf _ _ _ c.loop-at.at c.min-n.result (inv.1 (e.clean clean)) holds (omega (arith, c.read_at.auto.buf))
          c.in_ok-push_to_zero.ensures.text (c.in_ok-push_to_zero.ensures.all c.if-not-branch.false),
      e.seen ∙ inv.2,
      λ left may. inv.3 left (e.crash left may),
      e.usable,
      λ clean. inv.5 (e.clean clean),
      e.faults ∙ inv.6,
    )
