use Rattle.std.proofs.Common.{◌≡◌, ℕ, ◌+◌, ◌<◌, ◌≤◌, ◌∙◌, List, Some, max, drop, sym, ap, subst, arith}
use Rattle.std.specs.List.{slice_get}
use Rattle.album_stamps.specs.declared.limits.TheConstants.{MAX_COUNTER}
use Rattle.album_client.specs.Clients.{Client}
use Rattle.album_world.specs.State.{highest_counter}
use Rattle.album_world.proofs.RegisterLemmas.{highest_next, max_passed, max_kept}
use Rattle.album_world.proofs.clients.Clients.highest_counter.Goals as goal
use Rattle.album_world.proofs.clients.Clients.highest_counter.Goals.{then-highest-counter, else-highest-counter}

-- src/clients.rt:55:9
pub loop-index-preserved : goal.loop-index-preserved
loop-index-preserved c =
    let at = subst (λ (z : List Client). slice_get z c.loop-index.index ≡ Some c.index.result.now) c.self.view_is
    c.index.ensures in
    let counted = c.counter-counter.ensures.counter ∙ ap (λ (z : Client). z.clock.counter) c.behind-self.view_is in
    let next = highest_next c.args.self.now c.loop-index.index c.index.result.now at in
    let whole = sym (ap (max c.loop-index.highest) next) ∙ c.loop-index.invariant.0 in
    elim c.if-highest-counter.branch [
      | then-highest-counter w ↦ (
        max_passed c.loop-index.highest c.index.result.now.clock.counter rest (highest_counter c.args.self.now)
            c.if-highest-counter.highest whole (subst (λ (z : ℕ). c.loop-index.highest < z) counted w.if-highest-counter.true)
            (w.highest-is ∙ counted),
        subst (λ (z : ℕ). z ≤ MAX_COUNTER) (sym w.highest-is) c.counter-counter.ensures.range,
      )
      | else-highest-counter w ↦ (
        max_kept c.loop-index.highest c.index.result.now.clock.counter rest (highest_counter c.args.self.now)
            c.if-highest-counter.highest whole (subst (λ (z : ℕ). z ≤ c.loop-index.highest) counted w.if-highest-counter.false)
            w.highest-is,
        subst (λ (z : ℕ). z ≤ MAX_COUNTER) (sym w.highest-is) c.loop-index.invariant.1,
      )
    ]
  where
    rest : ℕ
    rest = highest_counter (drop (c.loop-index.index + 1) c.args.self.now)
