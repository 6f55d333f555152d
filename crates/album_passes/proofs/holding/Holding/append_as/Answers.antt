use Rattle.std.proofs.Common.{rules, ◌≡◌, ◌<◌, ◌≤◌, length, sym, subst, ap, ◌∙◌, arith, ℕ, ◌-◌, ◌+◌}
use Rattle.album_partition.specs.Bases.{MayAppend}
use Rattle.album_passes.specs.Cuts.{IsBacked, prefix_at}
use Rattle.album_passes.specs.Changes.{marked_cut}
use Rattle.album_passes.specs.Desk.{DeskState}
use Rattle.album_passes.specs.Holding.{Held}
use Rattle.album_passes.specs.Knowledge.{known}
use Rattle.album_passes.specs.Steps.{with_cut}
use Rattle.album_passes.proofs.HoldingLemmas.{held_marked}
use Rattle.album_passes.proofs.StepLemmas.{appends}
use Rattle.album_passes.proofs.holding.Holding.append_as.Goals as goal

-- what is required, of the seat itself and of the desk's own numbers
pub fetch_add-requires : goal.fetch_add-requires
fetch_add-requires g c =
    let p = c.args.part in
    let m = g.N.NamesMark.mark in
    let P : Held × DeskState → Type 0 = λ y. (y.0.seat.low ≤ p) × (p < y.0.seat.high) × (p < y.1.terms.parts) × (length (prefix_at (known y.0.seat) p) < y.1.terms.limit) × MayAppend (known y.0.seat).checked (prefix_at (known y.0.seat) p) m × IsBacked (marked_cut (known y.0.seat) p m) m in
    let r = c.requires in
    let a = c.self.view_is in
    let b = c.desk.view_is in
    let q = subst P (λ i. (sym a i, sym b i)) (r.low, r.high, r.word, r.room, r.follows, r.backed) in
    let d = c.desk.invariant in
    (search rules, (let x = q.2 in let y = d.words in let z = d.parts_are in omega arith), appends _ _ _ _ _ p m c.self.invariant.1.one c.self.invariant.1.alone q.0 q.1 q.2 q.3 (let y = d.low_limit in let z = d.limit_is in omega arith) q.4 q.5)

pub invariant_of-self : goal.invariant_of-self
invariant_of-self g c =
    let p = c.args.part in
    let m = g.N.NamesMark.mark in
    let P : Held → Type 0 = λ y. (p < (known y.seat).parts) × MayAppend (known y.seat).checked (prefix_at (known y.seat) p) m × IsBacked (marked_cut (known y.seat) p m) m in
    let r = c.requires in
    let q = subst P (sym c.self.view_is) (r.inside, r.follows, r.backed) in
    let same_part : p + 1 - 1 ≡ p = omega arith in (
      ap (λ x. x.1) c.fetch_add.ensures.2 ∙ c.self.invariant.0,
      held_marked c.self.inside.seat.me.0 _ _ p m (ap (λ x. x.0) c.fetch_add.ensures.2 ∙ ap (λ (k : ℕ). with_cut c.self.inside.seat.me.0 (marked_cut (known c.self.inside.seat.me.0) k m)) same_part) c.self.invariant.1 c.self.told q.0 q.1 q.2,
    )
