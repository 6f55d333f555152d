use Rattle.std.proofs.Common.{rules, ◌≡◌, Some, None, sym, subst, refl, ap, ◌∙◌}
use Rattle.album_stamps.specs.Stamps.{client_number}
use Rattle.album_passes.specs.Cuts.{announced_for}
use Rattle.album_passes.specs.Holding.{Held}
use Rattle.album_passes.specs.Knowledge.{known}
use Rattle.album_passes.proofs.HoldingLemmas.{held_announced}
use Rattle.album_passes.proofs.StepLemmas.{announces}
use Rattle.album_passes.proofs.holding.Holding.announce.Goals as goal

pub load-requires : goal.load-requires
load-requires g c =
    let t = g.N.NamesWrites.stamp in
    let P : Held → Type 0 = λ y. (y.seat.number ≡ Some (client_number t)) × (announced_for (known y.seat) t ≡ None) in
    let q = subst P (sym c.self.view_is) (c.requires.number, c.requires.fresh) in
    (search rules, search rules, announces _ _ _ _ _ (client_number t) t _ c.self.invariant.1.one c.self.invariant.1.alone q.0 refl q.1)

pub invariant_of-self : goal.invariant_of-self
invariant_of-self g c =
    let t = g.N.NamesWrites.stamp in
    let fresh = subst (λ (y : Held). announced_for (known y.seat) t ≡ None) (sym c.self.view_is) c.requires.fresh in (
      ap (λ x. x.1) c.load.ensures.2 ∙ c.self.invariant.0,
      held_announced c.self.inside.seat.me.0 _ _ t g.N.NamesWrites.announced (ap (λ x. x.0) c.load.ensures.2) c.self.invariant.1 fresh,
    )
