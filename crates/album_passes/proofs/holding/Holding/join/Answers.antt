use Rattle.std.proofs.Common.{refl, ap, ◌∙◌}
use Rattle.album_passes.proofs.HoldingLemmas.{hosting, held_of}
use Rattle.album_passes.proofs.holding.Holding.join.Goals as goal

-- the other had no number, so there is no guest
pub invariant_of-self : goal.invariant_of-self
invariant_of-self c =
    let e = c.take_in.ensures.seat in
    let now = hosting _ _ _ _ _ _ c.self.invariant.1 c.other.invariant.1 (ap (λ m. m.0) e) c.take_in.ensures.merged c.greater_each-all.ensures in (
      ap (λ m. m.1) e ∙ c.self.invariant.0,
      held_of _ _ _ refl (ap (λ m. m.0.guest) e ∙ (ap (λ h. h.seat.number) c.other.view_is ∙ c.requires.unnumbered)) now,
    )

pub returns-clause-sound : goal.returns-clause-sound
returns-clause-sound c =
    (hosting _ _ _ _ _ _ c.self.invariant.1 c.other.invariant.1 (ap (λ m. m.0) c.take_in.ensures.seat) c.take_in.ensures.merged c.greater_each-all.ensures).sound
