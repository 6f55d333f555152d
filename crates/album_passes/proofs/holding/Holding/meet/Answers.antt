use Rattle.std.proofs.Common.{rules, List, ap, sym, ◌∙◌, subst}
use Rattle.album_passes.specs.Cuts.{Cut, IsSound}
use Rattle.album_passes.specs.Knowledge.{first_of}
use Rattle.album_passes.proofs.HoldingLemmas.{hosting, held_of}
use Rattle.album_passes.proofs.SplitLemmas.{splits_guest}
use Rattle.album_passes.proofs.holding.Holding.meet.Goals as goal

-- the seat that took in the other has one cut, which it shares with its guest
pub split_seat-guest-requires : goal.split_seat-guest-requires
split_seat-guest-requires c =
    let now = hosting _ _ _ _ _ _ c.self.invariant.1 c.other.invariant.1 (ap (λ m. m.0) c.take_in.ensures.seat) c.take_in.ensures.merged c.greater_each-all.ensures in
    (search rules, search rules, splits_guest _ _ _ now.one)

pub invariant_of-self : goal.invariant_of-self
invariant_of-self c =
    let e = c.take_in.ensures.seat in
    let now = hosting _ _ _ _ _ _ c.self.invariant.1 c.other.invariant.1 (ap (λ m. m.0) e) c.take_in.ensures.merged c.greater_each-all.ensures in
    let s = c.split_seat-guest.ensures.2 in (
      ap (λ m. m.1) s ∙ (ap (λ m. m.1) e ∙ c.self.invariant.0),
      held_of _ _ _ (ap (λ m. m.0.cuts) s) (ap (λ m. m.0.guest) s) now,
    )

pub invariant_of-result : goal.invariant_of-result
invariant_of-result c =
    let now = hosting _ _ _ _ _ _ c.self.invariant.1 c.other.invariant.1 (ap (λ m. m.0) c.take_in.ensures.seat) c.take_in.ensures.merged c.greater_each-all.ensures in
    let s = c.split_seat-guest.ensures.4 in (
      ap (λ m. m.1) s,
      held_of _ _ _ (ap (λ m. m.0.cuts) s) (ap (λ m. m.0.guest) s) now,
    )

pub returns-clause-sound : goal.returns-clause-sound
returns-clause-sound c =
    let now = hosting _ _ _ _ _ _ c.self.invariant.1 c.other.invariant.1 (ap (λ m. m.0) c.take_in.ensures.seat) c.take_in.ensures.merged c.greater_each-all.ensures in
    subst (λ (cs : List Cut). IsSound (first_of cs)) (sym (ap (λ m. m.0.cuts) c.split_seat-guest.ensures.2)) now.sound
