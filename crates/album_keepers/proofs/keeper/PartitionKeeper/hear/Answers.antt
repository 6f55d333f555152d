use Rattle.std.proofs.Common.{◌≡◌, ap, sym, ◌∙◌, refl}
use Rattle.album_passes.specs.Cuts.{prefix_at}
use Rattle.album_keepers.proofs.KeeperLemmas.{keeper_on, shown_more}
use Rattle.album_keepers.proofs.keeper.PartitionKeeper.hear.Goals as goal

-- a join adds nothing to the owner's own history
pub invariant_of-self : goal.invariant_of-self
invariant_of-self g c =
    let k = c.self.invariant.1 in
    let j = c.join.ensures in
    let p = c.self.inside.partition in
    let cut = c.join.new.self.cut in
    let marks : p.marks ≡ prefix_at cut p.number =
    k.shown.marks ∙ (ap (prefix_at c.self.inside.owner.cut) (sym k.own) ∙ (sym j.history ∙ ap (prefix_at cut) k.own)) in (
      c.self.invariant.0,
      keeper_on g.J.BoardNames.table g.J.DeskNames.terms.limit _ p c.join.new.self k j.table j.part j.grown refl refl refl refl refl marks
          (shown_more c.self.inside.owner.cut cut j.grown p.votes k.voted),
    )
