use Rattle.std.proofs.Common.{◌≡◌, ℕ, map, Ok, sym, ◌∙◌, subst}
use Rattle.album_keepers.specs.Controls.{Answers}
use Rattle.album_partition.specs.Sweeps.{swept}
use Rattle.album_keepers.specs.declared.control.Control.{Control}
use Rattle.album_keepers.specs.declared.control.Control.TheVariants.{Sweep}
use Rattle.album_keepers.proofs.keeper.PartitionKeeper.answer.Goals as goal

pub returns-in-Pending-clause-answered : goal.returns-in-Pending-clause-answered
returns-in-Pending-clause-answered g c =
    subst (λ (x : Control). Answers g.J.DeskNames.terms.limit c.args.self.now.owner.cut c.args.self.now.partition.number x c.pending.result) (sym c.in-Pending.is) c.pending.ensures

pub returns-in-History-clause-answered : goal.returns-in-History-clause-answered
returns-in-History-clause-answered g c =
    subst (λ (x : Control). Answers g.J.DeskNames.terms.limit c.args.self.now.owner.cut c.args.self.now.partition.number x c.history.result) (sym c.in-History.is) c.history.ensures

pub returns-in-Trim-clause-answered : goal.returns-in-Trim-clause-answered
returns-in-Trim-clause-answered g c =
    subst (λ (x : Control). Answers g.J.DeskNames.terms.limit c.trim.new.self.owner.cut c.trim.new.self.partition.number x c.trim.result) (sym c.in-Trim.is) c.trim.ensures.answered

-- the stamp is the one of the request
pub returns-in-Ok-clause-asked : goal.returns-in-Ok-clause-asked
returns-in-Ok-clause-asked g c = λ stamp is.
    let both : Sweep c.in-Sweep.stamp ≡ Sweep stamp = sym c.in-Sweep.is ∙ is in
    let same : c.in-Sweep.stamp ≡ stamp = cc in
    subst (λ (t : ℕ). swept c.args.self.now.partition t ≡ Ok (map (λ envelope. envelope.message) c.in-Ok.asked.items)) same
    c.in-Ok.ensures.envelopes
