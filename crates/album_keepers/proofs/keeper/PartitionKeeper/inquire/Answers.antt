use Rattle.std.proofs.Common.{◌≡◌, ap, sym, ◌∙◌, subst}
use Rattle.album_passes.specs.Cuts.{Extends}
use Rattle.album_passes.specs.Owner.{OwnerState}
use Rattle.album_passes.specs.Pass.{PassState}
use Rattle.album_passes.proofs.CutLemmas.{extends_trans}
use Rattle.album_keepers.specs.Keepers.{KeeperState}
use Rattle.album_keepers.proofs.keeper.PartitionKeeper.inquire.Goals as goal

pub returns-clause-grown : goal.returns-clause-grown
returns-clause-grown g c =
    let now : c.split-pass.new.self ≡ c.answer-answer.new.self.owner = c.split-pass.ensures.same ∙ ap (λ (k : KeeperState). k.owner) c.self.view_is in
    subst (λ (o : OwnerState). Extends c.args.self.now.owner.cut o.cut) (sym now)
    (extends_trans c.args.self.now.owner.cut c.hear.new.self.owner.cut c.answer-answer.new.self.owner.cut c.hear.ensures.grown c.answer-answer.ensures.grown)

pub returns-clause-heard : goal.returns-clause-heard
returns-clause-heard g c =
    let now : c.split-pass.new.self ≡ c.answer-answer.new.self.owner = c.split-pass.ensures.same ∙ ap (λ (k : KeeperState). k.owner) c.self.view_is in
    let theirs : Extends c.args.request.pass.cut c.hear.new.self.owner.cut = subst (λ (p : PassState). Extends p.cut c.hear.new.self.owner.cut) c.open-tag.ensures.pass c.hear.ensures.heard in
    subst (λ (o : OwnerState). Extends c.args.request.pass.cut o.cut) (sym now)
    (extends_trans c.args.request.pass.cut c.hear.new.self.owner.cut c.answer-answer.new.self.owner.cut theirs c.answer-answer.ensures.grown)
