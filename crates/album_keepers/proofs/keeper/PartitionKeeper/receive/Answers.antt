use Rattle.album_passes.proofs.CutLemmas.{extends_trans}
use Rattle.album_keepers.proofs.EnvelopeLemmas.{shows_more}
use Rattle.album_keepers.proofs.RoundLemmas.{heard_more}
use Rattle.album_keepers.proofs.keeper.PartitionKeeper.receive.Goals as goal

-- what the pass shows, the owner's cut shows once it has taken it in
pub answer_at-requires-clause-shown : goal.answer_at-requires-clause-shown
answer_at-requires-clause-shown g c =
    shows_more c.open-message.result.1.cut c.hear.new.self.owner.cut c.hear.ensures.heard c.open-message.result.0 c.open-message.ensures.shown

pub returns-in-Ok-Some-clause-grown : goal.returns-in-Ok-Some-clause-grown
returns-in-Ok-Some-clause-grown g c =
    extends_trans c.args.self.now.owner.cut c.hear.new.self.owner.cut c.answer_at.new.self.owner.cut c.hear.ensures.grown c.answer_at.ensures.grown

pub returns-in-Ok-Some-clause-heard : goal.returns-in-Ok-Some-clause-heard
returns-in-Ok-Some-clause-heard g c =
    heard_more c.args.envelope.pass c.open-message.result.1 c.hear.new.self.owner.cut c.answer_at.new.self.owner.cut c.open-message.ensures.pass
    c.hear.ensures.heard c.answer_at.ensures.grown

pub returns-in-Ok-None-clause-grown : goal.returns-in-Ok-None-clause-grown
returns-in-Ok-None-clause-grown g c =
    extends_trans c.args.self.now.owner.cut c.hear.new.self.owner.cut c.answer_at.new.self.owner.cut c.hear.ensures.grown c.answer_at.ensures.grown

pub returns-in-Ok-None-clause-heard : goal.returns-in-Ok-None-clause-heard
returns-in-Ok-None-clause-heard g c =
    heard_more c.args.envelope.pass c.open-message.result.1 c.hear.new.self.owner.cut c.answer_at.new.self.owner.cut c.open-message.ensures.pass
    c.hear.ensures.heard c.answer_at.ensures.grown

pub returns-in-Err-clause-grown : goal.returns-in-Err-clause-grown
returns-in-Err-clause-grown g c =
    extends_trans c.args.self.now.owner.cut c.hear.new.self.owner.cut c.answer_at.new.self.owner.cut c.hear.ensures.grown c.answer_at.ensures.grown

pub returns-in-Err-clause-heard : goal.returns-in-Err-clause-heard
returns-in-Err-clause-heard g c =
    heard_more c.args.envelope.pass c.open-message.result.1 c.hear.new.self.owner.cut c.answer_at.new.self.owner.cut c.open-message.ensures.pass
    c.hear.ensures.heard c.answer_at.ensures.grown
