use Rattle.std.proofs.Common.{length, ap, sym, ◌∙◌, arith}
use Rattle.std.proofs.lemmas.List.{take_all}
use Rattle.std.proofs.lemmas.Result.{on_err_weaker}
use Rattle.album_passes.proofs.CutLemmas.{extends_trans}
use Rattle.album_keepers.specs.Keepers.{KeeperState}
use Rattle.album_keepers.specs.Settling.{stamps_in, settled}
use Rattle.album_keepers.proofs.EnvelopeLemmas.{shows_more}
use Rattle.album_keepers.proofs.RoundLemmas.{sent_from}
use Rattle.album_keepers.proofs.keeper.PartitionKeeper.reply_to.Goals as goal

-- what the owner's cut shows, it shows once the stamps are settled
pub take-taken-requires-clause-shown : goal.take-taken-requires-clause-shown
take-taken-requires-clause-shown g c =
    shows_more c.args.self.now.owner.cut c.settle.new.self.owner.cut c.settle.ensures.grown c.args.message.now c.requires.shown

pub returns-clause-grown : goal.returns-clause-grown
returns-clause-grown g c =
    extends_trans c.args.self.now.owner.cut c.settle.new.self.owner.cut c.take-taken.new.self.owner.cut c.settle.ensures.grown c.take-taken.ensures.grown

-- the partition replies to whoever has sent the message
pub returns-clause-sender : goal.returns-clause-sender
returns-clause-sender g c =
    sent_from c.settle.new.self.partition c.take-taken.new.self.partition c.args.message.now c.take-taken.result
    c.take-taken.ensures.changed c.take-taken.ensures.answered

-- all of the stamps are settled by then
pub returns-clause-unchanged : goal.returns-clause-unchanged
returns-clause-unchanged g c =
    let stamps = stamps_in c.args.message.now.body in
    on_err_weaker c.take-taken.result (λ same. (
      length stamps,
      ap (λ (k : KeeperState). k.partition) same ∙ c.in_ok-settle.ensures.settled
          ∙ ap (settled c.args.self.now.partition) (sym (take_all (length stamps) stamps (omega arith))),
    )) c.take-taken.ensures.unchanged
