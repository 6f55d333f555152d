use Rattle.std.proofs.Common.{ap, sym, ◌∙◌, subst}
use Rattle.std.proofs.lemmas.Result.{on_ok_weaker}
use Rattle.album_calls.specs.declared.messages.Message.{Message}
use Rattle.album_partition.specs.Answers.{after}
use Rattle.album_keepers.specs.Envelopes.{Shows}
use Rattle.album_keepers.specs.Keepers.{KeeperState}
use Rattle.album_keepers.specs.Settling.{stamps_in, AreSettledIn}
use Rattle.album_keepers.proofs.SettleLemmas.{committed_shown, none_asked}
use Rattle.album_keepers.proofs.keeper.PartitionKeeper.take_own_commit.Goals as goal

-- the Commit is the partition's own
pub take-taken-requires-clause-shown : goal.take-taken-requires-clause-shown
take-taken-requires-clause-shown g c =
    let number = c.self.invariant.0 ∙ ap (λ (k : KeeperState). k.partition.number) c.self.view_is in
    let commit = c.own_commit-commit.ensures c.args.self.now.partition number in
    subst (Shows c.args.self.now.owner.cut) (sym commit)
    (committed_shown c.args.self.now.owner.cut c.args.stamp c.requires.sound c.requires.committed)

pub take-taken-requires-clause-settled : goal.take-taken-requires-clause-settled
take-taken-requires-clause-settled g c =
    let number = c.self.invariant.0 ∙ ap (λ (k : KeeperState). k.partition.number) c.self.view_is in
    let commit = c.own_commit-commit.ensures c.args.self.now.partition number in
    subst (λ (m : Message). AreSettledIn c.args.self.now.partition.marks (stamps_in m.body)) (sym commit)
    (none_asked c.args.self.now.partition.marks)

pub returns-clause-changed : goal.returns-clause-changed
returns-clause-changed g c =
    let number = c.self.invariant.0 ∙ ap (λ (k : KeeperState). k.partition.number) c.self.view_is in
    let commit = c.own_commit-commit.ensures c.args.self.now.partition number in
    on_ok_weaker c.take-taken.result (λ done. done ∙ ap (after c.args.self.now.partition) commit) c.take-taken.ensures.changed
