use Rattle.std.proofs.Common.{sym, ◌∙◌}
use Rattle.album_keepers.proofs.SettleLemmas.{unsettled_some, one_settled}
use Rattle.album_keepers.proofs.keeper.PartitionKeeper.settle_one.Goals as goal

pub take_own_commit-requires-clause-committed : goal.take_own_commit-requires-clause-committed
take_own_commit-requires-clause-committed g c =
    c.requires.committed (unsettled_some c.args.self.now.partition c.args.stamp (sym c.is_unsettled.ensures ∙ c.if-not-is_unsettled.false))

pub returns-clause-settled : goal.returns-clause-settled
returns-clause-settled g c =
    c.in_ok-take_own_commit.ensures.changed
    ∙ one_settled c.args.self.now.partition c.args.stamp (sym c.is_unsettled.ensures ∙ c.if-not-is_unsettled.false)
