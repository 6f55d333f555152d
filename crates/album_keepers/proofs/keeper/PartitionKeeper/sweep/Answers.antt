use Rattle.std.proofs.Common.{rules}
use Rattle.album_keepers.proofs.SweepLemmas.{swept_shown}
use Rattle.album_keepers.proofs.keeper.PartitionKeeper.sweep.Goals as goal

pub envelopes_of-requires-clause-shown : goal.envelopes_of-requires-clause-shown
envelopes_of-requires-clause-shown g c =
    swept_shown g.J.DeskNames.terms.limit _ c.self.inside.partition c.args.stamp _ (search rules) c.self.invariant.1.shown (search rules)
