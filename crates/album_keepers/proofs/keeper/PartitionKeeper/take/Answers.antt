use Rattle.std.proofs.Common.{rules}
use Rattle.album_keepers.proofs.KeeperLemmas.{message_next, keeper_after}
use Rattle.album_keepers.proofs.keeper.PartitionKeeper.take.Goals as goal

pub append_next-requires-clause-next : goal.append_next-requires-clause-next
append_next-requires-clause-next g c =
    message_next g.J.BoardNames.table g.J.DeskNames.terms.limit _ c.args.message.now c.receive.new.self c.self.invariant.1 (search rules) (search rules) (search rules) (search rules)

pub invariant_of-self-in-Ok : goal.invariant_of-self-in-Ok
invariant_of-self-in-Ok g c = (
  search rules,
  keeper_after g.J.BoardNames.table g.J.DeskNames.terms.limit _ c.args.message.now c.receive.new.self c.append_next.new.owner c.self.invariant.1 (search rules) (search rules)
      c.append_next.ensures.table c.append_next.ensures.part c.append_next.ensures.grown c.append_next.ensures.marks,
)
