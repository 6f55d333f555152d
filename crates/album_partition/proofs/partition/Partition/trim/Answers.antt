use Rattle.std.proofs.Common.{◌∙◌, sym}
use Rattle.album_partition.proofs.PartitionLemmas.{CanTrim, can_trim}
use Rattle.album_partition.proofs.partition.Partition.trim.Goals as goal

can : (c : goal.After-apply-arg-1) → CanTrim c.args.self.now c.in_ok-action.action
can c =
    can_trim c.args.self.now c.args.item c.in_ok-action.action c.on_trim.ensures.partition
    (sym c.on_trim.ensures.action ∙ c.in_ok-action.was)

pub apply-requires-clause-follows : goal.apply-requires-clause-follows
apply-requires-clause-follows c = (can c).follows

pub apply-requires-clause-partition : goal.apply-requires-clause-partition
apply-requires-clause-partition c = (can c).stays
