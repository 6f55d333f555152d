use Rattle.std.proofs.Common.{◌∙◌, ap, subst}
use Rattle.album_partition.specs.Partition.{PartitionState, IsPartition}
use Rattle.album_partition.specs.Proper.{are_proper_marks}
use Rattle.album_partition.proofs.partition.Partition.history.Goals as goal

pub returns-clause-proper : goal.returns-clause-proper
returns-clause-proper c =
    let h = subst IsPartition c.self.view_is c.self.invariant in
    ap (are_proper_marks c.args.self.now.number c.args.self.now.parts)
    (c.marks.ensures.marks ∙ ap (λ (p : PartitionState). p.marks) c.self.view_is)
    ∙ h.proper
