use Rattle.std.proofs.Common.{◌∙◌}
use Rattle.album_partition.proofs.StoredLemmas.{value_read}
use Rattle.album_partition.proofs.stored.Stored.value.Goals as goal

pub returns : goal.returns
returns c =
    rw (← c.self.view_is) (
    c.value.ensures ∙ value_read c.self.inside.history c.self.inside.versions c.args.item c.args.stamp c.self.invariant (rw (← c.self.view_is) at c.requires)
    )
