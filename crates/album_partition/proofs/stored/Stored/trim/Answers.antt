use Rattle.album_partition.proofs.StoredLemmas.{trimmed_kept}
use Rattle.album_partition.proofs.stored.Stored.trim.Goals as goal

pub invariant_of-self-2 : goal.invariant_of-self-2
invariant_of-self-2 c = trimmed_kept _ _ _ _ _ c.self.invariant c.in_ok-add.ensures.ok c.trim.ensures
