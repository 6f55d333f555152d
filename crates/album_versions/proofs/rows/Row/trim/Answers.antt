use Rattle.album_versions.proofs.RowLemmas.{trimmed-kept}
use Rattle.album_versions.proofs.rows.Row.trim.Goals as goal

pub invariant_of-self : goal.invariant_of-self
invariant_of-self c = rw c.drop_below.ensures (trimmed-kept (record { latest = c.self.inside.latest; floor = c.self.inside.floor; versions = c.self.inside.versions.items }) c.self.invariant)
