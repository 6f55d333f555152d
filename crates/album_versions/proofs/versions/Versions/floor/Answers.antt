use Rattle.std.proofs.Common.{sym}
use Rattle.album_versions.proofs.VersionLemmas.{found_above}
use Rattle.album_versions.proofs.versions.Versions.floor.Goals as goal

pub returns-in-Some-clause-kept : goal.returns-in-Some-clause-kept
returns-in-Some-clause-kept c = rw (← c.self.view_is) (λ t found. found_above c.self.inside.rows c.args.item c.floor.result t c.in-Some.row.now (sym c.in-Some.ensures.value) c.floor.ensures.kept found)
