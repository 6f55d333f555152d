use Rattle.std.proofs.Common.{sym}
use Rattle.album_versions.proofs.RowLemmas.{version_in-at, version_in-gap}
use Rattle.album_versions.proofs.rows.Row.value.Goals as goal

-- the version is at the index
pub returns-in-Ok : goal.returns-in-Ok
returns-in-Ok c =
    let at = rw (← c.self.view_is) at c.in-Ok.ensures.found in
    let found = version_in-at c.self.inside.versions.items c.self.invariant.rising c.args.stamp c.in-Ok.index c.index.result.now at in
    rw (← c.self.view_is) (sym (rw (← c.index.ensures) at found))

-- there is none
pub returns-in-Err : goal.returns-in-Err
returns-in-Err c = sym (version_in-gap _ _ _ c.in-Err.ensures.absent)
