use Rattle.std.proofs.Common.{List, refl, ap}
use Rattle.album_versions.specs.declared.rows.Version.{Version}
use Rattle.album_versions.proofs.RowLemmas.{removed-at, removed-gap, dropped-kept}
use Rattle.album_versions.proofs.rows.Row.drop_stamp.Goals as goal

pub invariant_of-self : goal.invariant_of-self
invariant_of-self c =
    let at = rw (← c.self.view_is) at c.in-Ok.ensures.found in
    let removed = removed-at c.self.inside.versions.items c.self.invariant.rising c.args.stamp c.in-Ok.index at in
    rw (c.remove_at.ensures, removed) (dropped-kept (record { latest = c.self.inside.latest; floor = c.self.inside.floor; versions = c.self.inside.versions.items }) c.args.stamp c.self.invariant)

pub returns-in-Ok : goal.returns-in-Ok
returns-in-Ok c =
    let at = rw (← c.self.view_is) at c.in-Ok.ensures.found in
    let removed = removed-at c.self.inside.versions.items c.self.invariant.rising c.args.stamp c.in-Ok.index at in
    rw (c.remove_at.ensures, removed, ← c.self.view_is) refl

-- there is none
pub returns-in_default : goal.returns-in_default
returns-in_default c =
    let gap = rw (← c.self.view_is) at c.in_default.ensures.absent in
    let removed = removed-gap c.self.inside.versions.items c.args.stamp c.in_default.field-0 gap in
    rw (← c.self.view_is) (ap (λ (vs : List Version). record { latest = c.self.inside.latest; floor = c.self.inside.floor; versions = vs }) removed)
