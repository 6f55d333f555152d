use Rattle.std.proofs.Common.{arith}
use Rattle.album_versions.proofs.RowLemmas.{version_in-at, added-kept, added-found}
use Rattle.album_versions.proofs.rows.Row.add.Goals as goal
use Rattle.album_versions.proofs.rows.Row.add.Goals.{in-Ok, in-Err-insert}

-- there is no version at the stamp
pub returns-in_default-clause-added : goal.returns-in_default-clause-added
returns-in_default-clause-added c =
    let at = rw (← c.self.view_is) at c.in_default.ensures.found in
    let none = rw (← c.self.view_is) at c.requires in
    let found = version_in-at c.self.inside.versions.items c.self.invariant.rising c.args.stamp c.in_default.field-0 (record { stamp = 0; value = c.args.value }) at in
    absurd (cc)

pub invariant_of-self : goal.invariant_of-self
invariant_of-self c =
    let gap = rw (← c.self.view_is) at c.in-Err.ensures.absent in
    elim c.match-insert.branch [
      | in-Ok w ↦ rw w.in-Ok.ensures.items (added-kept (record { latest = c.self.inside.latest; floor = c.self.inside.floor; versions = c.self.inside.versions.items }) c.args.stamp c.in-Err.index c.args.value c.self.invariant (omega arith) gap)
      | in-Err-insert w ↦ rw w.in-Err-insert.ensures.items c.self.invariant
    ]

pub returns-clause-added : goal.returns-clause-added
returns-clause-added c =
    let gap = rw (← c.self.view_is) at c.in-Err.ensures.absent in
    elim c.match-insert.branch [
      | in-Ok w ↦ rw (w.result-is, w.in-Ok.ensures.items, ← c.self.view_is) (added-found c.self.inside.versions.items c.args.stamp c.in-Err.index c.self.inside.floor c.args.value (omega arith) gap)
      | in-Err-insert w ↦ rw w.result-is tt
    ]
