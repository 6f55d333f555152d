use Rattle.std.proofs.Common.{◌≤◌, ap, ◌∙◌, subst}
use Rattle.album_stamps.specs.declared.limits.TheConstants.{MAX_PARTS}
use Rattle.album_passes.specs.Knowledge.{Terms}
use Rattle.album_threads.specs.Opened.{OpenedState}
use Rattle.album_keepers.proofs.StartLemmas.{owners_first, partitions_first}
use Rattle.album_threads.proofs.service.Service.open_logged.Goals as goal

pub begin-requires-clause-few : goal.begin-requires-clause-few
begin-requires-clause-few g c = λ κs apart.
    let terms = ap (λ (o : OpenedState). o.desk.terms) (c.opened.view_is ∙ c.requires.named) in
    subst (λ (t : Terms). t.parts ≤ MAX_PARTS) terms c.opened.invariant.few

pub begin-requires-clause-owners : goal.begin-requires-clause-owners
begin-requires-clause-owners g c = λ κs apart.
    let named = c.opened.view_is ∙ c.requires.named in
    owners_first c.opened.inside.desk g.J.BoardNames.table g.J.DeskNames.terms _ (ap (λ (o : OpenedState). o.desk.table) named)
    (ap (λ (o : OpenedState). o.desk.terms) named) c.opened.invariant.owned

pub begin-requires-clause-partitions : goal.begin-requires-clause-partitions
begin-requires-clause-partitions g c = λ κs apart.
    let terms = ap (λ (o : OpenedState). o.desk.terms) (c.opened.view_is ∙ c.requires.named) in
    partitions_first c.opened.inside.desk.terms g.J.DeskNames.terms _ terms c.opened.invariant.opened
