use Rattle.std.specs.Ordering.{nat_cmp}
use Rattle.std.specs.BTreeSet as set
use Rattle.album_eval.specs.Groups.{listed_in}
use Rattle.album_listing.proofs.Gathering.{groups-are}
use Rattle.album_listing.proofs.groups.groups_in.Goals as goal

pub returns-clause-groups : goal.returns-clause-groups
returns-clause-groups c =
    groups-are c.args.view.now.rows c.args.principal.now (listed_in c.in_ok-listed.listed)
    (set.contains nat_cmp c.in_ok-groups.groups) c.in_ok-listed.ensures c.in_ok-groups.ensures.exact
