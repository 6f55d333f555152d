use Rattle.std.proofs.Common.{◌≤◌, ℕ, List, length, take, subst, ap, arith}
use Rattle.album_eval.specs.Groups.{listed_in}
use Rattle.album_reader.specs.Snapshots.{items_read}
use Rattle.album_views.specs.Seen.{seen}
use Rattle.album_listing.proofs.Gathering.{IsGathered, gathered-all}
use Rattle.album_listing.proofs.groups.listed_in.Goals as goal

-- all items were looked at
pub returns : goal.returns
returns c =
    let same = c.items-item-items.ensures in
    let all : length (items_read c.args.view.now.rows) ≤ c.loop-item.item-index =
    omega (arith, ap (λ (is : List ℕ). length is) same, c.loop-item-test.false) in
    gathered-all c.args.principal.now c.args.view.now.rows c.loop-item.item-index (listed_in c.loop-item.groups) all
    (subst
    (λ (is : List ℕ). IsGathered c.args.principal.now (seen c.args.view.now.rows) (take c.loop-item.item-index is) (listed_in c.loop-item.groups))
    same c.loop-item.invariant)
