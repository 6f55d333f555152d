use Rattle.std.proofs.Common.{◌≡◌, rules}
use Rattle.album_partition.proofs.StandingLemmas.{listed}
use Rattle.album_partition.proofs.standings.Standings.pending.Goals as goal

pub returns : goal.returns
returns c =
    let same : c.in_ok-stamps.stamps.items ≡ c.self.inside.pending.keys = search rules in
    listed c.args.self.now c.self.inside.pending c.in_ok-stamps.stamps.items (rw (← c.self.view_is) c.self.invariant)
    c.iter.ensures.ordered same
