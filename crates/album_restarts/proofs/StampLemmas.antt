-- No stamp is drawn above the counters of the clocks (`stamp_low`). `NextLemmas` and `ClockLemmas` cite these.
use Rattle.std.proofs.Common.{◌≡◌, ℕ, ◌<◌, ◌≤◌, ◌+◌, ◌*◌, ◌==◌, Bool, true, false, List, [], ◌∷◌, arith, max, if◌then◌else◌}
use Rattle.album_items.specs.Openings.{greatest_number}
use Rattle.album_items.specs.declared.openings.Opening.{Opening}
use Rattle.album_client.specs.Clients.{Client}
use Rattle.album_client.specs.Steps.{Transaction}
use Rattle.album_world.specs.Past.{World}
use Rattle.album_world.specs.State.{client_at, highest_counter}
use Rattle.album_world.proofs.Invariant.{IsKept}
use Rattle.album_world.proofs.ListLemmas.{In}

-- no clock is above the highest counter
pub highest_at : (cs : List Client) (c : ℕ) → (client_at cs c).clock.counter ≤ highest_counter cs
highest_at [] c = omega arith
highest_at (x ∷ cs) c = go (x.number == c) (highest_at cs c)
  where
    go : (b : Bool) → (client_at cs c).clock.counter ≤ highest_counter cs
        → (if b then x else client_at cs c).clock.counter ≤ max x.clock.counter (highest_counter cs)
    go true rest = omega arith
    go false rest = omega (arith, rest)

-- the stamp of a transaction has a counter that some clock has
pub stamp_low : (o : Opening) (w : World) → IsKept o w → (by : Transaction) → In by w.past.transactions
    → by.stamp ≤ greatest_number (highest_counter w.now.clients)
stamp_low o w k by n =
    let d = k.drawn by n in
    let is : by.stamp ≡ d.counter * 65536 + d.client = d.is in
    let high : d.client < 65536 = d.high in
    let old : d.counter ≤ (client_at w.now.clients d.client).clock.counter = d.old in
    omega (arith, is, high, old, highest_at w.now.clients d.client)
