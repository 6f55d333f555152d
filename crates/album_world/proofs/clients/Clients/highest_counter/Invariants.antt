use Rattle.std.proofs.Common.{◌≡◌, ◌≤◌, drop, max}
use Rattle.album_stamps.specs.declared.limits.TheConstants.{MAX_COUNTER}
use Rattle.album_world.specs.State.{highest_counter}
use Rattle.album_world.proofs.clients.Clients.highest_counter.Given as goal

abbrev pub invariant-loop-index : goal.invariant-loop-index
invariant-loop-index l =
    (max l.highest (highest_counter (drop l.index l.self)) ≡ highest_counter l.self) × (l.highest ≤ MAX_COUNTER)
