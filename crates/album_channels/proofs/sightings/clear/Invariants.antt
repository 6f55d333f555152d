use Rattle.std.proofs.Common.{◌≡◌, All, None}
use Rattle.album_channels.proofs.sightings.clear.Given as goal

abbrev pub invariant-loop : goal.invariant-loop
invariant-loop l = record { none : All (λ s. s ≡ None) l.sightings.items }
