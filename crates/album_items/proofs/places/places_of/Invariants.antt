use Rattle.std.proofs.Common.{◌≡◌, filter}
use Rattle.std.specs.List.{range_with_len}
use Rattle.album_items.specs.Places.{lies_at}
use Rattle.album_items.proofs.places.places_of.Given as goal

abbrev pub invariant-loop-part : goal.invariant-loop-part
invariant-loop-part l = l.places.items ≡ filter (λ part. lies_at part l.parts l.items) (range_with_len 0 l.part)
