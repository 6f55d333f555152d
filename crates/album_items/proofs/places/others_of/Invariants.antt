use Rattle.std.proofs.Common.{◌≡◌, filter}
use Rattle.std.specs.List.{range_with_len}
use Rattle.album_items.specs.Places.{is_other}
use Rattle.album_items.proofs.places.others_of.Given as goal

abbrev pub invariant-loop-part : goal.invariant-loop-part
invariant-loop-part l = l.others.items ≡ filter (is_other l.number l.parts l.items) (range_with_len 0 l.part)
