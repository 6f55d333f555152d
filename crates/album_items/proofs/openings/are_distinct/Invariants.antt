use Rattle.std.proofs.Common.{◌≡◌, drop}
use Rattle.album_stamps.specs.Distinct.{are_distinct}
use Rattle.album_items.proofs.openings.are_distinct.Given as goal

abbrev pub invariant-loop-index : goal.invariant-loop-index
invariant-loop-index l = are_distinct l.items ≡ are_distinct (drop l.index l.items)
