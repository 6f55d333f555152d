use Rattle.std.proofs.Common.{◌≡◌, drop}
use Rattle.album_items.specs.Openings.{same_item}
use Rattle.album_stamps.specs.Distinct.{no_two}
use Rattle.album_items.proofs.openings.has_no_pair.Given as goal

abbrev pub invariant-loop-index : goal.invariant-loop-index
invariant-loop-index l = no_two same_item l.rows ≡ no_two same_item (drop l.index l.rows)
