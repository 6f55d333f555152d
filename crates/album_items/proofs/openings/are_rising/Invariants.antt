use Rattle.std.proofs.Common.{◌≡◌, drop}
use Rattle.album_items.specs.Openings.{is_not_above}
use Rattle.album_stamps.specs.Distinct.{no_two}
use Rattle.album_items.proofs.openings.are_rising.Given as goal

abbrev pub invariant-loop-index : goal.invariant-loop-index
invariant-loop-index l = no_two is_not_above l.rows ≡ no_two is_not_above (drop l.index l.rows)
