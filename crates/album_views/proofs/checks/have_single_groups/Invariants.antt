use Rattle.std.proofs.Common.{◌≡◌, drop}
use Rattle.album_stamps.specs.Distinct.{no_two}
use Rattle.album_views.specs.Checks.{same_group}
use Rattle.album_views.proofs.checks.have_single_groups.Given as goal

abbrev pub invariant-loop-index : goal.invariant-loop-index
invariant-loop-index l = no_two same_group l.members ≡ no_two same_group (drop l.index l.members)
