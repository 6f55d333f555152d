use Rattle.std.proofs.Common.{◌≡◌, drop}
use Rattle.album_stamps.specs.Distinct.{no_two}
use Rattle.album_views.specs.Checks.{same_object}
use Rattle.album_views.proofs.checks.have_single_objects.Given as goal

abbrev pub invariant-loop-index : goal.invariant-loop-index
invariant-loop-index l = no_two same_object l.lists ≡ no_two same_object (drop l.index l.lists)
