use Rattle.album_tests_views.specs.Looking.{IsNobodys}
use Rattle.album_tests_views.proofs.viewing.view_of.Given as goal

abbrev pub invariant-loop-read : goal.invariant-loop-read
invariant-loop-read l = IsNobodys l.step
