use Rattle.album_views.specs.Seen.{seen}
use Rattle.album_views.proofs.Growing.{AreLookedAt}
use Rattle.album_views.proofs.read_set.names.Given as goal

abbrev pub invariant-loop-index : goal.invariant-loop-index
invariant-loop-index l = AreLookedAt (seen l.snapshot) l.looker l.ask l.index l.names.keys
