use Rattle.album_partition.proofs.ProperLemmas.{proper_placed, proper_in_any_order}
use Rattle.album_partition.proofs.laws.proper_writes_are_those_placed_here.Goals as goal

pub returns-clause-placed : goal.returns-clause-placed
returns-clause-placed c = proper_placed

pub returns-clause-order : goal.returns-clause-order
returns-clause-order c = proper_in_any_order
