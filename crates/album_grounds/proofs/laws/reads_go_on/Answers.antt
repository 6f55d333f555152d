use Rattle.album_grounds.proofs.GoingOnLemmas.{no_older, own_writes}
use Rattle.album_grounds.proofs.laws.reads_go_on.Goals as goal

pub returns-clause-no_older : goal.returns-clause-no_older
returns-clause-no_older c = no_older

pub returns-clause-own_writes : goal.returns-clause-own_writes
returns-clause-own_writes c = own_writes
