use Rattle.album_world.proofs.EventLemmas.{read_keeps_partitions}
use Rattle.album_world.proofs.laws.a_read_begins_with_its_partitions.Goals as goal

pub returns : goal.returns
returns c = read_keeps_partitions
