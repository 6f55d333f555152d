use Rattle.album_partition.specs.declared.marks.Mark.TheVariants.{Discarded}
use Rattle.album_passes.proofs.CutLemmas.{backed_more}
use Rattle.album_grounds.proofs.GroundLemmas.{seen_more, kept_more, without_room_more}
use Rattle.album_grounds.proofs.laws.grounds_stay.Goals as goal

pub returns-clause-seen : goal.returns-clause-seen
returns-clause-seen c = seen_more

pub returns-clause-kept : goal.returns-clause-kept
returns-clause-kept c = kept_more

pub returns-clause-promised : goal.returns-clause-promised
returns-clause-promised c = λ old new stamp x p. backed_more old new x (Discarded stamp) p

pub returns-clause-without_room : goal.returns-clause-without_room
returns-clause-without_room c = without_room_more
