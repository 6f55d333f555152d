use Rattle.std.proofs.lemmas.Bool.Decides.{Decides-eqb}
use Rattle.std.proofs.lemmas.Slice.Eq.{slice_eq-Decides}
use Rattle.album_channels.proofs.asked.are_same_stamps.Goals as goal

pub returns : goal.returns
returns c = (slice_eq-Decides Decides-eqb _ _ c.eq.result c.eq.ensures).0
