use Rattle.album_data.proofs.KeptLemmas.{kept_is_read}
use Rattle.album_data.proofs.laws.what_is_kept_is_read.Goals as goal

pub returns : goal.returns
returns c = kept_is_read c.marks_read_back.ensures.text c.marks_read_back.ensures.back
