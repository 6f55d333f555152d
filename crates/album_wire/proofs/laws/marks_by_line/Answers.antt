use Rattle.album_wire.proofs.MarkSpelling.{one_mark_line}
use Rattle.album_wire.proofs.laws.marks_by_line.Goals as goal

pub returns : goal.returns
returns c = one_mark_line c.items_by_text.ensures.read
