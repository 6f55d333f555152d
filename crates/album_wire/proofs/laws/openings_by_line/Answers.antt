use Rattle.album_wire.proofs.OpeningSpelling.{one_opening_line}
use Rattle.album_wire.proofs.laws.openings_by_line.Goals as goal

pub returns : goal.returns
returns c = one_opening_line c.items_by_text.ensures.read
