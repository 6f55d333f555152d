use Rattle.album_wire.proofs.EventSpelling.{one_event_line}
use Rattle.album_wire.proofs.laws.events_by_line.Goals as goal

pub returns : goal.returns
returns c = one_event_line c.items_by_text.ensures.read
