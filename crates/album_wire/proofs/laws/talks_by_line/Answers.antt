use Rattle.album_wire.proofs.TalkSpelling.{one_talk_line}
use Rattle.album_wire.proofs.laws.talks_by_line.Goals as goal

pub returns : goal.returns
returns c = one_talk_line c.items_by_text.ensures.read
