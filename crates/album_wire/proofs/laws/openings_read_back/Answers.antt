use Rattle.std.proofs.Common.{refl}
use Rattle.album_wire.specs.OpeningJson.{opening_text}
use Rattle.album_wire.proofs.Spellings.{opening_back, opening_in_line}
use Rattle.album_wire.proofs.laws.openings_read_back.Goals as goal

pub returns-clause-text : goal.returns-clause-text
unfolding opening_text
returns-clause-text c = λ line. refl

pub returns-clause-one_line : goal.returns-clause-one_line
returns-clause-one_line c = opening_in_line

pub returns-clause-back : goal.returns-clause-back
returns-clause-back c = opening_back c.items_by_text.ensures.read
