use Rattle.std.proofs.Common.{refl}
use Rattle.album_wire.specs.MarkLine.{mark_text}
use Rattle.album_wire.proofs.Spellings.{mark_back, mark_in_line}
use Rattle.album_wire.proofs.laws.marks_read_back.Goals as goal

pub returns-clause-text : goal.returns-clause-text
unfolding mark_text
returns-clause-text c = λ part stamp writes items. refl

pub returns-clause-one_line : goal.returns-clause-one_line
returns-clause-one_line c = mark_in_line

pub returns-clause-back : goal.returns-clause-back
returns-clause-back c = mark_back c.items_by_text.ensures.read
