use Rattle.album_wire.proofs.TalkSpelling.{one_hello_line}
use Rattle.album_wire.proofs.laws.hellos_by_line.Goals as goal

pub returns : goal.returns
returns c = one_hello_line
