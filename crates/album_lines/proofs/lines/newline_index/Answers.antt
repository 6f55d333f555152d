use Rattle.album_lines.proofs.Newlines.{at_first}
use Rattle.album_lines.proofs.lines.newline_index.Goals as goal

pub returns : goal.returns
returns c = at_first c.args.text.now c.memchr.result c.memchr.ensures
