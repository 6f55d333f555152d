use Rattle.album_lines.proofs.Cuts.{lines_of_joined}
use Rattle.album_lines.proofs.lines.joined_lines.Goals as goal

pub returns : goal.returns
returns c = lines_of_joined
