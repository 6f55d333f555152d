use Rattle.album_lines.proofs.Cuts.{cut_append}
use Rattle.album_lines.proofs.lines.any_pieces.Goals as goal

pub returns : goal.returns
returns c = cut_append
