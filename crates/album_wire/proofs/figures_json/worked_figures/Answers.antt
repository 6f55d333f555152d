use Rattle.std.proofs.Common.{refl}
use Rattle.album_wire.proofs.OnLiterals.{lines_on_literals}
use Rattle.album_wire.proofs.figures_json.worked_figures.Goals as goal

pub returns : goal.returns
unfolding lines_on_literals
returns c = record { two = refl }
