use Rattle.album_replay.proofs.Promising.{runs_what_lines_spell}
use Rattle.album_replay.proofs.laws.a_replay_runs_what_its_lines_spell.Goals as goal

pub returns : goal.returns
returns c = runs_what_lines_spell
