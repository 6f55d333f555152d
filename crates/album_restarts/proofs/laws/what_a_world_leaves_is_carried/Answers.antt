use Rattle.album_restarts.proofs.NextLemmas.{rows_carried, stamps_carried}
use Rattle.album_restarts.proofs.laws.what_a_world_leaves_is_carried.Goals as goal

pub returns-clause-rows : goal.returns-clause-rows
returns-clause-rows c = rows_carried

pub returns-clause-stamps : goal.returns-clause-stamps
returns-clause-stamps c = stamps_carried
