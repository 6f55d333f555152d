use Rattle.std.proofs.Common.{All}
use Rattle.album_keepers.proofs.logger.keep_group.Given as goal

abbrev pub invariant-loop : goal.invariant-loop
invariant-loop g l = All (All (g.L.MarkLog.adds l.log)) l.group.items
