use Rattle.std.proofs.Common.{All, take}
use Rattle.album_keepers.specs.declared.log_entries.LogEntry.{LogEntry as Entry}
use Rattle.album_keepers.proofs.logger.add_all.Given as goal

abbrev pub invariant-loop-entry : goal.invariant-loop-entry
invariant-loop-entry g l = record {
  added : All (g.L.MarkLog.adds l.log) (take l.entry-index l.entries);
  others : (other : Entry) → g.L.MarkLog.adds l.initial.log other → g.L.MarkLog.adds l.log other;
}
