use Rattle.std.proofs.Common.{◌≡◌, [], take}
use Rattle.album_epochs.specs.Folding.{ArePrepared}
use Rattle.album_data.specs.Recovery.{marks_after}
use Rattle.album_data.proofs.recovery.history_of.Given as goal

abbrev pub invariant-loop-entry : goal.invariant-loop-entry
invariant-loop-entry l = record {
  marks : l.marks.items ≡ marks_after l.part [] (take l.entry-index l.entries);
  stamps : ArePrepared l.marks.items l.stamps;
}
