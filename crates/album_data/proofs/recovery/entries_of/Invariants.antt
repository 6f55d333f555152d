use Rattle.std.proofs.Common.{◌≤◌, ◌-◌, length, take}
use Rattle.album_data.specs.Recovery.{AreEntryLines}
use Rattle.album_data.proofs.recovery.entries_of.Given as goal

abbrev pub invariant-loop-at : goal.invariant-loop-at
invariant-loop-at l = record {
  within : l.at ≤ length l.text;
  read : AreEntryLines (take l.at l.text) l.entries.items;
}

abbrev pub decreases-loop-at : goal.decreases-loop-at
decreases-loop-at l = length l.text - l.at
