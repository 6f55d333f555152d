use Rattle.std.proofs.Common.{◌≤◌, All, take}
use Rattle.album_stamps.specs.Stamps.{counter_of}
use Rattle.album_epochs.specs.Folding.{stamp_in}
use Rattle.album_data.proofs.recovery.greatest_counter.Given as goal

abbrev pub invariant-loop-entry : goal.invariant-loop-entry
invariant-loop-entry l = All (λ entry. counter_of (stamp_in entry.mark) ≤ l.greatest) (take l.entry-index l.entries)
