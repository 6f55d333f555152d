use Rattle.album_epochs.proofs.GreatestLemmas.{IsGreatestBefore}
use Rattle.album_epochs.proofs.greatest.greatest_stamp.Given as goal

abbrev pub invariant-loop-history : goal.invariant-loop-history
invariant-loop-history l = IsGreatestBefore l.histories l.history-index l.greatest
