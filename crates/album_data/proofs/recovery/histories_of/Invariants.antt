use Rattle.std.proofs.Common.{map}
use Rattle.album_data.specs.Recovery.{AreLogged}
use Rattle.album_data.proofs.recovery.histories_of.Given as goal

abbrev pub invariant-loop-part : goal.invariant-loop-part
invariant-loop-part l = AreLogged l.part l.entries (map (λ marks. marks.items) l.histories.items)
