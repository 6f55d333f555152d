use Rattle.std.proofs.Common.{◌-◌}
use Rattle.album_keepers.specs.Firsts.{AreFirst, AreFirstOwners}
use Rattle.album_keepers.proofs.start.start_all.Given as goal

abbrev pub invariant-loop-done : goal.invariant-loop-done
invariant-loop-done g l = record {
  owners : AreFirstOwners (record { table = g.J.BoardNames.table; terms = g.J.DeskNames.terms }) (l.count - l.done) l.owners.items;
  partitions : AreFirst g.J.DeskNames.terms (l.count - l.done) l.partitions.items;
}
