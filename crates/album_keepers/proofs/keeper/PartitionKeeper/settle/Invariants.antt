use Rattle.std.proofs.Common.{◌≡◌, ◌<◌, take}
use Rattle.album_passes.specs.Cuts.{IsSound, Extends}
use Rattle.album_keepers.specs.Settling.{settled, stamps_in}
use Rattle.album_keepers.proofs.keeper.PartitionKeeper.settle.Given as goal

abbrev pub invariant-loop-stamp : goal.invariant-loop-stamp
invariant-loop-stamp g l = record {
  settled : l.self.partition ≡ settled l.fn.self.partition (take l.stamp-index (stamps_in l.fn.message.body));
  grown : Extends l.fn.self.owner.cut l.self.owner.cut;
  sound : IsSound l.self.owner.cut;
  inside : l.self.owner.part < l.self.owner.cut.parts;
}
