use Rattle.std.proofs.Common.{◌<◌, All}
use Rattle.album_passes.specs.Cuts.{Extends, IsSound}
use Rattle.album_keepers.specs.Held.{AreNeverPrepared}
use Rattle.album_keepers.specs.Rounds.{Counts, SaysNonePrepared}
use Rattle.album_keepers.proofs.shared_keeper.Locked.answer_all.Given as goal

abbrev pub invariant-loop-index : goal.invariant-loop-index
invariant-loop-index g l = record {
  heard : Extends l.fn.pass.cut l.self.keeper.owner.cut;
  sound : IsSound l.self.keeper.owner.cut;
  inside : l.self.keeper.owner.part < l.self.keeper.owner.cut.parts;
  count : All (Counts g.J.DeskNames.terms.limit l.fn.pass.cut l.fn.messages) l.fn.replies.items
      → All (Counts g.J.DeskNames.terms.limit l.fn.pass.cut l.fn.messages) l.replies.items;
  free : AreNeverPrepared l.fn.messages → All SaysNonePrepared l.fn.replies.items → All SaysNonePrepared l.replies.items;
}
