use Rattle.std.proofs.Common.{◌≡◌, All}
use Rattle.album_keepers.specs.Rounds.{Counts}
use Rattle.album_channels.proofs.channel.PartitionChannel.post_all.Given as goal

abbrev pub invariant-loop-part : goal.invariant-loop-part
invariant-loop-part g l = record {
  same : l.self ≡ l.initial.self;
  count : All (Counts g.J.DeskNames.terms.limit l.fn.self.cut l.fn.messages) l.replies.items;
}
