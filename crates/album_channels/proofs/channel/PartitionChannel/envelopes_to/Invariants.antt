use Rattle.std.proofs.Common.{◌≡◌}
use Rattle.album_channels.proofs.channel.PartitionChannel.envelopes_to.Given as goal

abbrev pub invariant-loop-message : goal.invariant-loop-message
invariant-loop-message g l = record { same : l.self ≡ l.initial.self }
