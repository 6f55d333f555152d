use Rattle.std.proofs.Common.{◌≡◌}
use Rattle.album_channels.proofs.channel.PartitionChannel.hear.Given as goal

abbrev pub invariant-loop : goal.invariant-loop
invariant-loop g l = record { same : l.self ≡ l.initial.self; asked : l.asked ≡ l.initial.asked }
