use Rattle.std.proofs.Common.{◌≡◌, is_some}
use Rattle.album_keepers.proofs.thread.PartitionLoop.receive_all.Given as goal

abbrev pub invariant-loop-envelope : goal.invariant-loop-envelope
invariant-loop-envelope g l = l.outgoing.logged ≡ is_some l.self.outbox.log
