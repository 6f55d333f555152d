use Rattle.std.proofs.Common.{◌≡◌, take}
use Rattle.album_items.specs.Transactions.{items_written}
use Rattle.album_writer.proofs.sending.items_written.Given as goal

abbrev pub invariant-loop-write : goal.invariant-loop-write
invariant-loop-write l = l.items.items ≡ items_written (take l.write-index l.writes)
