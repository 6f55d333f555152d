use Rattle.std.proofs.Common.{◌≡◌, vec_len}
use Rattle.album_threads.proofs.running.copies_of.Given as goal

abbrev pub invariant-loop-mailbox : goal.invariant-loop-mailbox
invariant-loop-mailbox g l = record { copied : vec_len l.copies ≡ l.mailbox-index }
