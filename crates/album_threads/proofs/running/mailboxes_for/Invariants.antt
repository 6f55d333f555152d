use Rattle.std.proofs.Common.{◌≡◌, vec_len}
use Rattle.album_threads.proofs.running.mailboxes_for.Given as goal

abbrev pub invariant-loop-made : goal.invariant-loop-made
invariant-loop-made g l = record { made : vec_len l.mailboxes ≡ l._made }
