use Rattle.std.proofs.Common.{◌≡◌, ◌+◌, ◌++◌, vec_len, vec_capacity}
use Rattle.album_world.specs.Runs.{numbers_after}
use Rattle.album_world.proofs.sending.push_sent.Given as goal

abbrev pub invariant-loop-index : goal.invariant-loop-index
invariant-loop-index l = record {
  items : l.outs.items ≡ l.fn.outs.items ++ numbers_after l.before l.index;
  len : vec_len l.outs ≡ vec_len l.fn.outs + l.index;
  capacity : vec_capacity l.outs ≡ vec_capacity l.fn.outs;
}
