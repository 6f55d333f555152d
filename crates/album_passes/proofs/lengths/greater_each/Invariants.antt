use Rattle.std.proofs.Common.{◌≡◌, ℕ, ◌<◌, max, length, slice_index}
use Rattle.album_passes.proofs.lengths.greater_each.Given as goal

abbrev pub invariant-loop-part : goal.invariant-loop-part
invariant-loop-part l = record {
  width : length l.all ≡ 16;
  greater : (p : ℕ) → p < l.part → slice_index l.all p ≡ max (slice_index l.one p) (slice_index l.other p);
}
