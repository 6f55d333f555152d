use Rattle.std.proofs.Common.{◌≢◌, ℕ, ◌<◌, ◌≤◌, slice_index, length}
use Rattle.album_log.proofs.reader.text_end.Given as goal

-- no newline behind `end`
abbrev pub invariant-loop-end : goal.invariant-loop-end
invariant-loop-end l = (l.end ≤ length l.text) × ((k : ℕ) → l.end ≤ k → k < length l.text → slice_index l.text k ≢ 10)

abbrev pub decreases-loop-end : goal.decreases-loop-end
decreases-loop-end l = l.end
