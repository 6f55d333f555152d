use Rattle.std.proofs.Common.{◌≡◌, ◌+◌, ◌-◌, length, drop}
use Rattle.std.specs.List.{prefix_len}
use Rattle.album_explain.specs.Bytes.{is_in_word}
use Rattle.album_explain.proofs.places.bytes.word_end.Given as goal

abbrev pub invariant-loop-end : goal.invariant-loop-end
invariant-loop-end l =
    l.from + prefix_len is_in_word (drop l.from l.bytes) ≡ l.end + prefix_len is_in_word (drop l.end l.bytes)

abbrev pub decreases-loop-end : goal.decreases-loop-end
decreases-loop-end l = length l.bytes - l.end
