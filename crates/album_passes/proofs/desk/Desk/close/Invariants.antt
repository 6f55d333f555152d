use Rattle.std.proofs.Common.{◌≡◌, take, drop, length, vec_capacity}
use Rattle.album_passes.proofs.desk.Desk.close.Given as goal

abbrev pub invariant-loop-part : goal.invariant-loop-part
invariant-loop-part l = record {
  count : length l.words.items ≡ l.part;
  room : vec_capacity l.words ≡ l.parts;
  read : l.words.items ≡ take l.part (drop 1 l.closed.words.items);
}
