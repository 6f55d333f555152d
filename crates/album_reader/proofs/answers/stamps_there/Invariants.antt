use Rattle.std.proofs.Common.{◌≡◌, ◌<◌, drop}
use Rattle.std.specs.Prelude.{AllPairs}
use Rattle.album_reader.specs.Answers.{answers_there}
use Rattle.album_reader.specs.StampSets.{with_stamps, stamps_of}
use Rattle.album_reader.proofs.answers.stamps_there.Given as goal

-- the stamps so far rise, and those of the other answers make them all
abbrev pub invariant-loop-answer : goal.invariant-loop-answer
invariant-loop-answer l = record {
  rising : AllPairs (λ s t. s < t) l.stamps.items;
  rest :
      with_stamps l.stamps.items (answers_there (drop l.answer-index l.answers))
      ≡ stamps_of (answers_there l.answers);
}
