use Rattle.std.proofs.Common.{◌≡◌, ◌++◌, drop}
use Rattle.album_reader.specs.Answers.{answers_there}
use Rattle.album_reader.proofs.answers.copies_there.Given as goal

abbrev pub invariant-loop-answer : goal.invariant-loop-answer
invariant-loop-answer l = l.there.items ++ answers_there (drop l.answer-index l.answers) ≡ answers_there l.answers
