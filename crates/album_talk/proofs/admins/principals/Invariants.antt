use Rattle.std.proofs.Common.{◌≡◌, ◌++◌, drop, map, Some}
use Rattle.album_eval.specs.Matching.{principal_of}
use Rattle.album_talk.proofs.admins.principals.Given as goal

abbrev pub invariant-loop-word : goal.invariant-loop-word
invariant-loop-word l =
    map Some l.named.items ++ map (λ word. principal_of word.now) (drop l.word-index l.words)
    ≡ map (λ word. principal_of word.now) l.words
