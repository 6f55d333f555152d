use Rattle.std.proofs.Common.{◌++◌, List, length, map}
use Rattle.json.specs.Token.{Token}
use Rattle.album_lines.specs.Shapes.{SpelledEntry, spelled_entry, entry_shape_of}
use Rattle.album_lines.specs.Tokens.{TakesAll}
use Rattle.album_lines.proofs.judge_tokens.take_each_entry.Given as goal

abbrev pub invariant-loop-shapes : goal.invariant-loop-shapes
invariant-loop-shapes l =
    (xs : List SpelledEntry) (rest : List Token) → TakesAll 1 entry_shape_of l.tokens xs rest
    → TakesAll 1 entry_shape_of l.initial.tokens (map spelled_entry l.shapes.items ++ xs) rest

abbrev pub decreases-loop-shapes : goal.decreases-loop-shapes
decreases-loop-shapes l = length l.tokens
