use Rattle.std.proofs.Common.{◌++◌, List, ℕ, length, map}
use Rattle.json.specs.Token.{Token}
use Rattle.album_lines.specs.Fields.{text_of}
use Rattle.album_lines.specs.Tokens.{TakesAll}
use Rattle.album_lines.proofs.judge_tokens.take_each_text.Given as goal

abbrev pub invariant-loop-texts : goal.invariant-loop-texts
invariant-loop-texts l =
    (xs : List (List ℕ)) (rest : List Token) → TakesAll 0 text_of l.tokens xs rest
    → TakesAll 0 text_of l.initial.tokens (map (λ t. t.now) l.texts.items ++ xs) rest

abbrev pub decreases-loop-texts : goal.decreases-loop-texts
decreases-loop-texts l = length l.tokens
