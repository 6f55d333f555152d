use Rattle.std.proofs.Common.{◌++◌, List, length, map}
use Rattle.json.specs.Token.{Token}
use Rattle.album_lines.specs.JudgeShape.{SpelledGroup, spelled_group, group_shape_of}
use Rattle.album_lines.specs.Tokens.{TakesAll}
use Rattle.album_lines.proofs.judge_tokens.take_each_group.Given as goal

abbrev pub invariant-loop-groups : goal.invariant-loop-groups
invariant-loop-groups l =
    (xs : List SpelledGroup) (rest : List Token) → TakesAll 2 group_shape_of l.tokens xs rest
    → TakesAll 2 group_shape_of l.initial.tokens (map spelled_group l.groups.items ++ xs) rest

abbrev pub decreases-loop-groups : goal.decreases-loop-groups
decreases-loop-groups l = length l.tokens
