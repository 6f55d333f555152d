use Rattle.std.proofs.Common.{◌≡◌, ◌++◌, drop, map, IfOk}
use Rattle.serde_json.specs.View.{view}
use Rattle.album_lines.specs.Spelling.{whole_data}
use Rattle.album_explain.proofs.explanations.numbers_json.Given as goal

abbrev pub invariant-loop-number : goal.invariant-loop-number
invariant-loop-number l = IfOk l.values (λ values.
    map view values.items ++ map whole_data (drop l.number-index l.numbers) ≡ map whole_data l.numbers)
