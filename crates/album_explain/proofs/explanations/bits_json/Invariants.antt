use Rattle.std.proofs.Common.{◌≡◌, ◌++◌, drop, map, IfOk}
use Rattle.serde_json.specs.View.{view}
use Rattle.album_explain.specs.Explanations.{bit_json, bit_row}
use Rattle.album_explain.proofs.explanations.bits_json.Given as goal

abbrev pub invariant-loop-row : goal.invariant-loop-row
invariant-loop-row l = IfOk l.values (λ values.
    map view values.items ++ map bit_json (map bit_row (drop l.row-index l.rows)) ≡ map bit_json (map bit_row l.rows))
