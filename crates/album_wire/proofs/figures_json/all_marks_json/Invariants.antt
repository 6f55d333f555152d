use Rattle.std.proofs.Common.{◌≡◌, ◌++◌, drop, map, IfOk}
use Rattle.serde_json.specs.View.{view}
use Rattle.album_wire.specs.FiguresJson.{marks_json}
use Rattle.album_wire.proofs.figures_json.all_marks_json.Given as goal

abbrev pub invariant-loop-part : goal.invariant-loop-part
invariant-loop-part l = IfOk l.values (λ values.
    map view values.items ++ map marks_json (drop l.part-index l.parts) ≡ map marks_json l.parts)
