use Rattle.std.proofs.Common.{◌≡◌, ◌++◌, drop, map, IfOk}
use Rattle.serde_json.specs.View.{view}
use Rattle.album_lines.specs.Spelling.{whole_data}
use Rattle.album_partition.specs.declared.figures.Figures.{Figures}
use Rattle.album_wire.proofs.figures_json.pending_json.Given as goal

abbrev pub invariant-loop-part : goal.invariant-loop-part
invariant-loop-part l = IfOk l.values (λ values.
    map view values.items ++ map (λ (part : Figures). whole_data part.pending) (drop l.part-index l.parts) ≡ map (λ (part : Figures). whole_data part.pending) l.parts)
