use Rattle.std.proofs.Common.{◌≡◌, ◌++◌, drop, map, IfOk}
use Rattle.serde_json.specs.View.{view}
use Rattle.album_wire.specs.ValueJson.{entry_json}
use Rattle.album_wire.proofs.value_json.entries_json.Given as goal

abbrev pub invariant-loop-entry : goal.invariant-loop-entry
invariant-loop-entry l = IfOk l.values (λ values.
    map view values.items ++ map entry_json (drop l.entry-index l.entries) ≡ map entry_json l.entries)
