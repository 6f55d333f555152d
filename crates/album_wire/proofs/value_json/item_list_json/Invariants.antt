use Rattle.std.proofs.Common.{◌≡◌, ◌++◌, drop, map, IfOk}
use Rattle.serde_json.specs.View.{view}
use Rattle.album_wire.specs.ValueJson.{item_json}
use Rattle.album_wire.proofs.value_json.item_list_json.Given as goal

abbrev pub invariant-loop-item : goal.invariant-loop-item
invariant-loop-item l = IfOk l.values (λ values.
    map view values.items ++ map item_json (drop l.item-index l.items) ≡ map item_json l.items)
