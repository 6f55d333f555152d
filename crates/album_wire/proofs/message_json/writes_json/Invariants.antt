use Rattle.std.proofs.Common.{◌≡◌, ◌++◌, drop, map, IfOk}
use Rattle.serde_json.specs.View.{view}
use Rattle.album_wire.specs.MessageJson.{write_json}
use Rattle.album_wire.proofs.message_json.writes_json.Given as goal

abbrev pub invariant-loop-write : goal.invariant-loop-write
invariant-loop-write l = IfOk l.values (λ values.
    map view values.items ++ map write_json (drop l.write-index l.writes) ≡ map write_json l.writes)
