use Rattle.std.proofs.Common.{◌≡◌, ◌++◌, drop, map, IfOk}
use Rattle.serde_json.specs.View.{view}
use Rattle.album_wire.specs.OutJson.{reason_json}
use Rattle.album_wire.proofs.out_json.reasons_json.Given as goal

abbrev pub invariant-loop-reason : goal.invariant-loop-reason
invariant-loop-reason l = IfOk l.values (λ values.
    map view values.items ++ map reason_json (drop l.reason-index l.reasons) ≡ map reason_json l.reasons)
