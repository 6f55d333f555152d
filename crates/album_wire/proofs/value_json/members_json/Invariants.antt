use Rattle.std.proofs.Common.{◌≡◌, ◌++◌, drop, map, IfOk}
use Rattle.serde_json.specs.View.{view}
use Rattle.album_wire.specs.ValueJson.{member_json}
use Rattle.album_wire.proofs.value_json.members_json.Given as goal

abbrev pub invariant-loop-member : goal.invariant-loop-member
invariant-loop-member l = IfOk l.values (λ values.
    map view values.items ++ map member_json (drop l.member-index l.members) ≡ map member_json l.members)
