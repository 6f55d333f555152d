use Rattle.std.proofs.Common.{◌≡◌, ◌++◌, drop, map, IfOk}
use Rattle.serde_json.specs.View.{view}
use Rattle.album_lines.specs.Spelling.{whole_data}
use Rattle.album_wire.proofs.message_json.stamps_json.Given as goal

abbrev pub invariant-loop-stamp : goal.invariant-loop-stamp
invariant-loop-stamp l = IfOk l.values (λ values.
    map view values.items ++ map whole_data (drop l.stamp-index l.stamps) ≡ map whole_data l.stamps)
