use Rattle.std.proofs.Common.{◌≡◌, drop, map}
use Rattle.album_wire.specs.AskShape.{spelled_new_membership}
use Rattle.album_wire.specs.Asks.{new_membership_read}
use Rattle.album_lines.specs.Values.{each_of}
use Rattle.album_lines.proofs.Lists.{with_front}
use Rattle.album_wire.proofs.asks.each_new_membership.Given as goal

abbrev pub invariant-loop-shape : goal.invariant-loop-shape
invariant-loop-shape l =
    with_front l.members.items (each_of new_membership_read (map spelled_new_membership (drop l.shape-index l.shapes)))
    ≡ each_of new_membership_read (map spelled_new_membership l.shapes)
