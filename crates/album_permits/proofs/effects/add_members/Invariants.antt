use Rattle.std.proofs.Common.{◌≡◌, ◌++◌, take, map}
use Rattle.album_views.specs.Seen.{seen}
use Rattle.album_permits.specs.Effects.{members_written}
use Rattle.album_permits.proofs.effects.add_members.Given as goal

abbrev pub invariant-loop-new : goal.invariant-loop-new
invariant-loop-new l =
    l.writes.items
    ≡ l.initial.writes.items ++ map (members_written (seen l.lookup.view.now.rows)) (take l.new-index l.members)
