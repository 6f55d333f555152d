use Rattle.std.proofs.Common.{◌≡◌, take}
use Rattle.std.specs.List.{flat_map}
use Rattle.album_views.specs.Seen.{seen}
use Rattle.album_permits.specs.Effects.{list_written}
use Rattle.album_permits.proofs.effects.lists_written.Given as goal

abbrev pub invariant-loop-new : goal.invariant-loop-new
invariant-loop-new l = l.writes.items ≡ flat_map (list_written (seen l.lookup.view.now.rows)) (take l.new-index l.lists)
