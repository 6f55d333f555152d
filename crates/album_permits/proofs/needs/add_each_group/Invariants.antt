use Rattle.std.proofs.Common.{◌≡◌, ◌++◌, take, map}
use Rattle.album_listing.specs.Masks.{WRITE_DATA}
use Rattle.album_permits.specs.Needs.{just}
use Rattle.album_permits.proofs.needs.add_each_group.Given as goal

abbrev pub invariant-loop-new : goal.invariant-loop-new
invariant-loop-new l =
    l.needs.items ≡ l.initial.needs.items ++ map (λ new. just new.object WRITE_DATA) (take l.new-index l.members)
