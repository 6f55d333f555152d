use Rattle.std.proofs.Common.{◌≡◌, take, map}
use Rattle.album_listing.specs.Masks.{WRITE_ACL}
use Rattle.album_permits.specs.Needs.{just}
use Rattle.album_permits.proofs.needs.each_list.Given as goal

abbrev pub invariant-loop-new : goal.invariant-loop-new
invariant-loop-new l = l.needs.items ≡ map (λ new. just new.object WRITE_ACL) (take l.new-index l.lists)
