use Rattle.std.proofs.Common.{◌≡◌, ◌++◌, drop}
use Rattle.std.specs.Prelude.{filter}
use Rattle.album_listing.specs.GroupsFound.{may_bring_in}
use Rattle.album_listing.proofs.groups.copies.Given as goal

abbrev pub invariant-loop-member : goal.invariant-loop-member
invariant-loop-member l =
    l.copies.items ++ filter (may_bring_in l.principal) (drop l.member-index l.members) ≡ filter (may_bring_in l.principal) l.members
