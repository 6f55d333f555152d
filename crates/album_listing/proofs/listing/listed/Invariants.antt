use Rattle.std.proofs.Common.{◌≡◌, take}
use Rattle.std.specs.List.{filter_map}
use Rattle.album_listing.specs.RulingContexts.{basis_of}
use Rattle.album_listing.specs.Listing.{row_for}
use Rattle.album_listing.proofs.listing.listed.Given as goal

abbrev pub invariant-loop-child : goal.invariant-loop-child
invariant-loop-child l =
    l.rows.items ≡ filter_map (row_for (basis_of l.context) l.album) (take l.child-index l.child-items)
