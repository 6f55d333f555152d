use Rattle.std.proofs.Common.{◌≡◌, take}
use Rattle.std.specs.List.{flat_map}
use Rattle.album_listing.specs.RulingContexts.{basis_of}
use Rattle.album_permits.specs.Notes.{notes_for}
use Rattle.album_permits.proofs.notes.notes_of.Given as goal

abbrev pub invariant-loop-reason : goal.invariant-loop-reason
invariant-loop-reason l =
    l.notes.items ≡ flat_map (notes_for (basis_of l.context)) (take l.reason-index l.reason-items)
