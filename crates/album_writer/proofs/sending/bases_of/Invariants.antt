use Rattle.std.proofs.Common.{◌≡◌, map, take}
use Rattle.album_items.specs.Openings.{Row}
use Rattle.album_listing.specs.ViewLookups.{stamp_seen}
use Rattle.album_writer.proofs.sending.bases_of.Given as goal

abbrev pub invariant-loop-write : goal.invariant-loop-write
invariant-loop-write l =
    l.bases.items ≡ map (λ (row : Row). stamp_seen l.view.rows row.0) (take l.write-index l.writes)
