use Rattle.std.proofs.Common.{◌≡◌, ◌++◌, drop}
use Rattle.album_listing.specs.RulingContexts.{basis_of}
use Rattle.album_permits.specs.Findings.{needs_found}
use Rattle.album_permits.specs.Notes.{needs_noted}
use Rattle.album_permits.proofs.findings.find_all.Given as goal

abbrev pub invariant-loop-need : goal.invariant-loop-need
invariant-loop-need l =
    (needs_found (basis_of l.context) l.needs ≡ needs_found (basis_of l.context) (drop l.need-index l.needs))
    × (needs_noted (basis_of l.context) l.needs
    ≡ l.notes.items ++ needs_noted (basis_of l.context) (drop l.need-index l.needs))
