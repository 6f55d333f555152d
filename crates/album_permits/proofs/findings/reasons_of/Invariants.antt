use Rattle.std.proofs.Common.{◌≡◌, take}
use Rattle.album_listing.specs.RulingContexts.{basis_of}
use Rattle.album_permits.specs.Findings.{reasons_of}
use Rattle.album_permits.proofs.findings.reasons_of.Given as goal

abbrev pub invariant-loop-alternative : goal.invariant-loop-alternative
invariant-loop-alternative l =
    l.reasons.items ≡ reasons_of (basis_of l.context) (take l.alternative-index l.need)
