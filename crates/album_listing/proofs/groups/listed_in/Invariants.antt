use Rattle.std.proofs.Common.{take}
use Rattle.album_eval.specs.Groups.{listed_in}
use Rattle.album_views.specs.Seen.{seen}
use Rattle.album_listing.proofs.Gathering.{IsGathered}
use Rattle.album_listing.proofs.groups.listed_in.Given as goal

abbrev pub invariant-loop-item : goal.invariant-loop-item
invariant-loop-item l = IsGathered l.principal (seen l.view.rows) (take l.item-index l.item-items) (listed_in l.groups)
