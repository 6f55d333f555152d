use Rattle.std.proofs.Common.{◌≡◌}
use Rattle.album_items.proofs.collections.share_each.Given as goal

abbrev pub invariant-loop-index : goal.invariant-loop-index
invariant-loop-index l = l.rows ≡ l.initial.rows
