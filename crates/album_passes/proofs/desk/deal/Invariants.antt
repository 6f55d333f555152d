use Rattle.std.proofs.Common.{◌≡◌, ℕ, ◌<◌, length, slice_index_or}
use Rattle.album_passes.specs.Desk.{first_owner}
use Rattle.album_passes.specs.Knowledge.{dealt}
use Rattle.album_passes.specs.Owner.{OwnerState}
use Rattle.album_passes.proofs.desk.deal.Given as goal

abbrev pub invariant-loop-part : goal.invariant-loop-part
invariant-loop-part l = record {
  table : l.holding.table ≡ l.desk.table;
  seat : l.holding.seat ≡ dealt l.desk.terms l.part;
  count : length l.owners.items ≡ l.part;
  each : (k : ℕ) (other : OwnerState) → k < l.part → slice_index_or l.owners.items k other ≡ first_owner l.desk k;
}
