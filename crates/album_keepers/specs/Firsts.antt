-- The partitions of a service and the owners of their histories, as they open.
use Rattle.std.specs.Prelude.{◌≡◌, ℕ, ◌<◌, List, length, slice_index_or}
use Rattle.album_partition.specs.Partition.{PartitionState, first_partition}
use Rattle.album_passes.specs.Desk.{DeskState, first_owner}
use Rattle.album_passes.specs.Knowledge.{Terms}
use Rattle.album_passes.specs.Owner.{OwnerState}

-- the first partitions as they open, so many of them, in order
pub record AreFirst (terms : Terms) (count : ℕ) (partitions : List PartitionState) : Type 0 where
  pub count_is : length partitions ≡ count
  pub each : (part : ℕ) (other : PartitionState) → part < count
      → slice_index_or partitions part other ≡ first_partition terms.checked terms.parts terms.limit terms.opening part

-- the owners of the first partitions, so many of them, in order
pub record AreFirstOwners (desk : DeskState) (count : ℕ) (owners : List OwnerState) : Type 0 where
  pub count_is : length owners ≡ count
  pub each : (part : ℕ) (other : OwnerState) → part < count
      → slice_index_or owners part other ≡ first_owner desk part
