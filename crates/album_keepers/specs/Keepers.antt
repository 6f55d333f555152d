-- A partition with the owner of its history.
use Rattle.std.specs.Prelude.{◌≡◌, ℕ, true, List, ◌++◌, All, Option, Some, option_to_list}
use Rattle.std.specs.List.{list_any}
use Rattle.atomic_table.specs.Seated.{TableId}
use Rattle.album_partition.specs.Bases.{extends}
use Rattle.album_partition.specs.Marks.{prepares}
use Rattle.album_partition.specs.Partition.{PartitionState}
use Rattle.album_partition.specs.Votes.{NotedVote}
use Rattle.album_partition.specs.declared.marks.Mark.{Mark}
use Rattle.album_passes.specs.Cuts.{Cut, prefix_at, IsBacked}
use Rattle.album_passes.specs.Changes.{marked_cut}
use Rattle.album_passes.specs.Owner.{OwnerState}
use Rattle.album_keepers.specs.Envelopes.{IsShown}

-- the partition, and the owner of its history
pub record KeeperState : Type 0 where
  pub partition : PartitionState
  pub owner : OwnerState

-- the cut shows each vote that was noted: its partition has prepared the stamp
abbrev pub AreShown : Cut → List NotedVote → Type 0
AreShown cut votes = All (λ vote. list_any (prepares vote.stamp) (prefix_at cut vote.part) ≡ true) votes

-- The owner is of this table and of the partition's own history. Its cut shows the partition as it is, and the votes
-- that the partition has noted.
pub record IsKeeper (table : TableId) (limit : ℕ) (keeper : KeeperState) : Type 0 where
  pub of : keeper.owner.table ≡ table
  pub own : keeper.owner.part ≡ keeper.partition.number
  pub shown : IsShown limit keeper.owner.cut keeper.partition
  pub voted : AreShown keeper.owner.cut keeper.partition.votes
  pub checked : keeper.partition.checked ≡ keeper.owner.cut.checked

-- The marks are those of the cut's prefix, with at most one mark more, which is backed once the cut has it too, and in
-- a checked store was made on the latest versions.
pub record IsNext (cut : Cut) (part : ℕ) (marks : List Mark) : Type 0 where
  pub mark : Option Mark
  pub added : marks ≡ prefix_at cut part ++ option_to_list mark
  pub backed : (made : Mark) → mark ≡ Some made → IsBacked (marked_cut cut part made) made
  pub chained : (made : Mark) → mark ≡ Some made → cut.checked ≡ true → extends (prefix_at cut part) made ≡ true
