-- The owner of a partition's history, as its callers see it.
use Rattle.std.specs.Prelude.{ℕ, ◌+◌, ◌<◌, ◌≤◌, None}
use Rattle.atomic_table.specs.Seated.{TableId}
use Rattle.album_passes.specs.Cuts.{Cut}
use Rattle.album_passes.specs.Knowledge.{known}
use Rattle.album_passes.specs.Holding.{Held}
use Rattle.album_passes.specs.Pass.{PassState}

-- The table of its desk; its partition; its cut, which has all of that partition's history; and how many numbers at
-- least were drawn at the desk.
pub record OwnerState : Type 0 where
  pub table : TableId
  pub part : ℕ
  pub cut : Cut
  pub drawn : ℕ

-- the owner of the partition, with that seat
abbrev pub owner_of : Held → ℕ → OwnerState
owner_of held part = record {
  table = held.table;
  part = part;
  cut = known held.seat;
  drawn = held.seat.drawn;
}

-- a pass with the owner's cut
abbrev pub pass_of_owner : OwnerState → PassState
pass_of_owner owner = record { table = owner.table; cut = owner.cut; number = None; drawn = owner.drawn }

-- the seat owns the partition, which the table has
pub record IsOwner (held : Held) (part : ℕ) : Type 0 where
  pub low : held.seat.low ≤ part
  pub high : part < held.seat.high
  pub inside : part < (known held.seat).parts
  pub word : part + 1 < held.table.words
