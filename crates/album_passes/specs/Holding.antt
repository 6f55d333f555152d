-- A seat of a desk's table, and what is true of it between two calls.
use Rattle.std.specs.Prelude.{◌≡◌, ℕ, ◌<◌, ◌≤◌, List, [], ◌∷◌, length, slice_index, None}
use Rattle.album_stamps.specs.declared.limits.TheConstants.{MAX_PARTS}
use Rattle.atomic_table.specs.Seated.{TableId}
use Rattle.album_passes.specs.Cuts.{Cut, prefix_at, IsSound}
use Rattle.album_passes.specs.Knowledge.{Knowledge, known}

-- the table that the seat is at, and what the seat knows
pub record Held : Type 0 where
  pub table : TableId
  pub seat : Knowledge

-- the numbers are the lengths of the cut's prefixes
abbrev pub AreLengths : List ℕ → Cut → Type 0
AreLengths lengths cut = (part : ℕ) → part < MAX_PARTS → slice_index lengths part ≡ length (prefix_at cut part)

-- the seat knows one cut, a sound one, has no guest, and the numbers are the cut's lengths
pub record IsHeld (seat : Knowledge) (lengths : List ℕ) : Type 0 where
  pub one : seat.cuts ≡ known seat ∷ []
  pub alone : seat.guest ≡ None
  pub sound : IsSound (known seat)
  pub few : (known seat).parts ≤ MAX_PARTS
  pub lengths_are : AreLengths lengths (known seat)
