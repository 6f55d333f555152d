-- What a desk is opened with, and what a seat at it knows.
use Rattle.std.specs.Prelude.{◌≡◌, ◌≢◌, ℕ, Bool, false, List, [], ◌∷◌, Option, Some, None}
use Rattle.album_items.specs.Openings.{Row}
use Rattle.album_passes.specs.Cuts.{Cut}
use Rattle.album_passes.specs.Changes.{empty_cut}

-- The first values of items, how many partitions there are, how many marks each history may have, how many numbers are
-- given out, and whether the store is checked.
pub record Terms : Type 0 where
  pub opening : List Row
  pub parts : ℕ
  pub limit : ℕ
  pub sessions : ℕ
  pub checked : Bool
  pub first : ℕ

-- The cut, or two that are to be put together, or none where the seat was given up; the number that the seat holds;
-- the number of a guest, whose seat it took in and will give back; the partitions that it owns, from `low` on and
-- below `high`; and that so many numbers at least were drawn.
pub record Knowledge : Type 0 where
  pub cuts : List Cut
  pub number : Option ℕ
  pub guest : Option ℕ
  pub low : ℕ
  pub high : ℕ
  pub drawn : ℕ

-- the first of the cuts
abbrev pub first_of : List Cut → Cut
first_of [] = empty_cut [] 0 false
first_of (cut ∷ cuts) = cut

-- the last of them
abbrev pub last_of : List Cut → Cut
last_of [] = empty_cut [] 0 false
last_of (cut ∷ []) = cut
last_of (cut ∷ next ∷ cuts) = last_of (next ∷ cuts)

-- the cut that the seat knows
abbrev pub known : Knowledge → Cut
known seat = first_of seat.cuts

-- it, or the one that is to be put together with it
abbrev pub last_known : Knowledge → Cut
last_known seat = last_of seat.cuts

-- two numbers, where both are there, differ
abbrev pub AreApart : Option ℕ → Option ℕ → Type 0
AreApart one other = (first second : ℕ) → one ≡ Some first → other ≡ Some second → first ≢ second

-- the first seat, where the owners of so many partitions have theirs
abbrev pub dealt : Terms → ℕ → Knowledge
dealt terms count = record {
  cuts = empty_cut terms.opening terms.parts terms.checked ∷ [];
  number = None;
  guest = None;
  low = count;
  high = terms.parts;
  drawn = 0;
}

-- the first seat, as the desk opens
abbrev pub first_seat : Terms → Knowledge
first_seat terms = dealt terms 0

-- a seat that was given up
abbrev pub spent_seat : Knowledge
spent_seat = record { cuts = []; number = None; guest = None; low = 0; high = 0; drawn = 0 }
