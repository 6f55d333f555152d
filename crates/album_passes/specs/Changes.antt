-- How cuts begin, grow and are put together.
use Rattle.std.specs.Prelude.{◌≡◌, ℕ, Bool, nat_lt, List, [], ◌∷◌, ◌++◌, map, length, slice_set, replicate, Option, Some, None, if◌then◌else◌}
use Rattle.album_items.specs.Openings.{Row}
use Rattle.album_stamps.specs.Stamps.{client_number}
use Rattle.album_partition.specs.declared.marks.Mark.{Mark}
use Rattle.album_passes.specs.Cuts.{Cut, Announced, prefix_at, announced_for}

-- of no marks, and with nothing announced
abbrev pub empty_cut : List Row → ℕ → Bool → Cut
empty_cut opening parts checked = record {
  opening = opening;
  parts = parts;
  checked = checked;
  prefixes = replicate parts [];
  announced = [];
  depended = [];
}

-- with one mark more at a partition
abbrev pub marked_cut : Cut → ℕ → Mark → Cut
marked_cut cut part mark =
    record cut { prefixes = slice_set cut.prefixes part (prefix_at cut part ++ mark ∷ []) }

-- how many marks it has of each partition
abbrev pub lengths_in : Cut → List ℕ
lengths_in cut = map length cut.prefixes

-- with this announced for the stamp, whose author has seen exactly this cut
abbrev pub announced_cut : Cut → ℕ → Announced → Cut
announced_cut cut stamp announced = record cut {
  announced = (stamp, announced) ∷ cut.announced;
  depended = (stamp, lengths_in cut) ∷ cut.depended;
}

-- the second list of marks where it is longer, and else the first
abbrev pub longer : List Mark → List Mark → List Mark
longer first second = if nat_lt (length first) (length second) then second else first

-- the longer one at each partition
abbrev pub longer_each : List (List Mark) → List (List Mark) → List (List Mark)
longer_each [] seconds = seconds
longer_each (first ∷ firsts) [] = first ∷ firsts
longer_each (first ∷ firsts) (second ∷ seconds) = longer first second ∷ longer_each firsts seconds

-- the longer prefixes of two cuts, what either announces, and what that depends on
abbrev pub merged : Cut → Cut → Cut
merged first second = record first {
  prefixes = longer_each first.prefixes second.prefixes;
  announced = first.announced ++ second.announced;
  depended = first.depended ++ second.depended;
}

-- nothing is announced of a client's stamps
abbrev pub IsUnheard : ℕ → Cut → Type 0
IsUnheard client cut = (stamp : ℕ) → client_number stamp ≡ client → announced_for cut stamp ≡ None

-- where there is a client of this number, what is announced of its stamps is exactly what was announced before
abbrev pub KeepsOwn : Option ℕ → Cut → Cut → Type 0
KeepsOwn number old new = (client stamp : ℕ) → number ≡ Some client → client_number stamp ≡ client
    → announced_for new stamp ≡ announced_for old stamp
