-- How each kind of step changes what a seat knows.
use Rattle.std.specs.Prelude.{◌≡◌, ℕ, ◌+◌, ◌-◌, ◌≤◌, ◌<◌, ◌==◌, max, [], ◌∷◌, ◌++◌, Some, None, MatchBool}
use Rattle.atomic_table.specs.Table.{Me, Step}
use Rattle.album_partition.specs.declared.marks.Mark.{Mark}
use Rattle.album_passes.specs.Cuts.{Cut, Announced, Extends, prefix_at}
use Rattle.album_passes.specs.Changes.{merged, marked_cut, announced_cut, IsUnheard, KeepsOwn}
use Rattle.album_passes.specs.Knowledge.{Knowledge, known, last_known, AreApart}

-- ---- a seat is split

-- the new seat knows the cut, and holds and owns nothing
abbrev pub cut_alone : Knowledge → Knowledge
cut_alone seat = record seat { number = None; guest = None; low = 0; high = 0 }

-- the first of its partitions is given away
abbrev pub less_first : Knowledge → Knowledge
less_first seat = record seat { low = seat.low + 1 }

-- the seat to which it is given
abbrev pub first_alone : Knowledge → Knowledge
first_alone seat = record seat { number = None; guest = None; high = seat.low + 1 }

-- the guest is given back
abbrev pub less_guest : Knowledge → Knowledge
less_guest seat = record seat { guest = None }

-- the guest's seat
abbrev pub guest_alone : Knowledge → Knowledge
guest_alone seat = record seat { number = seat.guest; guest = None; low = 0; high = 0 }

-- ---- two seats become one

-- the kept seat has the cuts of both, and the other's number as its guest's
abbrev pub beside : Knowledge → Knowledge → Knowledge
beside seat other = record seat {
  cuts = seat.cuts ++ other.cuts;
  guest = other.number;
  drawn = max seat.drawn other.drawn;
}

-- ---- one seat's step on a word

-- the seat with this one cut
abbrev pub with_cut : Knowledge → Cut → Knowledge
with_cut seat cut = record seat { cuts = cut ∷ [] }

-- two seats with one cut each, once the first has taken in the other and the cuts are merged
abbrev pub merged_seat : Knowledge → Knowledge → Knowledge
merged_seat seat other = with_cut (beside seat other) (merged (known seat) (known other))

-- it holds the number that it drew, which is how many were drawn
abbrev pub with_number : Knowledge → ℕ → Knowledge
with_number seat client = record seat { number = Some client; drawn = client }

-- it has seen how many were drawn
abbrev pub with_drawn : Knowledge → ℕ → Knowledge
with_drawn seat drawn = record seat { drawn = drawn }

-- of the partitions that the seat owns, the new cut has what the old one had
abbrev pub KeepsOwned : Knowledge → Cut → Cut → Type 0
KeepsOwned seat old new = (part : ℕ) → seat.low ≤ part → part < seat.high → prefix_at new part ≡ prefix_at old part

-- What a seat with two cuts comes to know as they are merged. The merged cut extends both. It has nothing new of the
-- partitions that the seat owns, nor of the stamps of its client and of its guest, and these two differ.
pub record IsMerged (seat : Knowledge) (one other cut : Cut) : Type 0 where
  pub one_on : Extends one cut
  pub other_on : Extends other cut
  pub owned : KeepsOwned seat one cut
  pub own : KeepsOwn seat.number one cut
  pub guests : KeepsOwn seat.guest other cut
  pub apart : AreApart seat.number seat.guest

-- two cuts become one
abbrev pub Merges : {S : Type 0} → Step S → Me S Knowledge → ℕ → Me S Knowledge → Type 0
Merges step old found new =
    let cut = merged (known old.0) (last_known old.0) in
    (new ≡ (with_cut old.0 cut, old.1)) × IsMerged old.0 (known old.0) (last_known old.0) cut

-- the history of the word's partition has one mark more
abbrev pub Appends : {S : Type 0} → Mark → Step S → Me S Knowledge → ℕ → Me S Knowledge → Type 0
Appends mark step old found new =
    new ≡ (with_cut old.0 (marked_cut (known old.0) (step.word - 1) mark), old.1)

-- this is announced for the stamp
abbrev pub Announces : {S : Type 0} → ℕ → Announced → Step S → Me S Knowledge → ℕ → Me S Knowledge → Type 0
Announces stamp announced step old found new =
    new ≡ (with_cut old.0 (announced_cut (known old.0) stamp announced), old.1)

-- a number is drawn, where the word was as the seat guessed, and nothing is announced of it
abbrev pub Draws : {S : Type 0} → Step S → Me S Knowledge → ℕ → Me S Knowledge → Type 0
Draws step old found new =
    (old.0.drawn ≤ found)
    × MatchBool (found == step.first)
    ((new ≡ (with_number old.0 step.second, old.1)) × IsUnheard step.second (known old.0))
    (new ≡ (with_drawn old.0 found, old.1))
