-- The connections that haven't said who they are: each by its number, with the moment in which it came.
use Rattle.std.specs.Prelude.{◌≡◌, ◌≢◌, ◌≤◌, ℕ, None, IsSome}
use Rattle.std.specs.Ordering.{nat_cmp}
use Rattle.std.specs.BTreeMap.{BTreeMap, get}
use Rattle.std.specs.declared.time.Instant.{Instant}

-- one of them, and no other has a lesser number
abbrev pub IsOldest : BTreeMap ℕ Instant → ℕ → Type 0
IsOldest since number = IsSome (get nat_cmp since number)
    × ((other : ℕ) → IsSome (get nat_cmp since other) → number ≤ other)

-- those of before, but for this one
abbrev pub IsSameWithout : ℕ → BTreeMap ℕ Instant → BTreeMap ℕ Instant → Type 0
IsSameWithout number before after = (get nat_cmp after number ≡ None)
    × ((other : ℕ) → other ≢ number → get nat_cmp after other ≡ get nat_cmp before other)
