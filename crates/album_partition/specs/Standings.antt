-- The state of each stamp that occurs in a mark, and which stamps are pending.
use Rattle.std.specs.Prelude.{◌≡◌, ◌↔◌, ℕ, Bool, true, false, cond, List, Option, Some, None, Contains}
use Rattle.std.specs.BTreeMap.{is_at}
use Rattle.std.specs.BTreeSet.{BTreeSet, contains}
use Rattle.std.specs.List.Sorted.{IsStrictlySortedBy}
use Rattle.std.specs.Map.{lookup}
use Rattle.std.specs.Ordering.{nat_cmp}
use Rattle.album_partition.specs.declared.standings.Standing.{Standing}
use Rattle.album_partition.specs.declared.standings.Standing.TheVariants.{Pending, Committed, Discarded}

-- a stamp's state, by what is kept of each
abbrev pub standing_in : List (ℕ × Standing) → ℕ → Option Standing
standing_in standings stamp = lookup (is_at (nat_cmp stamp)) standings

-- the stamp has this state from then on, and each other stamp is as before
abbrev pub IsSetTo : ℕ → Standing → List (ℕ × Standing) → List (ℕ × Standing) → Type 0
IsSetTo stamp standing old new =
    (other : ℕ) → standing_in new other ≡ cond (is_at (nat_cmp stamp) other) (Some standing) (standing_in old other)

-- the state is pending
abbrev pub stands_pending : Option Standing → Bool
stands_pending None = false
stands_pending (Some (Pending index)) = true
stands_pending (Some (Committed index)) = false
stands_pending (Some Discarded) = false

-- exactly the pending stamps are in the set
abbrev pub AreInSet : List (ℕ × Standing) → BTreeSet ℕ → Type 0
AreInSet standings set = (stamp : ℕ) → contains nat_cmp set stamp ≡ stands_pending (standing_in standings stamp)

-- these are the pending stamps, rising
pub record ArePendingIn (standings : List (ℕ × Standing)) (stamps : List ℕ) : Type 0 where
  pub pending : (stamp : ℕ) → Contains stamps stamp ↔ (stands_pending (standing_in standings stamp) ≡ true)
  pub rising : IsStrictlySortedBy nat_cmp stamps
