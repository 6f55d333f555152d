-- What a change of the rows leaves to be seen of each item: for the methods of `Versions`.
use Rattle.std.proofs.Common.{◌≡◌, ℕ, ◌<◌, ◌≤◌, List, [], ◌∷◌, Bool, true, false, not, ◌==◌, ◌&&◌, nat_le, nat_lt, max, if◌then◌else◌, Option, Some, None, is_some, IsSome, refl, sym, ap, subst, filter, All, ◌⊎◌, inl, inr, ⊎_elim, arith}
use Rattle.std.specs.Option.{unwrap_or}
use Rattle.std.specs.Ordering.{nat_cmp}
use Rattle.std.specs.Map.{lookup}
use Rattle.std.specs.BTreeMap.{BTreeMap, is_at, get, insert_entry, Updates, WritesThrough}
use Rattle.std.proofs.lemmas.Bool.{eqb-true, cases_lt}
use Rattle.std.proofs.lemmas.Bool.Decides.{nat_tests}
use Rattle.album_items.specs.declared.values.Value.{Value}
use Rattle.album_versions.specs.declared.rows.Version.{Version}
use Rattle.album_versions.specs.Best.{best_of, unless_gone}
use Rattle.album_versions.specs.Rows.{RowState, empty_row, version_in}
use Rattle.album_versions.specs.Versions.{VersionsState, row_of, version_at, latest_of, floor_of, SameVersions, Adds, DropsOne, Commits, Trims}
use Rattle.album_versions.proofs.RowLemmas.{version_in-low, version_in-without, version_in-from}
use Rattle.album_versions.proofs.Greatest.{best_of-none}

-- the item's row is this one, and every other item has the row that it had
abbrev pub Puts : VersionsState → VersionsState → ℕ → RowState → Type 0
Puts old new item row = (i : ℕ) → row_of new i ≡ (if i == item then row else row_of old i)

at_item : (item i : ℕ) → is_at (nat_cmp item) i ≡ (i == item)
at_item item i = grind (arith, nat_tests)

unwrapped : (b : Bool) (row : RowState) (o : Option RowState) → unwrap_or (if b then Some row else o) empty_row ≡ (if b then row else unwrap_or o empty_row)
unwrapped true row o = refl
unwrapped false row o = refl

-- as an update of the map leaves it
pub puts_from_updates : (m n : BTreeMap ℕ RowState) (item : ℕ) (row : RowState) → Updates nat_cmp m n item (Some row) → Puts (record { rows = m.entries }) (record { rows = n.entries }) item row
puts_from_updates m n item row updates i =
    rw (updates.0 i, at_item item i) (unwrapped (i == item) row (lookup (is_at (nat_cmp i)) m.entries))

lookup-insert_entry : (entries : List (ℕ × RowState)) (item : ℕ) (row : RowState) (i : ℕ) → lookup (is_at (nat_cmp i)) (insert_entry nat_cmp entries item row) ≡ (if i == item then Some row else lookup (is_at (nat_cmp i)) entries)
lookup-insert_entry [] item row i = grind (arith, nat_tests)
lookup-insert_entry (e ∷ entries) item row i = grind (arith, nat_tests, lookup-insert_entry entries item row i)

-- as an insertion into its entries leaves it
pub puts_from_insert : (entries new : List (ℕ × RowState)) (item : ℕ) (row : RowState) → new ≡ insert_entry nat_cmp entries item row → Puts (record { rows = entries }) (record { rows = new }) item row
puts_from_insert entries new item row inserted i =
    rw (inserted, lookup-insert_entry entries item row i) (unwrapped (i == item) row (lookup (is_at (nat_cmp i)) entries))

-- what holds of the item, and of any other
by_item : (P : ℕ → Bool → Type 0) (item : ℕ) → P item true → ((i : ℕ) → P i false) → (i : ℕ) → P i (i == item)
by_item P item here others i = go (i == item) refl
  where
    go : (b : Bool) → (i == item) ≡ b → P i b
    go true e = subst (λ j. P j true) (sym (eqb-true i item e)) here
    go false e = others i

pub commits_from : (old new : VersionsState) (item stamp : ℕ) → Puts old new item (record (row_of old item) { latest = max (row_of old item).latest stamp }) → Commits old new item stamp
unfolding version_at latest_of floor_of
commits_from old new item stamp puts =
    let raised : RowState = record (row_of old item) { latest = max (row_of old item).latest stamp } in
    record {
      versions = λ i t. rw (puts i) (by_item (λ i b. version_in (if b then raised else row_of old i).versions t ≡ version_in (row_of old i).versions t) item refl (λ i. refl) i);
      latest = λ i. rw (puts i, latest_of) (by_item (λ i b. (if b then raised else row_of old i).latest ≡ (if b then max (row_of old i).latest stamp else (row_of old i).latest)) item refl (λ i. refl) i);
      floor = λ i. rw (puts i, floor_of) (by_item (λ i b. (if b then raised else row_of old i).floor ≡ (row_of old i).floor) item refl (λ i. refl) i);
    }

pub trims_from : (old new : VersionsState) (item : ℕ) → Puts old new item (record (row_of old item) { floor = (row_of old item).latest; versions = filter (λ v. nat_le (row_of old item).latest v.stamp) (row_of old item).versions }) → Trims old new item
unfolding version_at latest_of floor_of
trims_from old new item puts =
    let trimmed : RowState = record (row_of old item) { floor = (row_of old item).latest; versions = filter (λ v. nat_le (row_of old item).latest v.stamp) (row_of old item).versions } in
    record {
      versions = λ i t. rw (puts i) (by_item (λ i b. version_in (if b then trimmed else row_of old i).versions t ≡ (if b && nat_lt t (row_of old item).latest then None else version_in (row_of old i).versions t)) item (version_in-from (row_of old item).versions (row_of old item).latest t) (λ i. refl) i);
      latest = λ i. rw (puts i, latest_of) (by_item (λ i b. (if b then trimmed else row_of old i).latest ≡ (row_of old i).latest) item refl (λ i. refl) i);
      floor = λ i. rw (puts i, floor_of) (by_item (λ i b. (if b then trimmed else row_of old i).floor ≡ (if b then (row_of old i).latest else (row_of old i).floor)) item refl (λ i. refl) i);
    }

-- an item without a row has nothing to trim
pub trims_nothing : (kept : VersionsState) (item : ℕ) → row_of kept item ≡ empty_row → Trims kept kept item
unfolding version_at latest_of floor_of
trims_nothing kept item empty = record {
  versions = λ i t. by_item (λ i b. version_in (row_of kept i).versions t ≡ (if b && nat_lt t (row_of kept item).latest then None else version_in (row_of kept i).versions t)) item (rw empty (grind (arith, nat_tests))) (λ i. refl) i;
  latest = λ i. refl;
  floor = λ i. by_item (λ i b. (row_of kept i).floor ≡ (if b then (row_of kept i).latest else (row_of kept i).floor)) item (rw empty refl) (λ i. refl) i;
}

pub adds_from : (old new : VersionsState) (item stamp : ℕ) (value : Value) (row : RowState) → Puts old new item row → ((t : ℕ) → version_in row.versions t ≡ (if t == stamp && nat_le (row_of old item).floor t then Some value else version_in (row_of old item).versions t)) → row.latest ≡ (row_of old item).latest → row.floor ≡ (row_of old item).floor → Adds old new item stamp value
unfolding version_at latest_of floor_of
adds_from old new item stamp value row puts added latest floor = record {
  versions = λ i t. rw (puts i) (by_item (λ i b. version_in (if b then row else row_of old i).versions t ≡ (if (b && t == stamp) && nat_le (row_of old i).floor t then Some value else version_in (row_of old i).versions t)) item (added t) (λ i. refl) i);
  latest = λ i. rw (puts i, latest_of) (by_item (λ i b. (if b then row else row_of old i).latest ≡ (row_of old i).latest) item latest (λ i. refl) i);
  floor = λ i. rw (puts i, floor_of) (by_item (λ i b. (if b then row else row_of old i).floor ≡ (row_of old i).floor) item floor (λ i. refl) i);
}

-- the row that was there, or the empty row in its place
pub same_from : (old new : VersionsState) (item : ℕ) → Puts old new item (row_of old item) → SameVersions old new
unfolding version_at latest_of floor_of
same_from old new item puts = record {
  versions = λ i t. ap (λ (row : RowState). version_in row.versions t) (row_is i);
  latest = λ i. ap (λ (row : RowState). row.latest) (row_is i);
  floor = λ i. ap (λ (row : RowState). row.floor) (row_is i);
}
  where
    row_is : (i : ℕ) → row_of new i ≡ row_of old i
    row_is i = rw (puts i) (by_item (λ i b. (if b then row_of old item else row_of old i) ≡ row_of old i) item refl (λ i. refl) i)

-- the row without its version at the stamp
abbrev dropped : ℕ → RowState → RowState
dropped stamp row = record row { versions = filter (λ v. not (v.stamp == stamp)) row.versions }

pub drops_from : (old new : VersionsState) (item stamp : ℕ) → Puts old new item (dropped stamp (row_of old item)) → DropsOne old new item stamp
unfolding version_at latest_of floor_of
drops_from old new item stamp puts = record {
  versions = λ i t. rw (puts i) (by_item (λ i b. version_in (if b then dropped stamp (row_of old item) else row_of old i).versions t ≡ (if b && t == stamp then None else version_in (row_of old i).versions t)) item (version_in-without (row_of old item).versions stamp t) (λ i. refl) i);
  latest = λ i. rw (puts i, latest_of) (by_item (λ i b. (if b then dropped stamp (row_of old item) else row_of old i).latest ≡ (row_of old i).latest) item refl (λ i. refl) i);
  floor = λ i. rw (puts i, floor_of) (by_item (λ i b. (if b then dropped stamp (row_of old item) else row_of old i).floor ≡ (row_of old i).floor) item refl (λ i. refl) i);
}

-- an item without a row has nothing to drop
pub drops_nothing : (kept : VersionsState) (item stamp : ℕ) → row_of kept item ≡ empty_row → DropsOne kept kept item stamp
unfolding version_at latest_of floor_of
drops_nothing kept item stamp empty = record {
  versions = λ i t. by_item (λ i b. version_in (row_of kept i).versions t ≡ (if b && t == stamp then None else version_in (row_of kept i).versions t)) item (rw empty (either (t == stamp))) (λ i. refl) i;
  latest = λ i. refl;
  floor = λ i. refl;
}
  where
    either : (b : Bool) → None ≡ (if b then (let v : Option Value = None in v) else None)
    either true = refl
    either false = refl

-- where none is below the floor, what is found is not
pub found_high : (vs : List Version) (floor : ℕ) → All (λ v. floor ≤ v.stamp) vs → (t : ℕ) → IsSome (version_in vs t) → floor ≤ t
found_high vs floor kept t found = ⊎_elim (λ low. absurd (none_found (version_in-low vs floor t kept low))) (λ high. high) (cases_lt t floor)
  where
    none_found : version_in vs t ≡ None → ⊥
    none_found none = cc

-- ---- the same, as a map lends a row
there : (m : BTreeMap ℕ RowState) (item : ℕ) (row : RowState) → get nat_cmp m item ≡ Some row → row_of (record { rows = m.entries }) item ≡ row
there m item row found = rw found refl

puts_from_writes : (m n : BTreeMap ℕ RowState) (item : ℕ) (row new : RowState) → get nat_cmp m item ≡ Some row → WritesThrough nat_cmp (nat_cmp item) m new n → Puts (record { rows = m.entries }) (record { rows = n.entries }) item new
puts_from_writes m n item row new found writes = puts_from_updates m n item new (writes.3 (ap is_some found))

pub committed : (m n : BTreeMap ℕ RowState) (item stamp : ℕ) (row new : RowState) → get nat_cmp m item ≡ Some row → new ≡ record row { latest = max row.latest stamp } → WritesThrough nat_cmp (nat_cmp item) m new n → Commits (record { rows = m.entries }) (record { rows = n.entries }) item stamp
committed m n item stamp row new found raised writes =
    commits_from _ _ item stamp (rw (there m item row found, ← raised) (puts_from_writes m n item row new found writes))

pub trimmed : (m n : BTreeMap ℕ RowState) (item : ℕ) (row new : RowState) → get nat_cmp m item ≡ Some row → new ≡ record row { floor = row.latest; versions = filter (λ v. nat_le row.latest v.stamp) row.versions } → WritesThrough nat_cmp (nat_cmp item) m new n → Trims (record { rows = m.entries }) (record { rows = n.entries }) item
trimmed m n item row new found raised writes =
    trims_from _ _ item (rw (there m item row found, ← raised) (puts_from_writes m n item row new found writes))

pub dropped_one : (m n : BTreeMap ℕ RowState) (item stamp : ℕ) (row new : RowState) → get nat_cmp m item ≡ Some row → new ≡ dropped stamp row → WritesThrough nat_cmp (nat_cmp item) m new n → DropsOne (record { rows = m.entries }) (record { rows = n.entries }) item stamp
dropped_one m n item stamp row new found without writes =
    drops_from _ _ item stamp (rw (there m item row found, ← without) (puts_from_writes m n item row new found writes))

-- an item that has a version, or a floor above 0, has a row
pub commits_nowhere : (m : BTreeMap ℕ RowState) (item stamp : ℕ) → get nat_cmp m item ≡ None → IsSome (version_at (record { rows = m.entries }) item stamp) ⊎ (stamp < floor_of (record { rows = m.entries }) item) → ⊥
unfolding version_at floor_of
commits_nowhere m item stamp none (inl found) = absurd (none_there (version_in (row_of (record { rows = m.entries }) item).versions stamp) (rw none refl) found)
  where
    none_there : (o : Option Value) → o ≡ None → IsSome o → ⊥
    none_there o e f = cc
commits_nowhere m item stamp none (inr low) = below_zero (row_of (record { rows = m.entries }) item).floor (rw none refl) low
  where
    below_zero : (floor : ℕ) → floor ≡ 0 → stamp < floor → ⊥
    below_zero floor e l = omega arith

-- ---- the same, as an entry of the map lends the item's row, or a new one
lent : (m : BTreeMap ℕ RowState) (item : ℕ) (o : Option RowState) (row given : RowState) → o ≡ get nat_cmp m item → given ≡ empty_row → row ≡ unwrap_or o given → row ≡ row_of (record { rows = m.entries }) item
lent m item o row given value empty is = rw (is, value, empty) refl

pub none_lent : (m : BTreeMap ℕ RowState) (item stamp : ℕ) (o : Option RowState) (row given : RowState) → version_at (record { rows = m.entries }) item stamp ≡ None → o ≡ get nat_cmp m item → given ≡ empty_row → row ≡ unwrap_or o given → version_in row.versions stamp ≡ None
unfolding version_at
none_lent m item stamp o row given none value empty is = rw (lent m item o row given value empty is) none

pub added_by : (m : BTreeMap ℕ RowState) (entries : List (ℕ × RowState)) (item stamp : ℕ) (value : Value) (o : Option RowState) (row given new : RowState) → entries ≡ insert_entry nat_cmp m.entries item new → o ≡ get nat_cmp m item → given ≡ empty_row → row ≡ unwrap_or o given → ((t : ℕ) → version_in new.versions t ≡ (if t == stamp && nat_le row.floor t then Some value else version_in row.versions t)) → new.latest ≡ row.latest → new.floor ≡ row.floor → Adds (record { rows = m.entries }) (record { rows = entries }) item stamp value
added_by m entries item stamp value o row given new inserted found empty is added latest floor =
    let e = lent m item o row given found empty is in
    adds_from _ _ item stamp value new (puts_from_insert m.entries entries item new inserted) (rw (← e) added) (rw (← e) latest) (rw (← e) floor)

pub unchanged_by : (m : BTreeMap ℕ RowState) (entries : List (ℕ × RowState)) (item : ℕ) (o : Option RowState) (row given new : RowState) → entries ≡ insert_entry nat_cmp m.entries item new → o ≡ get nat_cmp m item → given ≡ empty_row → row ≡ unwrap_or o given → new ≡ row → SameVersions (record { rows = m.entries }) (record { rows = entries })
unchanged_by m entries item o row given new inserted found empty is same =
    same_from _ _ item (rw (← (lent m item o row given found empty is), ← same) (puts_from_insert m.entries entries item new inserted))

-- ---- what the item's row says of it
pub dropped_nowhere : (m : BTreeMap ℕ RowState) (item stamp : ℕ) → get nat_cmp m item ≡ None → DropsOne (record { rows = m.entries }) (record { rows = m.entries }) item stamp
dropped_nowhere m item stamp none = drops_nothing _ item stamp (rw none refl)

pub trimmed_nowhere : (m : BTreeMap ℕ RowState) (item : ℕ) → get nat_cmp m item ≡ None → Trims (record { rows = m.entries }) (record { rows = m.entries }) item
trimmed_nowhere m item none = trims_nothing _ item (rw none refl)

pub found_above : (m : BTreeMap ℕ RowState) (item floor t : ℕ) (row : RowState) → get nat_cmp m item ≡ Some row → All (λ v. floor ≤ v.stamp) row.versions → IsSome (version_at (record { rows = m.entries }) item t) → floor ≤ t
unfolding version_at
found_above m item floor t row found kept some = found_high row.versions floor kept t (rw (there m item row found) at some)

pub best_there : (m : BTreeMap ℕ RowState) (item : ℕ) (row : RowState) (stamps : List ℕ) (result : Option ℕ) → get nat_cmp m item ≡ Some row → result ≡ unless_gone (best_of (λ t. is_some (version_in row.versions t)) stamps) row.floor → result ≡ unless_gone (best_of (λ t. is_some (version_at (record { rows = m.entries }) item t)) stamps) (floor_of (record { rows = m.entries }) item)
unfolding version_at floor_of
best_there m item row stamps result found told = rw (there m item row found, floor_of) told

pub best_nowhere : (m : BTreeMap ℕ RowState) (item : ℕ) (stamps : List ℕ) → get nat_cmp m item ≡ None → Some 0 ≡ unless_gone (best_of (λ t. is_some (version_at (record { rows = m.entries }) item t)) stamps) (floor_of (record { rows = m.entries }) item)
unfolding version_at floor_of
best_nowhere m item stamps none = rw (none, floor_of, best_of-none (λ t. false) stamps (λ k d within. refl)) refl
