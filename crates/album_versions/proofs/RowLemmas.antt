-- What a search finds among versions that rise by stamp, and what an edit leaves to be found: for the methods of `Row`.
use Rattle.std.proofs.Common.{◌≡◌, ◌↔◌, Bool, true, false, ⊎_elim, IsNone, IsSome, Option, ℕ, zero, suc, ◌+◌, ◌-◌, ◌<◌, ◌≤◌, ◌≢◌, List, [], ◌∷◌, length, get_or, not, ◌==◌, nat_lt, nat_le, ◌&&◌, if◌then◌else◌, Some, None, is_some, Result, Ok, Err, IfOk, IfErr, refl, sym, ap, subst, filter, All, arith}
use Rattle.std.specs.List.{insert, remove, slice_get}
use Rattle.std.proofs.lemmas.Option.{slice_get_within, slice_get-get_or}
use Rattle.std.specs.List.Sorted.{IsSearchInRange, IsBinarySearchResult, IsNonDecreasingBy}
use Rattle.std.specs.Ordering.{nat_cmp, ordering_index}
use Rattle.std.proofs.lemmas.Cmp.{ranked}
use Rattle.std.proofs.lemmas.List.Edits.{length-insert, get_or-insert_below, get_or-insert_at, get_or-insert_above}
use Rattle.std.proofs.lemmas.List.Elements.{All-head, All-tail, All-cons, All-filter, All-weaker, filter_passes}
use Rattle.std.proofs.lemmas.List.Kept.{AllPairs-filter}
use Rattle.std.proofs.lemmas.Bool.{leb-true, cases_lt}
use Rattle.album_versions.specs.Best.{best_of, unless_gone}
use Rattle.album_versions.proofs.Greatest.{best_of-none, All-best_of}
use Rattle.std.proofs.lemmas.List.Sorted.{All-permutation, IsPermutation-insert}
use Rattle.std.proofs.lemmas.Bool.Decides.{nat_tests}
use Rattle.album_items.specs.declared.values.Value.{Value}
use Rattle.album_versions.specs.declared.rows.Version.{Version}
use Rattle.album_versions.specs.Rows.{RowState, version_in, IsRising, IsAt, IsGapFor, IsRow}

-- no version before the index has the stamp
abbrev pub NoneBefore : List Version → ℕ → ℕ → Type 0
NoneBefore vs t i = (j : ℕ) (d : Version) → j < i → (get_or vs j d).stamp ≢ t

none_before_tail : (v : Version) (vs : List Version) (t i : ℕ) → NoneBefore (v ∷ vs) t (suc i) → NoneBefore vs t i
none_before_tail v vs t i none j d below = none (suc j) d (omega arith)

is_at_tail : (v : Version) (vs : List Version) (t i : ℕ) → IsAt (v ∷ vs) t (suc i) → IsAt vs t i
is_at_tail v vs t i at = record { in_range = omega (arith, at.in_range); has_stamp = λ d. at.has_stamp d }

version_in-none : (vs : List Version) (t : ℕ) → NoneBefore vs t (length vs) → version_in vs t ≡ None
version_in-none [] t none = refl
version_in-none (v ∷ vs) t none = grind (arith, nat_tests, none 0 v (omega arith), version_in-none vs t (none_before_tail v vs t _ none))

version_in-first : (vs : List Version) (t i : ℕ) (d : Version) → IsAt vs t i → NoneBefore vs t i → version_in vs t ≡ Some (get_or vs i d).value
version_in-first [] t i d at none = absurd (omega (arith, at.in_range))
version_in-first (v ∷ vs) t zero d at none = grind (arith, nat_tests, at.has_stamp v)
version_in-first (v ∷ vs) t (suc i) d at none =
    grind (arith, nat_tests, none 0 v (omega arith), version_in-first vs t i d (is_at_tail v vs t i at) (none_before_tail v vs t i none))

version_in-inserted : (vs : List Version) (s i : ℕ) (value : Value) (t : ℕ) → NoneBefore vs s i → version_in (insert vs i (record { stamp = s; value = value })) t ≡ (if t == s then Some value else version_in vs t)
version_in-inserted vs s zero value t none = grind (arith, nat_tests)
version_in-inserted [] s (suc i) value t none = grind (arith, nat_tests)
version_in-inserted (v ∷ vs) s (suc i) value t none =
    grind (arith, nat_tests, none 0 v (omega arith), version_in-inserted vs s i value t (none_before_tail v vs s i none))

-- no other version than the one at the index has the stamp
abbrev pub NoneBut : List Version → ℕ → ℕ → Type 0
NoneBut vs t i = (j : ℕ) (d : Version) → j < length vs → j ≢ i → (get_or vs j d).stamp ≢ t

-- where no version has the stamp, none goes
pub without-none : (vs : List Version) (t : ℕ) → NoneBefore vs t (length vs) → vs ≡ filter (λ v. not (v.stamp == t)) vs
without-none [] t none = refl
without-none (v ∷ vs) t none = grind (arith, nat_tests, none 0 v (omega arith), without-none vs t (none_before_tail v vs t _ none))

-- to remove the one that has the stamp is to filter it out
without-at : (vs : List Version) (t i : ℕ) → IsAt vs t i → NoneBut vs t i → remove vs i ≡ filter (λ v. not (v.stamp == t)) vs
without-at [] t i at none = absurd (omega (arith, at.in_range))
without-at (v ∷ vs) t zero at none =
    grind (arith, nat_tests, at.has_stamp v, without-none vs t (λ j d below. none (suc j) d (omega arith) (omega arith)))
without-at (v ∷ vs) t (suc i) at none =
    grind (arith, nat_tests, none 0 v (omega arith) (omega arith), without-at vs t i (is_at_tail v vs t i at) (λ j d within other. none (suc j) d (omega arith) (λ e. other (omega arith))))

-- the versions of one stamp less
pub version_in-without : (vs : List Version) (s t : ℕ) → version_in (filter (λ v. not (v.stamp == s)) vs) t ≡ (if t == s then None else version_in vs t)
version_in-without [] s t = grind (arith, nat_tests)
version_in-without (v ∷ vs) s t = grind (arith, nat_tests, version_in-without vs s t)

-- the versions below a floor less
pub version_in-from : (vs : List Version) (floor t : ℕ) → version_in (filter (λ v. nat_le floor v.stamp) vs) t ≡ (if nat_lt t floor then None else version_in vs t)
version_in-from [] floor t = grind (arith, nat_tests)
version_in-from (v ∷ vs) floor t = grind (arith, nat_tests, version_in-from vs floor t)

-- where none is below the floor, none is found below it
pub version_in-low : (vs : List Version) (floor t : ℕ) → All (λ v. floor ≤ v.stamp) vs → t < floor → version_in vs t ≡ None
version_in-low [] floor t kept low = refl
version_in-low (v ∷ vs) floor t kept low =
    grind (arith, nat_tests, All-head (λ (w : Version). floor ≤ w.stamp) v vs kept, version_in-low vs floor t (All-tail (λ (w : Version). floor ≤ w.stamp) v vs kept) low)

module _ (vs : List Version) (rising : IsRising vs) (t : ℕ) where
  -- the comparisons with a stamp rise along the versions, as a binary search asks
  comparisons_rise : IsNonDecreasingBy (λ v. ordering_index (nat_cmp v.stamp t)) vs
  comparisons_rise i j d le within =
      let rise : (get_or vs i d).stamp ≤ (get_or vs j d).stamp = grind (arith, rising i j d, λ (same : i ≡ j). ap (λ (k : ℕ). (get_or vs k d).stamp) same) in
      grind (arith, nat_tests)

  -- a binary search by stamp ends at the stamp, or at the gap for it
  pub searched : (r : Result ℕ ℕ) → IsSearchInRange r (length vs) → IsBinarySearchResult (λ v. nat_cmp v.stamp t) vs r → record { found : IfOk r (IsAt vs t); absent : IfErr r (IsGapFor vs t) }
  searched (Ok i) within equal = record { found = record { in_range = within; has_stamp = λ d. ranked _ t _ (sym (equal d)) }; absent = tt }
  searched (Err i) within parted = record {
    found = tt;
    absent = record {
      in_range = within;
      parted = (λ j d low below. ranked _ t _ (sym ((parted comparisons_rise).0 j d low below)), λ j d low below. ranked _ t _ (sym ((parted comparisons_rise).1 j d low below)));
    };
  }

  none_before_at : (i : ℕ) → IsAt vs t i → NoneBefore vs t i
  none_before_at i at j d below same = omega (arith, rising j i d below at.in_range, at.has_stamp d)

  -- the version at the stamp is found
  pub version_in-at : (i : ℕ) (d : Version) → IsAt vs t i → version_in vs t ≡ Some (get_or vs i d).value
  version_in-at i d at = version_in-first vs t i d at (none_before_at i at)

  -- and goes
  pub removed-at : (i : ℕ) → IsAt vs t i → remove vs i ≡ filter (λ v. not (v.stamp == t)) vs
  removed-at i at = without-at vs t i at (λ j d within other same. grind (arith, rising j i d, rising i j d, at.in_range, at.has_stamp d))

module _ (vs : List Version) (t i : ℕ) (gap : IsGapFor vs t i) where
  none_in_gap : NoneBefore vs t (length vs)
  none_in_gap j d below same = grind (arith, gap.parted.0 j d (omega arith), gap.parted.1 j d)

  -- what has a gap is not found
  pub version_in-gap : version_in vs t ≡ None
  version_in-gap = version_in-none vs t none_in_gap

  -- and nothing goes
  pub removed-gap : vs ≡ filter (λ v. not (v.stamp == t)) vs
  removed-gap = without-none vs t none_in_gap

  -- a version in the gap is found, and each other as before
  pub version_in-insert : (value : Value) (u : ℕ) → version_in (insert vs i (record { stamp = t; value = value })) u ≡ (if u == t then Some value else version_in vs u)
  version_in-insert value u = version_in-inserted vs t i value u (λ j d below same. omega (arith, gap.parted.0 j d (omega arith) below))

  -- the versions still rise: each is an old one before the gap, the one in it, or an old one moved up by one
  pub IsRising-insert : (value : Value) → IsRising vs → IsRising (insert vs i (record { stamp = t; value = value }))
  IsRising-insert value rising j k d lt within =
      let version : Version = record { stamp = t; value = value } in
      let new = insert vs i version in
      let stamp = λ (v : Version). v.stamp in
      let length_new = length-insert vs i version gap.in_range in
      let below : (j : ℕ) → j < i → (get_or new j d).stamp ≡ (get_or vs j d).stamp = λ j b. ap stamp (get_or-insert_below vs i version d j b gap.in_range) in
      let here : (j : ℕ) → j ≡ i → (get_or new j d).stamp ≡ t = λ j e. rw e (ap stamp (get_or-insert_at vs i version d gap.in_range)) in
      let above : (j : ℕ) → i < j → (get_or new j d).stamp ≡ (get_or vs (j - 1) d).stamp = λ j a. subst (λ q. (get_or new q d).stamp ≡ (get_or vs (j - 1) d).stamp) {x = j - 1 + 1} (omega arith) (ap stamp (get_or-insert_above vs i version d (j - 1) (omega arith) gap.in_range)) in
      grind (arith, below j, here j, above j, below k, here k, above k, rising j k d, rising j (k - 1) d, rising (j - 1) (k - 1) d, gap.parted.0 j d, gap.parted.1 (k - 1) d)

pub All-insert : (P : Version → Type 0) (vs : List Version) (i : ℕ) (v : Version) → All P vs → P v → All P (insert vs i v)
All-insert P vs i v all here = All-permutation P (v ∷ vs) (insert vs i v) (IsPermutation-insert vs i v) (All-cons P v vs here all)

-- a version in its gap, at or above the floor
pub added-kept : (row : RowState) (t i : ℕ) (value : Value) → IsRow row → row.floor ≤ t → IsGapFor row.versions t i → IsRow (record row { versions = insert row.versions i (record { stamp = t; value = value }) })
added-kept row t i value kept high gap = record {
  rising = IsRising-insert row.versions t i gap value kept.rising;
  kept = All-insert (λ v. row.floor ≤ v.stamp) row.versions i (record { stamp = t; value = value }) kept.kept high;
  low = kept.low;
}

pub added-found : (vs : List Version) (t i floor : ℕ) (value : Value) → floor ≤ t → IsGapFor vs t i → (u : ℕ) → version_in (insert vs i (record { stamp = t; value = value })) u ≡ (if u == t && nat_le floor u then Some value else version_in vs u)
added-found vs t i floor value high gap u = grind (arith, nat_tests, version_in-insert vs t i gap value u)

-- the versions of one stamp less
pub dropped-kept : (row : RowState) (t : ℕ) → IsRow row → IsRow (record row { versions = filter (λ v. not (v.stamp == t)) row.versions })
dropped-kept row t kept = record {
  rising = AllPairs-filter (λ v w. v.stamp < w.stamp) (λ v. not (v.stamp == t)) row.versions kept.rising;
  kept = All-filter (λ v. not (v.stamp == t)) (λ v. row.floor ≤ v.stamp) row.versions kept.kept;
  low = kept.low;
}

-- the versions below the latest stamp less
pub trimmed-kept : (row : RowState) → IsRow row → IsRow (record row { floor = row.latest; versions = filter (λ v. nat_le row.latest v.stamp) row.versions })
trimmed-kept row kept = record {
  rising = AllPairs-filter (λ v w. v.stamp < w.stamp) (λ v. nat_le row.latest v.stamp) row.versions kept.rising;
  kept = All-weaker (λ v. nat_le row.latest v.stamp ≡ true) (λ v. row.latest ≤ v.stamp) (λ v e. leb-true row.latest v.stamp e) _ (filter_passes (λ v. nat_le row.latest v.stamp) row.versions);
  low = omega arith;
}

none_from : {X : Type 0} (o : Option X) → (is_some o ≡ true → ⊥) → o ≡ None
none_from None none = refl
none_from (Some x) none = absurd (none refl)

-- what is gone, is gone by the floor
gone_parts : (best floor : ℕ) → IsNone (unless_gone best floor) → (best ≡ 0) × (0 < floor)
gone_parts best floor gone = (grind (arith, nat_tests), grind (arith, nat_tests))

pub gone-iff : (row : RowState) (stamps : List ℕ) → IsRow row → IsNone (unless_gone (best_of (λ t. is_some (version_in row.versions t)) stamps) row.floor) ↔ ((0 < row.floor) × All (λ t. version_in row.versions t ≡ None) stamps)
gone-iff row stamps kept = (there, back)
  where
    passes : ℕ → Bool
    passes t = is_some (version_in row.versions t)

    none_at : (t : ℕ) → 0 < row.floor → (passes t ≡ true → t ≤ 0) → version_in row.versions t ≡ None
    none_at t high least = ⊎_elim (λ low. version_in-low row.versions row.floor t kept.kept low) (λ above. none_from (version_in row.versions t) (λ e. omega (arith, least e))) (cases_lt t row.floor)

    there : IsNone (unless_gone (best_of passes stamps) row.floor) → (0 < row.floor) × All (λ t. version_in row.versions t ≡ None) stamps
    there gone =
        let parts = gone_parts (best_of passes stamps) row.floor gone in
        (parts.1, All-weaker (λ t. passes t ≡ true → t ≤ best_of passes stamps) (λ t. version_in row.versions t ≡ None) (λ t least. none_at t parts.1 (rw parts.0 at least)) stamps (All-best_of passes stamps))

    back : (0 < row.floor) × All (λ t. version_in row.versions t ≡ None) stamps → IsNone (unless_gone (best_of passes stamps) row.floor)
    back (high, none) =
        let zero_best = best_of-none passes stamps (All-weaker (λ t. version_in row.versions t ≡ None) (λ t. passes t ≡ false) (λ t e. ap is_some e) stamps none) in
        rw zero_best (grind (arith, nat_tests))

-- ---- the last version is the one of the greatest stamp, for `Row::newest`

module _ (vs : List Version) (v : Version) (rising : IsRising vs) (last : slice_get vs (length vs - 1) ≡ Some v) where
  last_at : IsAt vs v.stamp (length vs - 1)
  last_at = record {
    in_range = slice_get_within vs (length vs - 1) v last;
    has_stamp = λ d.
        let found = slice_get-get_or vs (length vs - 1) d (slice_get_within vs (length vs - 1) v last) in
        let same : get_or vs (length vs - 1) d ≡ v = cc in ap (λ (w : Version). w.stamp) same;
  }

  pub newest_there : IsSome (version_in vs v.stamp)
  newest_there = subst IsSome (sym (version_in-at vs rising v.stamp (length vs - 1) v last_at)) refl

  pub newest_greatest : (t : ℕ) → IsSome (version_in vs t) → t ≤ v.stamp
  newest_greatest t there =
      ⊎_elim (λ above. absurd (let none = version_in-gap vs t (length vs) (gap above) in let is = subst IsSome none there in cc)) (λ below. below) (cases_lt v.stamp t)
    where
      gap : v.stamp < t → IsGapFor vs t (length vs)
      gap above = record {
        in_range = omega arith;
        parted = (
          λ j d within. grind (arith, rising j (length vs - 1) d, last_at.has_stamp d, last_at.in_range, λ (same : j ≡ length vs - 1). ap (λ (k : ℕ). (get_or vs k d).stamp) same),
          λ j d high within. absurd (omega arith),
        );
      }
