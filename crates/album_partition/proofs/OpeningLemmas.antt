-- Partitions as they open. `Partition::of_opening` needs `may_be_opened` and `opened_so`, and `all_of` `one_more`.
use Rattle.std.proofs.Common.{◌≡◌, ℕ, ◌+◌, ◌<◌, Bool, true, false, not, cond, ◌&&◌, ◌||◌, List, [], ◌∷◌, ◌++◌, map, filter, Ok, Err, refl, sym, ap, ◌∙◌, arith, true≢false, if◌then◌else◌}
use Rattle.std.specs.List.{list_all, list_any, range_with_len}
use Rattle.std.proofs.lemmas.Bool.{lt-ltb, and_parts, and_from}
use Rattle.std.proofs.lemmas.List.FromFn.{map-range_with_len_more}
use Rattle.album_stamps.specs.Distinct.{no_two}
use Rattle.album_stamps.specs.declared.refusals.Refusal.TheVariants.{BadOpening, NoSuchPart}
use Rattle.album_items.specs.Openings.{Row, is_base_opening, has_parts, has_limit, has_policy, has_first, has_counts, is_low_row, greatest_number, has_own_value, has_single_rows, same_item}
use Rattle.album_items.specs.Places.{is_placed, rows_placed_at}
use Rattle.album_items.specs.declared.openings.Opening.{Opening}
use Rattle.album_partition.specs.Partition.{PartitionState, opened, may_open, has_own_rows, first_partition}

-- ---- tests

and_left : (a b : Bool) → a && b ≡ true → a ≡ true
and_left a b h = (and_parts a b h).0

and_right : (a b : Bool) → a && b ≡ true → b ≡ true
and_right a b h = (and_parts a b h).1

and_both : (a b : Bool) → a ≡ true → b ≡ true → a && b ≡ true
and_both = and_from

not_true : (b : Bool) → not b ≡ true → b ≡ false
not_true true h = absurd (true≢false (sym h))
not_true false h = refl

-- ---- rows that are picked

-- one row, picked or not
pick_all : {X : Type 0} (p : X → Bool) (x : X) (ys : List X) (b : Bool) → p x ≡ true → list_all p ys ≡ true
    → list_all p (cond b (x ∷ ys) ys) ≡ true
pick_all p x ys true h r = and_both (p x) (list_all p ys) h r
pick_all p x ys false h r = r

pick_own : {X : Type 0} (p : X → Bool) (x : X) (ys : List X) (b : Bool) → p x ≡ b → list_all p ys ≡ true
    → list_all p (cond b (x ∷ ys) ys) ≡ true
pick_own p x ys true h r = and_both (p x) (list_all p ys) h r
pick_own p x ys false h r = r

pick_none : {X : Type 0} (p : X → Bool) (x : X) (ys : List X) (b : Bool) → p x ≡ false → list_any p ys ≡ false
    → list_any p (cond b (x ∷ ys) ys) ≡ false
pick_none p x ys true h r = ap (λ t. t || list_any p ys) h ∙ r
pick_none p x ys false h r = r

pick_apart : {X : Type 0} (clash : X → X → Bool) (x : X) (ys : List X) (b : Bool) → list_any (clash x) ys ≡ false
    → no_two clash ys ≡ true → no_two clash (cond b (x ∷ ys) ys) ≡ true
pick_apart clash x ys true h r = ap (λ t. not t && no_two clash ys) h ∙ r
pick_apart clash x ys false h r = r

or_none : (a b : Bool) → a || b ≡ false → (a ≡ false) × (b ≡ false)
or_none true b h = absurd (cc)
or_none false b h = (refl, h)

module _ {X : Type 0} (test : X → Bool) where
  picked_all : (p : X → Bool) (xs : List X) → list_all p xs ≡ true → list_all p (filter test xs) ≡ true
  picked_all p [] h = refl
  picked_all p (x ∷ xs) h = pick_all p x (filter test xs) (test x) (and_left (p x) (list_all p xs) h)
      (picked_all p xs (and_right (p x) (list_all p xs) h))

  all_picked : (xs : List X) → list_all test (filter test xs) ≡ true
  all_picked [] = refl
  all_picked (x ∷ xs) = pick_own test x (filter test xs) (test x) refl (all_picked xs)

  picked_none : (p : X → Bool) (xs : List X) → list_any p xs ≡ false → list_any p (filter test xs) ≡ false
  picked_none p [] h = refl
  picked_none p (x ∷ xs) h =
      let both = or_none (p x) (list_any p xs) h in
      pick_none p x (filter test xs) (test x) both.0 (picked_none p xs both.1)

  picked_apart : (clash : X → X → Bool) (xs : List X) → no_two clash xs ≡ true → no_two clash (filter test xs) ≡ true
  picked_apart clash [] h = refl
  picked_apart clash (x ∷ xs) h = pick_apart clash x (filter test xs) (test x)
      (picked_none (clash x) xs (not_true (list_any (clash x) xs) (and_left (not (list_any (clash x) xs)) (no_two clash xs) h)))
      (picked_apart clash xs (and_right (not (list_any (clash x) xs)) (no_two clash xs) h))

-- ---- a base's

pub may_be_opened : (o : Opening) (part : ℕ) → is_base_opening o ≡ true
    → may_open part o.parts o.limit (rows_placed_at part o.parts o.items) ≡ true
may_be_opened o part is =
    let both = and_parts (has_counts o) (has_single_rows o.items && list_all has_own_value o.items && list_all (is_low_row (greatest_number o.first)) o.items) is in
    let limits = (and_parts (has_parts o.parts && has_limit o.limit) (has_policy o.policy)
    (and_left (has_parts o.parts && has_limit o.limit && has_policy o.policy) (has_first o.first) both.0)).0 in
    let rows = and_parts (has_single_rows o.items) (list_all has_own_value o.items)
    (and_left (has_single_rows o.items && list_all has_own_value o.items) (list_all (is_low_row (greatest_number o.first)) o.items) both.1) in
    let test : Row → Bool = λ (row : Row). is_placed part o.parts row.0 in
    and_both (has_parts o.parts && has_limit o.limit) (has_own_rows part o.parts (rows_placed_at part o.parts o.items)) limits
    (and_both (list_all has_own_value (filter test o.items) && list_all test (filter test o.items)) (has_single_rows (filter test o.items))
    (and_both (list_all has_own_value (filter test o.items)) (list_all test (filter test o.items))
    (picked_all test has_own_value o.items rows.1) (all_picked test o.items))
    (picked_apart test same_item o.items rows.0))

-- each partition of a base opens
pub opened_so : (o : Opening) (part : ℕ) → is_base_opening o ≡ true → part < o.parts
    → opened part o.parts (rows_placed_at part o.parts o.items) o.limit ≡ Ok (first_partition false o.parts o.limit o.items part)
opened_so o part is here =
    let a = lt-ltb part o.parts here in
    let b = may_be_opened o part is in
    ap (λ (t : Bool). if not t then Err NoSuchPart else if not (may_open part o.parts o.limit (rows_placed_at part o.parts o.items)) then Err BadOpening else Ok (first_partition false o.parts o.limit o.items part)) a
    ∙ ap (λ (t : Bool). if not t then Err BadOpening else Ok (first_partition false o.parts o.limit o.items part)) b

-- ---- one after the other

pub one_more :
    (o : Opening) (n : ℕ) (ps : List PartitionState)
    → ps ≡ map (first_partition o.checked o.parts o.limit o.items) (range_with_len 0 n)
    → ps ++ first_partition o.checked o.parts o.limit o.items n ∷ []
    ≡ map (first_partition o.checked o.parts o.limit o.items) (range_with_len 0 (n + 1))
one_more o n ps e =
    let first : ℕ → PartitionState = first_partition o.checked o.parts o.limit o.items in
    ap (λ (z : List PartitionState). z ++ first n ∷ []) e ∙ sym (map-range_with_len_more first 0 n n (zero_plus n))
  where
    zero_plus : (n : ℕ) → 0 + n ≡ n
    zero_plus n = omega arith
