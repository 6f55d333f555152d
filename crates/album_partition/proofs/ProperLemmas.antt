-- Rows of exactly some items, one of each. `are_rows_of_placed` in proper.rt needs `rows_counted`: it is enough to
-- count them. The law `proper_writes_are_those_placed_here` needs `proper_placed` and `proper_in_any_order`.
use Rattle.std.proofs.Common.{◌≡◌, ◌↔◌, nat_le, Contains, IsTrue, is_some, Some, ℕ, ◌≤◌, ◌+◌, Bool, true, false, ◌==◌, ◌&&◌, ◌||◌, not, cond, List, [], ◌∷◌, map, filter, length, refl, sym, ap, ◌∙◌, subst, arith, if◌then◌else◌}
use Rattle.std.specs.List.{list_any, list_all}
use Rattle.std.proofs.lemmas.Bool.{and_parts, and_from, or_parts, not-true}
use Rattle.std.proofs.lemmas.Bool.Decides.{Decides-eqb, same_from_decides}
use Rattle.std.specs.List.Sorted.{IsPermutation}
use Rattle.std.proofs.lemmas.List.Sorted.{length_permutation, list_any-IsPermutation}
use Rattle.album_stamps.specs.declared.limits.TheConstants.{MAX_TRANSACTION_ITEMS}
use Rattle.album_items.specs.ItemIds.{place_of}
use Rattle.album_stamps.specs.Distinct.{are_distinct}
use Rattle.album_items.specs.Openings.{Row, has_single_rows}
use Rattle.album_partition.specs.Marks.{value_in}
use Rattle.album_items.specs.Places.{is_placed, placed_at}
use Rattle.album_items.specs.Transactions.{are_items, has_right_kind}
use Rattle.album_partition.specs.Proper.{has_row, is_among, are_rows_of, are_own_writes, is_proper}
use Rattle.album_partition.proofs.ListLemmas.{same_or_not, turned, list_all-any, any_from_contains, contains_from_any, kept_in, kept_out}

-- ---- distinct numbers, among others

abbrev among : List ℕ → ℕ → Bool
among ys x = list_any (λ y. y == x) ys

abbrev all_among : List ℕ → List ℕ → Bool
all_among ys xs = list_all (among ys) xs

-- the list without the first occurrence of a number
abbrev without : ℕ → List ℕ → List ℕ
without x [] = []
without x (y ∷ ys) = if y == x then ys else y ∷ without x ys

length-without : (x : ℕ) (ys : List ℕ) → among ys x ≡ true → length ys ≡ length (without x ys) + 1
length-without x [] e = absurd (cc)
length-without x (y ∷ ys) e = go (y == x) e (length-without x ys)
  where
    go : (b : Bool) → b || among ys x ≡ true → (among ys x ≡ true → length ys ≡ length (without x ys) + 1)
        → length (y ∷ ys) ≡ length (if b then ys else y ∷ without x ys) + 1
    go true e h = omega arith
    go false e h = let more = h e in omega arith

-- another number is among them still
among-without : (x z : ℕ) (ys : List ℕ) → (x == z) ≡ false → among (without x ys) z ≡ among ys z
among-without x z [] other = refl
among-without x z (y ∷ ys) other = go (y == x) refl (among-without x z ys other)
  where
    go : (b : Bool) → (y == x) ≡ b → among (without x ys) z ≡ among ys z
        → among (if b then ys else y ∷ without x ys) z ≡ (y == z) || among ys z
    go true e h = rw ((Decides-eqb y x).0 e, other) refl
    go false e h = ap (λ (b : Bool). (y == z) || b) h

-- all of some numbers are, if none of these is the one that is left out
all-without : (x : ℕ) (xs ys : List ℕ) → list_any (λ z. x == z) xs ≡ false → all_among ys xs ≡ true → all_among (without x ys) xs ≡ true
all-without x [] ys other all = refl
all-without x (z ∷ xs) ys other all =
    let o = or_parts (x == z) (list_any (λ w. x == w) xs) other in
    let a = and_parts (among ys z) (all_among ys xs) all in
    and_from (among (without x ys) z) (all_among (without x ys) xs)
    (among-without x z ys o.0 ∙ a.0)
    (all-without x xs ys o.1 a.1)

-- what is among the rest is the number, or is among what is left
back : (x : ℕ) (xs ys : List ℕ) → all_among xs (without x ys) ≡ true → all_among (x ∷ xs) ys ≡ true
back x xs [] all = refl
back x xs (y ∷ ys) all = go (y == x) refl all (back x xs ys)
  where
    more : (z : ℕ) → among xs z ≡ true → among (x ∷ xs) z ≡ true
    more z e = or (x == z)
      where
        or : (b : Bool) → b || among xs z ≡ true
        or true = refl
        or false = e

    mores : (zs : List ℕ) → all_among xs zs ≡ true → all_among (x ∷ xs) zs ≡ true
    mores [] e = refl
    mores (z ∷ zs) e =
        let parts = and_parts (among xs z) (all_among xs zs) e in
        and_from (among (x ∷ xs) z) (all_among (x ∷ xs) zs) (more z parts.0) (mores zs parts.1)

    here : (y == x) ≡ true → among (x ∷ xs) y ≡ true
    here e = rw ((Decides-eqb y x).0 e, (Decides-eqb x x).1 refl) refl

    go : (b : Bool) → (y == x) ≡ b → all_among xs (if b then ys else y ∷ without x ys) ≡ true
        → (all_among xs (without x ys) ≡ true → all_among (x ∷ xs) ys ≡ true) → all_among (x ∷ xs) (y ∷ ys) ≡ true
    go true e all h = and_from (among (x ∷ xs) y) (all_among (x ∷ xs) ys) (here e) (mores ys all)
    go false e all h =
        let parts = and_parts (among xs y) (all_among xs (without x ys)) all in
        and_from (among (x ∷ xs) y) (all_among (x ∷ xs) ys) (more y parts.0) (h parts.1)

-- a number that is not in the rest, and is not the one left out, is not in the list
none-without : (x z : ℕ) (ys : List ℕ) → list_any (λ w. z == w) (without x ys) ≡ false → (z == x) ≡ false → list_any (λ w. z == w) ys ≡ false
none-without x z [] e other = refl
none-without x z (y ∷ ys) e other = go (y == x) refl e (λ (f : list_any (λ w. z == w) (without x ys) ≡ false). none-without x z ys f other)
  where
    none : (z == y) ≡ false → list_any (λ w. z == w) ys ≡ false → (z == y) || list_any (λ w. z == w) ys ≡ false
    none e f = rw (e, f) refl

    go : (b : Bool) → (y == x) ≡ b → list_any (λ w. z == w) (if b then ys else y ∷ without x ys) ≡ false
        → (list_any (λ w. z == w) (without x ys) ≡ false → list_any (λ w. z == w) ys ≡ false) → (z == y) || list_any (λ w. z == w) ys ≡ false
    go true f e h = none (subst (λ (w : ℕ). (z == w) ≡ false) (sym ((Decides-eqb y x).0 f)) other) e
    go false f e h =
        let parts = or_parts (z == y) (list_any (λ w. z == w) (without x ys)) e in
        none parts.0 (h parts.1)

-- a list is distinct if the rest is, and if the number left out is not in the rest
single-without : (x : ℕ) (ys : List ℕ) → are_distinct (without x ys) ≡ true → among (without x ys) x ≡ false → are_distinct ys ≡ true
single-without x [] e gone = refl
single-without x (y ∷ ys) e gone = go (y == x) refl e gone (single-without x ys)
  where
    turn : (zs : List ℕ) → among zs x ≡ list_any (λ w. x == w) zs
    turn [] = refl
    turn (z ∷ zs) = rw (turn zs, same_or_not z x (λ (f : z ≡ x). rw f refl) (λ (f : (z == x) ≡ false). f ∙ sym (turned z x f))) refl

    go : (b : Bool) → (y == x) ≡ b → are_distinct (if b then ys else y ∷ without x ys) ≡ true → among (if b then ys else y ∷ without x ys) x ≡ false
        → (are_distinct (without x ys) ≡ true → among (without x ys) x ≡ false → are_distinct ys ≡ true) → are_distinct (y ∷ ys) ≡ true
    go true f e gone h =
        and_from (not (list_any (λ w. y == w) ys)) (are_distinct ys)
        (ap not (subst (λ (w : ℕ). list_any (λ v. w == v) ys ≡ false) (sym ((Decides-eqb y x).0 f)) (sym (turn ys) ∙ gone)))
        e
    go false f e gone h =
        let parts = and_parts (not (list_any (λ w. y == w) (without x ys))) (are_distinct (without x ys)) e in
        let g = or_parts (y == x) (among (without x ys) x) gone in
        and_from (not (list_any (λ w. y == w) ys)) (are_distinct ys)
        (ap not (none-without x y ys (not-true (list_any (λ w. y == w) (without x ys)) parts.0) f))
        (h parts.1 g.1)

-- a number that is not in one list is not in another whose numbers are all in the first
gone : (x : ℕ) (xs ys : List ℕ) → list_any (λ w. x == w) xs ≡ false → all_among xs ys ≡ true → among ys x ≡ false
gone x xs [] none all = refl
gone x xs (y ∷ ys) none all =
    let parts = and_parts (among xs y) (all_among xs ys) all in
    rw (other (y == x) refl parts.0, gone x xs ys none parts.1) refl
  where
    nowhere : (zs : List ℕ) → list_any (λ w. x == w) zs ≡ false → among zs x ≡ false
    nowhere [] e = refl
    nowhere (z ∷ zs) e =
        let p = or_parts (x == z) (list_any (λ w. x == w) zs) e in
        rw (turned x z p.0, nowhere zs p.1) refl

    other : (b : Bool) → (y == x) ≡ b → among xs y ≡ true → b ≡ false
    other false e h = refl
    other true e h = absurd (let f : among xs x ≡ true = subst (λ (w : ℕ). among xs w ≡ true) ((Decides-eqb y x).0 e) h in let g = nowhere xs none in cc)

-- Distinct numbers that are all among others are at most as many. If they are as many, the others are distinct too,
-- and are all among them.
counted : (xs ys : List ℕ) → are_distinct xs ≡ true → all_among ys xs ≡ true
    → (length xs ≤ length ys) × (length ys ≡ length xs → (are_distinct ys ≡ true) × (all_among xs ys ≡ true))
counted [] [] single all = (omega arith, λ same. (refl, refl))
counted [] (y ∷ ys) single all = (omega arith, λ same. absurd (omega (arith, same)))
counted (x ∷ xs) ys single all =
    let s = and_parts (not (list_any (λ z. x == z) xs)) (are_distinct xs) single in
    let a = and_parts (among ys x) (all_among ys xs) all in
    let none = not-true (list_any (λ z. x == z) xs) s.0 in
    let more = length-without x ys a.0 in
    let h = counted xs (without x ys) s.1 (all-without x xs ys none a.1) in
    let fewer : length xs ≤ length (without x ys) = h.0 in (
      omega arith,
      λ (same : length ys ≡ length (x ∷ xs)).
          let rest = h.1 (omega arith) in
          (single-without x ys rest.0 (gone x xs (without x ys) none rest.1), back x xs ys rest.1),
    )

-- ---- the items of rows

abbrev items_of_rows : List Row → List ℕ
items_of_rows rows = map (λ row. row.0) rows

any_row : (p : ℕ → Bool) (rows : List Row) → list_any (λ row. p row.0) rows ≡ list_any p (items_of_rows rows)
any_row p [] = refl
any_row p (row ∷ rows) = ap (λ (b : Bool). p row.0 || b) (any_row p rows)

all_rows : (p : ℕ → Bool) (rows : List Row) → list_all (λ row. p row.0) rows ≡ list_all p (items_of_rows rows)
all_rows p [] = refl
all_rows p (row ∷ rows) = ap (λ (b : Bool). p row.0 && b) (all_rows p rows)

single_rows : (rows : List Row) → has_single_rows rows ≡ are_distinct (items_of_rows rows)
single_rows [] = refl
single_rows (row ∷ rows) = rw (any_row (λ item. row.0 == item) rows, single_rows rows) refl

have_rows : (rows : List Row) (items : List ℕ) → list_all (has_row rows) items ≡ all_among (items_of_rows rows) items
have_rows rows [] = refl
have_rows rows (item ∷ items) = rw (any_row (λ i. i == item) rows, have_rows rows items) refl

count_rows : (rows : List Row) → length (items_of_rows rows) ≡ length rows
count_rows [] = refl
count_rows (row ∷ rows) = let more = count_rows rows in omega arith

-- ---- items that are chosen

none_chosen : (test pass : ℕ → Bool) (ns : List ℕ) → list_any test ns ≡ false → list_any test (filter pass ns) ≡ false
none_chosen test pass [] e = refl
none_chosen test pass (n ∷ ns) e =
    let parts = or_parts (test n) (list_any test ns) e in
    go (pass n) parts.0 (none_chosen test pass ns parts.1)
  where
    go : (b : Bool) → test n ≡ false → list_any test (filter pass ns) ≡ false → list_any test (cond b (n ∷ filter pass ns) (filter pass ns)) ≡ false
    go true e h = rw (e, h) refl
    go false e h = h

-- numbers that are chosen from distinct ones are distinct
single_chosen : (pass : ℕ → Bool) (ns : List ℕ) → are_distinct ns ≡ true → are_distinct (filter pass ns) ≡ true
single_chosen pass [] e = refl
single_chosen pass (n ∷ ns) e =
    let parts = and_parts (not (list_any (λ m. n == m) ns)) (are_distinct ns) e in
    go (pass n)
    (none_chosen (λ m. n == m) pass ns (not-true (list_any (λ m. n == m) ns) parts.0))
    (single_chosen pass ns parts.1)
  where
    go : (b : Bool) → list_any (λ m. n == m) (filter pass ns) ≡ false → are_distinct (filter pass ns) ≡ true → are_distinct (cond b (n ∷ filter pass ns) (filter pass ns)) ≡ true
    go true none h = rw (none, h) refl
    go false none h = h

-- ---- the rows of some items

-- it is enough to count them, and to look for each item's row
rows_by_count : (items : List ℕ) (rows : List Row) → are_distinct items ≡ true
    → (length rows == length items && list_all (has_row rows) items) ≡ are_rows_of items rows
rows_by_count items rows single =
    same_from_decides {P = are_rows_of items rows ≡ true} (length rows == length items && list_all (has_row rows) items) (are_rows_of items rows)
    (there, enough) (λ e. e, λ e. e)
  where
    there : (length rows == length items && list_all (has_row rows) items) ≡ true → are_rows_of items rows ≡ true
    there e =
        let parts = and_parts (length rows == length items) (list_all (has_row rows) items) e in
        let same : length rows ≡ length items = (Decides-eqb (length rows) (length items)).0 parts.0 in
        let h = (counted items (items_of_rows rows) single (sym (have_rows rows items) ∙ parts.1)).1 (count_rows rows ∙ same) in
        and_from (has_single_rows rows && list_all (is_among items) rows) (list_all (has_row rows) items)
        (and_from (has_single_rows rows) (list_all (is_among items) rows) (single_rows rows ∙ h.0) (all_rows (among items) rows ∙ h.1))
        parts.1

    enough : are_rows_of items rows ≡ true → (length rows == length items && list_all (has_row rows) items) ≡ true
    enough e =
        let parts = and_parts (has_single_rows rows && list_all (is_among items) rows) (list_all (has_row rows) items) e in
        let more = and_parts (has_single_rows rows) (list_all (is_among items) rows) parts.0 in
        let below : length items ≤ length (items_of_rows rows) = (counted items (items_of_rows rows) single (sym (have_rows rows items) ∙ parts.1)).0 in
        let above : length (items_of_rows rows) ≤ length items = (counted (items_of_rows rows) items (sym (single_rows rows) ∙ more.0) (sym (all_rows (among items) rows) ∙ more.1)).0 in
        let many : length (items_of_rows rows) ≡ length rows = count_rows rows in
        let same : length rows ≡ length items = omega arith in
        and_from (length rows == length items) (list_all (has_row rows) items) ((Decides-eqb (length rows) (length items)).1 same) parts.1

pub rows_counted : (number parts : ℕ) (items : List ℕ) (rows : List Row) → are_distinct items ≡ true
    → (length rows == length (placed_at number parts items) && list_all (has_row rows) (placed_at number parts items))
    ≡ are_rows_of (placed_at number parts items) rows
rows_counted number parts items rows single =
    rows_by_count (placed_at number parts items) rows (single_chosen (is_placed number parts) items single)

-- ---- the writes of a Prepare that can be followed

-- the items that rows give a value are those that have a row
pub has_value : (rows : List Row) (item : ℕ) → is_some (value_in rows item) ≡ has_row rows item
has_value [] item = refl
has_value (row ∷ rows) item = go (row.0 == item) (has_value rows item)
  where
    go : (b : Bool) → is_some (value_in rows item) ≡ has_row rows item → is_some (if b then Some row.1 else value_in rows item) ≡ b || has_row rows item
    go true h = refl
    go false h = h

-- a test that all of a list pass is passed by each of them
all_at : (p : ℕ → Bool) (xs : List ℕ) (x : ℕ) → list_all p xs ≡ true → Contains xs x → p x ≡ true
all_at p xs x all in_it =
    let found = list_all-any p (λ y. y == x) xs all (any_from_contains xs x in_it) in
    subst (λ (y : ℕ). p y ≡ true) ((Decides-eqb found.0 x).0 found.2) found.1

own_rows : (number parts t : ℕ) (ws : List Row) (is : List ℕ) → is_proper number parts t ws is ≡ true → are_rows_of (placed_at number parts is) ws ≡ true
own_rows number parts t ws is e =
    (and_parts (are_rows_of (placed_at number parts is) ws) (list_all has_right_kind ws) (and_parts (not (t == 0) && are_items is) (are_own_writes number parts ws is) e).1).0

pub proper_placed : (number parts t : ℕ) (ws : List Row) (is : List ℕ) (item : ℕ) → is_proper number parts t ws is ≡ true
    → IsTrue (is_some (value_in ws item)) ↔ (Contains is item × (place_of parts item ≡ number))
proper_placed number parts t ws is item e = (there, back_again)
  where
    parts_of : (has_single_rows ws && list_all (is_among (placed_at number parts is)) ws ≡ true) × (list_all (has_row ws) (placed_at number parts is) ≡ true)
    parts_of = and_parts (has_single_rows ws && list_all (is_among (placed_at number parts is)) ws) (list_all (has_row ws) (placed_at number parts is)) (own_rows number parts t ws is e)

    there : IsTrue (is_some (value_in ws item)) → Contains is item × (place_of parts item ≡ number)
    there some =
        let row = list_all-any (is_among (placed_at number parts is)) (λ row. row.0 == item) ws (and_parts (has_single_rows ws) (list_all (is_among (placed_at number parts is)) ws) parts_of.0).1 (sym (has_value ws item) ∙ some) in
        let here : list_any (λ i. i == item) (placed_at number parts is) ≡ true = subst (λ (u : ℕ). list_any (λ i. i == u) (placed_at number parts is) ≡ true) ((Decides-eqb row.0.0 item).0 row.2) row.1 in
        let kept = kept_in (is_placed number parts) is item (contains_from_any (placed_at number parts is) item here) in
        (kept.1, (Decides-eqb (place_of parts item) number).0 kept.0)

    back_again : Contains is item × (place_of parts item ≡ number) → IsTrue (is_some (value_in ws item))
    back_again (one, at) =
        has_value ws item
        ∙ all_at (has_row ws) (placed_at number parts is) item parts_of.1 (kept_out (is_placed number parts) is item ((Decides-eqb (place_of parts item) number).1 at) one)

-- ---- in any order

all_is_none_not : (p : Row → Bool) (rows : List Row) → list_all p rows ≡ not (list_any (λ row. not (p row)) rows)
all_is_none_not p [] = refl
all_is_none_not p (row ∷ rows) = go (p row) (all_is_none_not p rows)
  where
    go : (b : Bool) → list_all p rows ≡ not (list_any (λ row. not (p row)) rows) → (b && list_all p rows) ≡ not (not b || list_any (λ row. not (p row)) rows)
    go true h = h
    go false h = refl

all_in_any_order : (p : Row → Bool) (ws vs : List Row) → IsPermutation ws vs → list_all p ws ≡ list_all p vs
all_in_any_order p ws vs moved =
    all_is_none_not p ws ∙ ap not (list_any-IsPermutation (λ row. not (p row)) ws vs moved) ∙ sym (all_is_none_not p vs)

have_in_any_order : (ws vs : List Row) (items : List ℕ) → IsPermutation ws vs → list_all (has_row ws) items ≡ list_all (has_row vs) items
have_in_any_order ws vs [] moved = refl
have_in_any_order ws vs (item ∷ items) moved =
    rw (list_any-IsPermutation (λ row. row.0 == item) ws vs moved, have_in_any_order ws vs items moved) refl

rows_in_any_order : (number parts : ℕ) (items : List ℕ) (ws vs : List Row) → are_distinct items ≡ true → IsPermutation ws vs
    → are_rows_of (placed_at number parts items) ws ≡ are_rows_of (placed_at number parts items) vs
rows_in_any_order number parts items ws vs single moved =
    sym (rows_counted number parts items ws single)
    ∙ rw (sym (length_permutation ws vs moved), have_in_any_order ws vs (placed_at number parts items) moved) refl
    ∙ rows_counted number parts items vs single

pub proper_in_any_order : (number parts t : ℕ) (ws vs : List Row) (is : List ℕ) → IsPermutation ws vs
    → is_proper number parts t ws is ≡ is_proper number parts t vs is
proper_in_any_order number parts t ws vs is moved = go (are_items is) refl
  where
    own : are_items is ≡ true → are_own_writes number parts ws is ≡ are_own_writes number parts vs is
    own e =
        let single = (and_parts (not (length is == 0) && nat_le (length is) MAX_TRANSACTION_ITEMS) (are_distinct is) e).1 in
        rw (rows_in_any_order number parts is ws vs single moved, all_in_any_order has_right_kind ws vs moved) refl

    go : (b : Bool) → are_items is ≡ b → is_proper number parts t ws is ≡ is_proper number parts t vs is
    go true e = rw (own e) refl
    go false e = rw e (none (not (t == 0)) (are_own_writes number parts ws is) (are_own_writes number parts vs is))
      where
        none : (a b c : Bool) → (a && false && b) ≡ (a && false && c)
        none true b c = refl
        none false b c = refl
