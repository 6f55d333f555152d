-- Rows whose keys differ, and differ from those that were marked before. For the passes of `pairs`, whose steps are
-- `first_new`, `first_met` and `first_plain`.
use Rattle.std.proofs.Common.{◌≡◌, ◌==◌, ◌&&◌, ◌||◌, ◌<◌, ◌≤◌, ◌≢◌, ◌+◌, ◌/◌, ℕ, zero, suc, List, [], ◌∷◌, length, get_or, set, drop, replicate, Bool, true, false, not, Option, Some, None, Decides, refl, sym, ap, ◌∙◌, arith, add-one, drop-cons}
use Rattle.std.specs.List.{list_all, list_any}
use Rattle.std.specs.Option.{option_map, option_map_or}
use Rattle.std.proofs.Math.Bool.{and-true, and-false}
use Rattle.std.proofs.lemmas.List.{get_or-set_same, get_or-set_other}
use Rattle.std.proofs.lemmas.List.Folds.{list_all_at}
use Rattle.std.proofs.lemmas.Bool.{and_parts, leb-true}
use Rattle.std.proofs.lemmas.Bool.Decides.{Decides-eqb, same_from_decides}
use Rattle.album_stamps.specs.Distinct.{no_two}
use Rattle.album_items.specs.Values.{head_of}
use Rattle.album_items.specs.ItemIds.{number_of}
use Rattle.album_items.specs.Openings.{Row, has_own_value, is_low, are_low, has_low_numbers, is_low_row, has_few_children, has_single_children, is_right_row, same_item, same_list}
use Rattle.album_items.specs.declared.values.Head.{Head}
use Rattle.album_items.specs.declared.values.Value.{Value}
use Rattle.album_items.specs.declared.values.Value.TheVariants as value

-- the key is there, and is this one
abbrev pub is_key : ℕ → Option ℕ → Bool
is_key k key = option_map_or (λ j. j == k) key false

-- the key, if it is there, isn't marked
abbrev pub is_unmet : List Bool → Option ℕ → Bool
is_unmet marks key = option_map_or (λ k. not (get_or marks k false)) key true

-- the keys differ, and none is marked
abbrev pub are_new : {X : Type 0} → (X → Option ℕ) → (X → X → Bool) → List Bool → List X → Bool
are_new key clash marks xs = list_all (λ x. is_unmet marks (key x)) xs && no_two clash xs

-- a key is unmet once another is marked where it was before, and is another
unmet-set : (marks : List Bool) (k : ℕ) → k < length marks → (key : Option ℕ) → is_unmet (set marks k true) key ≡ (is_unmet marks key && not (is_key k key))
unmet-set marks k below None = refl
unmet-set marks k below (Some j) = go (j == k) refl
  where
    go : (b : Bool) → (j == k) ≡ b → not (get_or (set marks k true) j false) ≡ (not (get_or marks j false) && not b)
    go true e =
        let same : j ≡ k = (Decides-eqb j k).0 e in
        rw (same, get_or-set_same marks k true false below) (sym (and-false (not (get_or marks k false))))
    go false e =
        let other : j ≢ k = λ s. let yes' = (Decides-eqb j k).1 s in absurd (cc) in
        rw (get_or-set_other marks k j true false other) (sym (and-true (not (get_or marks j false))))

-- so are they all
all_unmet-set : {X : Type 0} (key : X → Option ℕ) (clash : X → X → Bool) (marks : List Bool) (k : ℕ) (x : X)
    → k < length marks
    → ((y : X) → clash x y ≡ is_key k (key y))
    → (xs : List X)
    → list_all (λ y. is_unmet (set marks k true) (key y)) xs ≡ (list_all (λ y. is_unmet marks (key y)) xs && not (list_any (clash x) xs))
all_unmet-set key clash marks k x below tells [] = refl
all_unmet-set key clash marks k x below tells (y ∷ ys) =
    rw (unmet-set marks k below (key y), all_unmet-set key clash marks k x below tells ys, tells y)
    (go (is_unmet marks (key y)) (is_key k (key y)) (list_all (λ z. is_unmet marks (key z)) ys) (list_any (clash x) ys))
  where
    go : (a b c d : Bool) → (a && not b && (c && not d)) ≡ (a && c && not (b || d))
    go true true true d = refl
    go true true false d = refl
    go true false c d = refl
    go false b c d = refl

-- the first is unmet, and its key is marked
pub first_new : {X : Type 0} (key : X → Option ℕ) (clash : X → X → Bool) (marks : List Bool) (k : ℕ) (x : X) (xs : List X)
    → k < length marks
    → key x ≡ Some k
    → get_or marks k false ≡ false
    → ((y : X) → clash x y ≡ is_key k (key y))
    → are_new key clash marks (x ∷ xs) ≡ are_new key clash (set marks k true) xs
first_new key clash marks k x xs below is unmarked tells =
    rw (all_unmet-set key clash marks k x below tells xs, is, unmarked)
    (go (list_all (λ y. is_unmet marks (key y)) xs) (list_any (clash x) xs) (no_two clash xs))
  where
    go : (a b c : Bool) → (a && (not b && c)) ≡ (a && not b && c)
    go true b c = refl
    go false b c = refl

-- the first is marked already
pub first_met : {X : Type 0} (key : X → Option ℕ) (clash : X → X → Bool) (marks : List Bool) (k : ℕ) (x : X) (xs : List X)
    → key x ≡ Some k
    → get_or marks k false ≡ true
    → are_new key clash marks (x ∷ xs) ≡ false
first_met key clash marks k x xs is marked = rw (is, marked) refl

-- what is met first is new
pub clear : (n k : ℕ) → get_or (replicate n false) k false ≡ false
clear zero k = refl
clear (suc n) zero = refl
clear (suc n) (suc k) = clear n k

pub all_new : {X : Type 0} (key : X → Option ℕ) (clash : X → X → Bool) (n : ℕ) (xs : List X) → are_new key clash (replicate n false) xs ≡ no_two clash xs
all_new {X} key clash n xs = rw (unmet xs) refl
  where
    none : (o : Option ℕ) → is_unmet (replicate n false) o ≡ true
    none None = refl
    none (Some k) = rw (clear n k) refl

    unmet : (ys : List X) → list_all (λ x. is_unmet (replicate n false) (key x)) ys ≡ true
    unmet [] = refl
    unmet (y ∷ ys) = rw (none (key y), unmet ys) refl

-- ---- the passes over rows

-- the key of a row's item, and the number of the list that the row's head names
abbrev pub item_key : Row → Option ℕ
item_key row = Some row.0

abbrev pub list_key : Row → Option ℕ
list_key row = option_map (λ head. head.list) (head_of row.1)

-- a row of right rows is right
pub right_at : (rows : List Row) (i : ℕ) (row : Row) → list_all is_right_row rows ≡ true → i < length rows → row ≡ get_or rows i row → is_right_row row ≡ true
right_at rows i row right below is = go (is_right_row row) refl
  where
    go : (b : Bool) → is_right_row row ≡ b → b ≡ true
    go true e = refl
    go false e = let wrong = list_all_at is_right_row rows i row below (ap is_right_row (sym is) ∙ e) in absurd (cc)

-- so it has a value of its item's kind, and its numbers are low
pub right_parts : (row : Row) → is_right_row row ≡ true → (has_own_value row ≡ true) × (is_low_row 65535 row ≡ true)
right_parts row right =
    let few = and_parts (has_own_value row && is_low_row 65535 row && has_few_children row) (has_single_children row) right in
    let low = and_parts (has_own_value row && is_low_row 65535 row) (has_few_children row) few.0 in
    and_parts (has_own_value row) (is_low_row 65535 row) low.0

low_number : (row : Row) → is_right_row row ≡ true → number_of row.0 ≤ 65535
low_number row right = leb-true (number_of row.0) 65535 (and_parts (is_low 65535 (number_of row.0)) (has_low_numbers 65535 row.1) (right_parts row right).1).0

pub low_list : (row : Row) (k : ℕ) → is_right_row row ≡ true → list_key row ≡ Some k → k < 65536
low_list row k right = go row.1 (and_parts (is_low 65535 (number_of row.0)) (has_low_numbers 65535 row.1) (right_parts row right).1).1
  where
    at : (n : ℕ) → is_low 65535 n ≡ true → Some n ≡ Some k → k < 65536
    at n is e = let same : n ≡ k = cc in let small = leb-true n 65535 is in omega (arith, same, small)

    go : (v : Value) → has_low_numbers 65535 v ≡ true → option_map (λ head. head.list) (head_of v) ≡ Some k → k < 65536
    go value.Missing is e = absurd (cc)
    go (value.Picture p) is e = at p.head.list (and_parts (is_low 65535 p.head.list) (is_low 65535 p.home) is).0 e
    go (value.Album a) is e =
        let numbers = and_parts (is_low 65535 a.head.list && option_map_or (is_low 65535) a.home true) (are_low 65535 a.children) is in
        at a.head.list (and_parts (is_low 65535 a.head.list) (option_map_or (is_low 65535) a.home true) numbers.0).0 e
    go (value.List l) is e = absurd (cc)
    go (value.Group g) is e = at g.head.list is e

-- the row at an index, and those after it
pub row_from : (rows : List Row) (i : ℕ) (row : Row) → i < length rows → row ≡ get_or rows i row → drop i rows ≡ row ∷ drop (i + 1) rows
row_from rows i row below is = drop-cons rows i row below ∙ rw (add-one) (ap (λ x. x ∷ drop (suc i) rows) (sym is))

-- `==` is symmetric
pub same_back : (k q : ℕ) → (q == k) ≡ (k == q)
same_back k q = same_from_decides (q == k) (k == q) (Decides-eqb q k) back
  where
    back : Decides (k == q) (q ≡ k)
    back = (λ e. sym ((Decides-eqb k q).0 e), λ e. (Decides-eqb k q).1 (sym e))

pub item_tells : (x y : Row) → same_item x y ≡ is_key x.0 (item_key y)
item_tells x y = same_back y.0 x.0

pub item_new : (marks : List Bool) (rows : List Row) (i : ℕ) (row : Row)
    → list_all is_right_row rows ≡ true
    → i < length rows
    → row ≡ get_or rows i row
    → length marks ≡ 262144
    → get_or marks row.0 false ≡ false
    → are_new item_key same_item (set marks row.0 true) (drop (i + 1) rows) ≡ are_new item_key same_item marks (drop i rows)
item_new marks rows i row right below is long unmarked =
    let low : row.0 / 4 ≤ 65535 = low_number row (right_at rows i row right below is) in
    let within : row.0 < length marks = omega (arith, low, long) in
    rw (row_from rows i row below is) (sym (first_new item_key same_item marks row.0 row (drop (i + 1) rows) within refl unmarked (item_tells row)))

pub item_met : (marks : List Bool) (rows : List Row) (i : ℕ) (row : Row)
    → i < length rows
    → row ≡ get_or rows i row
    → get_or marks row.0 false ≡ true
    → are_new item_key same_item marks (drop i rows) ≡ false
item_met marks rows i row below is marked =
    rw (row_from rows i row below is) (first_met item_key same_item marks row.0 row (drop (i + 1) rows) refl marked)

list_tells : (x y : Row) (k : ℕ) → list_key x ≡ Some k → same_list x y ≡ is_key k (list_key y)
list_tells x y k = go (head_of x.1) (head_of y.1)
  where
    go : (a b : Option Head) → option_map (λ head. head.list) a ≡ Some k
        → option_map_or (λ h. option_map_or (λ head. head.list == h.list) b false) a false ≡ is_key k (option_map (λ head. head.list) b)
    go None b e = absurd (cc)
    go (Some h) None e = refl
    go (Some h) (Some g) e = let same : h.list ≡ k = cc in rw same refl

list_apart : (x y : Row) → list_key x ≡ None → same_list x y ≡ false
list_apart x y = go (head_of x.1)
  where
    go : (a : Option Head) → option_map (λ head. head.list) a ≡ None
        → option_map_or (λ h. option_map_or (λ head. head.list == h.list) (head_of y.1) false) a false ≡ false
    go None e = refl
    go (Some h) e = absurd (cc)

-- the first has no key
first_none : {X : Type 0} (key : X → Option ℕ) (clash : X → X → Bool) (marks : List Bool) (x : X) (xs : List X)
    → key x ≡ None
    → ((y : X) → clash x y ≡ false)
    → are_new key clash marks (x ∷ xs) ≡ are_new key clash marks xs
first_none {X} key clash marks x xs is apart = rw (is, never xs) refl
  where
    never : (ys : List X) → list_any (clash x) ys ≡ false
    never [] = refl
    never (y ∷ ys) = rw (apart y, never ys) refl

pub list_new : (marks : List Bool) (rows : List Row) (i : ℕ) (row : Row) (k : ℕ)
    → list_all is_right_row rows ≡ true
    → i < length rows
    → row ≡ get_or rows i row
    → length marks ≡ 65536
    → list_key row ≡ Some k
    → get_or marks k false ≡ false
    → are_new list_key same_list (set marks k true) (drop (i + 1) rows) ≡ are_new list_key same_list marks (drop i rows)
list_new marks rows i row k right below is long named unmarked =
    let low = low_list row k (right_at rows i row right below is) named in
    let within : k < length marks = omega (arith, low, long) in
    rw (row_from rows i row below is) (sym (first_new list_key same_list marks k row (drop (i + 1) rows) within named unmarked (λ y. list_tells row y k named)))

pub list_met : (marks : List Bool) (rows : List Row) (i : ℕ) (row : Row) (k : ℕ)
    → i < length rows
    → row ≡ get_or rows i row
    → list_key row ≡ Some k
    → get_or marks k false ≡ true
    → are_new list_key same_list marks (drop i rows) ≡ false
list_met marks rows i row k below is named marked =
    rw (row_from rows i row below is) (first_met list_key same_list marks k row (drop (i + 1) rows) named marked)

pub list_none : (marks : List Bool) (rows : List Row) (i : ℕ) (row : Row)
    → i < length rows
    → row ≡ get_or rows i row
    → list_key row ≡ None
    → are_new list_key same_list marks (drop (i + 1) rows) ≡ are_new list_key same_list marks (drop i rows)
list_none marks rows i row below is named =
    rw (row_from rows i row below is) (sym (first_none list_key same_list marks row (drop (i + 1) rows) named (λ y. list_apart row y named)))
