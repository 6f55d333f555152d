-- What partitions may open on: `opening_is_base` is for the law of `openings`, as `root_by_policy`. Of rows that rise
-- no item has two (`rising_single`), and a row that is below the next one is below all (`rises_at`).
use Rattle.std.proofs.Common.{◌≡◌, ◌==◌, ◌&&◌, ◌||◌, ◌<◌, ℕ, List, [], ◌∷◌, length, slice_index_or, nat_le, nat_lt, Bool, true, false, not, Some, refl, sym, ap, ◌∙◌, subst, arith, if◌then◌else◌, eqb-true}
use Rattle.std.specs.List.{list_all, list_any}
use Rattle.std.proofs.lemmas.Bool.{and_parts, and_from, leb-true, leb-false}
use Rattle.album_stamps.specs.Distinct.{no_two}
use Rattle.album_items.specs.FirstStamps.{are_early}
use Rattle.album_items.specs.Openings.{Row, has_own_value, is_low_row, has_few_children, has_single_children, is_right_row, has_counts, has_root, has_few_items, has_single_rows, has_own_lists, has_fit_lists, are_first_rows, is_not_above, are_rising, are_later_rows, greatest_number, is_opening, is_base_opening, same_item}
use Rattle.album_items.specs.declared.openings.Opening.{Opening}

-- ---- rows that rise

-- numbers differ where one is above the other
differ : (a b : ℕ) → nat_le b a ≡ false → (a == b) ≡ false
differ a b above = go (a == b) refl
  where
    go : (t : Bool) → (a == b) ≡ t → t ≡ false
    go false e = refl
    go true e = absurd (let same : a ≡ b = eqb-true a b e in let more : a < b = leb-false b a above in omega (arith, same, more))

pub rising_single : (rows : List Row) → are_rising rows ≡ true → has_single_rows rows ≡ true
rising_single [] h = refl
rising_single (row ∷ rows) h =
    let both = and_parts (not (list_any (is_not_above row) rows)) (no_two is_not_above rows) h in
    and_from (not (list_any (same_item row) rows)) (no_two same_item rows) (apart rows both.0) (rising_single rows both.1)
  where
    apart : (xs : List Row) → not (list_any (is_not_above row) xs) ≡ true → not (list_any (same_item row) xs) ≡ true
    apart [] e = refl
    apart (x ∷ xs) e = go (nat_le x.0 row.0) refl e (apart xs)
      where
        go : (t : Bool) → nat_le x.0 row.0 ≡ t → not (t || list_any (is_not_above row) xs) ≡ true
            → (not (list_any (is_not_above row) xs) ≡ true → not (list_any (same_item row) xs) ≡ true)
            → not ((row.0 == x.0) || list_any (same_item row) xs) ≡ true
        go true f g rest = absurd (cc (g))
        go false f g rest = ap (λ t. not (t || list_any (same_item row) xs)) (differ row.0 x.0 f) ∙ rest g

-- what is below the first of rows that rise is below all
below_all : (row next : Row) (rest : List Row) → row.0 < next.0 → not (list_any (is_not_above next) rest) ≡ true
    → not (list_any (is_not_above row) (next ∷ rest)) ≡ true
below_all row next rest less above = ap (λ t. not (t || list_any (is_not_above row) rest)) (over next.0 less) ∙ all rest above
  where
    over : (n : ℕ) → row.0 < n → nat_le n row.0 ≡ false
    over n l = go (nat_le n row.0) refl
      where
        go : (t : Bool) → nat_le n row.0 ≡ t → t ≡ false
        go false e = refl
        go true e = absurd (let most = leb-true n row.0 e in omega (arith, most, l))

    all : (xs : List Row) → not (list_any (is_not_above next) xs) ≡ true → not (list_any (is_not_above row) xs) ≡ true
    all [] e = refl
    all (x ∷ xs) e = go (nat_le x.0 next.0) refl e (all xs)
      where
        go : (t : Bool) → nat_le x.0 next.0 ≡ t → not (t || list_any (is_not_above next) xs) ≡ true
            → (not (list_any (is_not_above next) xs) ≡ true → not (list_any (is_not_above row) xs) ≡ true)
            → not (nat_le x.0 row.0 || list_any (is_not_above row) xs) ≡ true
        go true f g rest = absurd (cc (g))
        go false f g rest =
            let more : next.0 < x.0 = leb-false x.0 next.0 f in
            ap (λ t. not (t || list_any (is_not_above row) xs)) (over x.0 (omega (arith, more, less))) ∙ rest g

rises_before : (row next : Row) (rest : List Row)
    → are_rising (row ∷ next ∷ rest) ≡ (nat_lt row.0 next.0 && are_rising (next ∷ rest))
rises_before row next rest = go (nat_le next.0 row.0) refl (not (list_any (is_not_above next) rest)) refl
  where
    less : (t : Bool) → nat_le next.0 row.0 ≡ t → nat_lt row.0 next.0 ≡ not t
    less t e = grind (arith, e)

    go : (t : Bool) → nat_le next.0 row.0 ≡ t → (u : Bool) → not (list_any (is_not_above next) rest) ≡ u
        → are_rising (row ∷ next ∷ rest) ≡ (nat_lt row.0 next.0 && are_rising (next ∷ rest))
    go true e u f = ap (λ x. not (x || list_any (is_not_above row) rest) && (not (list_any (is_not_above next) rest) && no_two is_not_above rest)) e
        ∙ sym (ap (λ x. x && (not (list_any (is_not_above next) rest) && no_two is_not_above rest)) (less true e))
    go false e true f =
        ap (λ x. x && (not (list_any (is_not_above next) rest) && no_two is_not_above rest)) (below_all row next rest (leb-false next.0 row.0 e) f)
        ∙ sym (ap (λ x. x && (not (list_any (is_not_above next) rest) && no_two is_not_above rest)) (less false e))
    go false e false f =
        ap (λ x. not (list_any (is_not_above row) (next ∷ rest)) && (x && no_two is_not_above rest)) f
        ∙ (none (not (list_any (is_not_above row) (next ∷ rest)))
        ∙ sym (ap (λ x. nat_lt row.0 next.0 && (x && no_two is_not_above rest)) f ∙ none (nat_lt row.0 next.0)))
      where
        none : (x : Bool) → (x && false) ≡ false
        none true = refl
        none false = refl

-- where the first of these rows is the next one
pub rises_at : (row next : Row) (others : List Row) → 0 < length others → next ≡ slice_index_or others 0 next
    → are_rising (row ∷ others) ≡ (nat_lt row.0 next.0 && are_rising others)
rises_at row next [] some is = absurd (omega arith)
rises_at row next (x ∷ xs) some is =
    subst (λ (n : Row). are_rising (row ∷ x ∷ xs) ≡ (nat_lt row.0 n.0 && are_rising (x ∷ xs))) (sym is) (rises_before row x xs)

-- ---- an opening

-- rows that are right have values of their kinds, and low numbers
own_values : (rows : List Row) → list_all is_right_row rows ≡ true → list_all has_own_value rows ≡ true
own_values [] h = refl
own_values (row ∷ rows) h =
    let right = and_parts (is_right_row row) (list_all is_right_row rows) h in
    and_from (has_own_value row) (list_all has_own_value rows) (parts row right.0).0 (own_values rows right.1)
  where
    parts : (row : Row) → is_right_row row ≡ true → (has_own_value row ≡ true) × (is_low_row 65535 row ≡ true)
    parts row right =
        let few = and_parts (has_own_value row && is_low_row 65535 row && has_few_children row) (has_single_children row) right in
        let low = and_parts (has_own_value row && is_low_row 65535 row) (has_few_children row) few.0 in
        and_parts (has_own_value row) (is_low_row 65535 row) low.0

low_rows : (rows : List Row) → list_all is_right_row rows ≡ true → list_all (is_low_row 65535) rows ≡ true
low_rows [] h = refl
low_rows (row ∷ rows) h =
    let right = and_parts (is_right_row row) (list_all is_right_row rows) h in
    and_from (is_low_row 65535 row) (list_all (is_low_row 65535) rows) (own row right.0) (low_rows rows right.1)
  where
    own : (row : Row) → is_right_row row ≡ true → is_low_row 65535 row ≡ true
    own row right =
        let few = and_parts (has_own_value row && is_low_row 65535 row && has_few_children row) (has_single_children row) right in
        let low = and_parts (has_own_value row && is_low_row 65535 row) (has_few_children row) few.0 in
        (and_parts (has_own_value row) (is_low_row 65535 row) low.0).1

pub opening_is_base : (o : Opening) → is_opening o ≡ true → is_base_opening o ≡ true
opening_is_base o is =
    let rows = and_parts (has_counts o && has_root o.policy o.root && (if o.first == 0 then are_first_rows o.items else are_later_rows o.first o.items))
    (are_early (greatest_number o.first) o.stamps) is in
    let both = and_parts (has_counts o && has_root o.policy o.root) (if o.first == 0 then are_first_rows o.items else are_later_rows o.first o.items) rows.0 in
    let counts = and_parts (has_counts o) (has_root o.policy o.root) both.0 in
    and_from (has_counts o) (has_single_rows o.items && list_all has_own_value o.items && list_all (is_low_row (greatest_number o.first)) o.items) counts.0
    (go (o.first == 0) refl both.1)
  where
    go : (t : Bool) → (o.first == 0) ≡ t → (if t then are_first_rows o.items else are_later_rows o.first o.items) ≡ true
        → (has_single_rows o.items && list_all has_own_value o.items && list_all (is_low_row (greatest_number o.first)) o.items) ≡ true
    go true e h =
        let zero' : o.first ≡ 0 = eqb-true o.first 0 e in
        let parts = and_parts (has_few_items o.items && list_all is_right_row o.items) (has_single_rows o.items && has_own_lists o.items && has_fit_lists o.items) h in
        let rows = (and_parts (has_few_items o.items) (list_all is_right_row o.items) parts.0).1 in
        let single = (and_parts (has_single_rows o.items) (has_own_lists o.items) (and_parts (has_single_rows o.items && has_own_lists o.items) (has_fit_lists o.items) parts.1).0).0 in
        and_from (has_single_rows o.items && list_all has_own_value o.items) (list_all (is_low_row (greatest_number o.first)) o.items)
        (and_from (has_single_rows o.items) (list_all has_own_value o.items) single (own_values o.items rows))
        (subst (λ first. list_all (is_low_row (greatest_number first)) o.items ≡ true) (sym zero') (low_rows o.items rows))
    go false e h =
        let parts = and_parts (are_rising o.items && list_all has_own_value o.items) (list_all (is_low_row (greatest_number o.first)) o.items) h in
        let first = and_parts (are_rising o.items) (list_all has_own_value o.items) parts.0 in
        and_from (has_single_rows o.items && list_all has_own_value o.items) (list_all (is_low_row (greatest_number o.first)) o.items)
        (and_from (has_single_rows o.items) (list_all has_own_value o.items) (rising_single o.items first.0) first.1) parts.1

-- a root is named by policy 3 alone
pub root_by_policy : (o : Opening) (root : List ℕ) → is_opening o ≡ true → o.root ≡ Some root → o.policy ≡ 3
root_by_policy o root is named =
    let rows = and_parts (has_counts o && has_root o.policy o.root && (if o.first == 0 then are_first_rows o.items else are_later_rows o.first o.items))
    (are_early (greatest_number o.first) o.stamps) is in
    let both = and_parts (has_counts o && has_root o.policy o.root) (if o.first == 0 then are_first_rows o.items else are_later_rows o.first o.items) rows.0 in
    let right = and_parts (has_counts o) (has_root o.policy o.root) both.0 in
    eqb-true o.policy 3 (subst (λ r. has_root o.policy r ≡ true) named right.1)
