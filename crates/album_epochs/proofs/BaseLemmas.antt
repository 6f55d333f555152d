-- The rows of the next opening are a base again, and are determined. The law `an_epoch_opens_on_a_base` cites these.
use Rattle.std.proofs.Common.{◌≡◌, ◌≢◌, ℕ, ◌<◌, ◌≤◌, Bool, true, false, ◌==◌, ◌&&◌, ◌||◌, not, cond, List, [], ◌∷◌, get_or, Contains, Some, None, Option, if◌then◌else◌, refl, ap, sym, ◌∙◌, subst, ⊎_elim, arith, eq-eqb, ne_eqb}
use Rattle.std.specs.List.{list_all, list_any, AllByRecursion}
use Rattle.std.specs.List.Sorted.{IsStrictlySortedBy}
use Rattle.std.specs.Option.{unwrap_or}
use Rattle.std.specs.Ordering.{nat_cmp, MatchOrdering}
use Rattle.std.specs.declared.cmp.Ordering.{Ordering}
use Rattle.std.specs.declared.cmp.Ordering.TheVariants.{Less}
use Rattle.std.specs.Cmp.{ranks}
use Rattle.std.proofs.lemmas.Bool.{and_parts, and_from, cases_lt}
use Rattle.std.proofs.lemmas.Bool.Decides.{Decides-eqb}
use Rattle.std.proofs.lemmas.Cmp.{nat_cmp_total, eq_by_cmp_equiv}
use Rattle.std.proofs.lemmas.List.Elements.{All-contains_itself}
use Rattle.std.proofs.lemmas.List.Sums.{list_all-from_AllPass}
use Rattle.std.proofs.lemmas.Map.Keys.{sorted_head, sorted_tail, IsDistinct-from_sorted}
use Rattle.std.proofs.lemmas.Map.Views.{lookup-from_Contains}
use native.Mathlib.Decide.{ℕ_discrete}
use mathlib.Core.Logic.{dite}
use Rattle.album_stamps.specs.Distinct.{no_two}
use Rattle.album_items.specs.ItemIds.{kind_of, place_of}
use Rattle.album_items.specs.Openings.{Row, has_own_value, has_single_rows, same_item}
use Rattle.album_items.specs.Places.{placed_at}
use Rattle.album_items.specs.Transactions.{items_written, are_items, has_right_kind}
use Rattle.album_items.specs.Values.{is_there, is_of}
use Rattle.album_items.specs.declared.values.Value.{Value}
use Rattle.album_items.specs.declared.values.Value.TheVariants as value
use Rattle.album_partition.specs.declared.marks.Mark.TheVariants.{Prepared}
use Rattle.album_partition.specs.Marks.{value_in, first_value}
use Rattle.album_partition.specs.Proper.{are_rows_of, are_own_writes, is_proper, is_proper_mark, are_proper_marks}
use Rattle.album_partition.proofs.ListLemmas.{list_all-contains}
use Rattle.album_passes.specs.Cuts.{Cut, prefix_at, prefix_for}
use Rattle.album_passes.specs.Reads.{written_value}
use Rattle.album_passes.proofs.ReadLemmas.{version_parts, version_prepared}
use Rattle.album_epochs.specs.Carried.{carried_stamp, carried_value, AreNextRows}
use Rattle.album_epochs.proofs.EpochLemmas.{there, at_carried}
use Rattle.album_epochs.proofs.RowLemmas.{by_key}

-- ---- rows that rise

-- the item is below those of the rows
abbrev IsBelow : ℕ → List Row → Type 0
IsBelow k rows = AllByRecursion (λ j. k < j) (items_written rows)

below_from : (k j : ℕ) → nat_cmp k j ≡ Less → k < j
below_from k j e = subst (λ (r : Ordering). MatchOrdering r (k < j) (k ≡ j) (j < k)) e (ranks k j)

all_below : (k : ℕ) (rows : List Row) → AllByRecursion (λ j. nat_cmp k j ≡ Less) (items_written rows) → IsBelow k rows
all_below k [] h = h
all_below k (row ∷ rows) h = (below_from k row.0 h.0, all_below k rows h.1)

head_below : (row : Row) (rows : List Row) → IsStrictlySortedBy nat_cmp (items_written (row ∷ rows)) → IsBelow row.0 rows
head_below row rows h = all_below row.0 rows (sorted_head nat_cmp row.0 (items_written rows) h)

tail_rises : (row : Row) (rows : List Row) → IsStrictlySortedBy nat_cmp (items_written (row ∷ rows)) → IsStrictlySortedBy nat_cmp (items_written rows)
tail_rises row rows h = sorted_tail nat_cmp row.0 (items_written rows) h

none_of : (k : ℕ) (rows : List Row) → IsBelow k rows → value_in rows k ≡ None
none_of k [] h = refl
none_of k (row ∷ rows) h =
    let less : k < row.0 = h.0 in
    ap (λ (b : Bool). cond b (Some row.1) (value_in rows k)) (ne_eqb row.0 k (λ e. absurd (omega (arith, less, e)))) ∙ none_of k rows h.1

none_same : (row : Row) (rows : List Row) → IsBelow row.0 rows → list_any (same_item row) rows ≡ false
none_same row [] h = refl
none_same row (r ∷ rows) h =
    let less : row.0 < r.0 = h.0 in
    ap (λ (b : Bool). b || list_any (same_item row) rows) (ne_eqb row.0 r.0 (λ e. absurd (omega (arith, less, e)))) ∙ none_same row rows h.1

pub single_rows : (rows : List Row) → IsStrictlySortedBy nat_cmp (items_written rows) → has_single_rows rows ≡ true
single_rows [] h = refl
single_rows (row ∷ rows) h =
    and_from (not (list_any (same_item row) rows)) (no_two same_item rows) (ap not (none_same row rows (head_below row rows h))) (single_rows rows (tail_rises row rows h))

-- ---- one list

first_is : (row : Row) (rows : List Row) → value_in (row ∷ rows) row.0 ≡ Some row.1
first_is row rows = ap (λ (b : Bool). cond b (Some row.1) (value_in rows row.0)) (eq-eqb row.0 row.0 refl)

later_is : (row : Row) (rows : List Row) (q : ℕ) → row.0 ≢ q → value_in (row ∷ rows) q ≡ value_in rows q
later_is row rows q n = ap (λ (b : Bool). cond b (Some row.1) (value_in rows q)) (ne_eqb row.0 q n)

none_below : (k : ℕ) (row : Row) (rows : List Row) → k < row.0 → IsBelow row.0 rows → value_in (row ∷ rows) k ≡ None
none_below k row rows l h = later_is row rows k (λ e. absurd (omega (arith, l, e))) ∙ go rows h
  where
    go : (rs : List Row) → IsBelow row.0 rs → value_in rs k ≡ None
    go [] b = refl
    go (r ∷ rs) b =
        let less : row.0 < r.0 = b.0 in
        later_is r rs k (λ e. absurd (omega (arith, l, less, e))) ∙ go rs b.1

not_none : (v : Value) (o : Option Value) {R : Type 0} → o ≡ Some v → o ≡ None → R
not_none v o e f = absurd (cc (e, f))

abbrev row_of : ℕ → Value → Row
row_of n v = (n, v)

pub one_list : (xs ys : List Row) → IsStrictlySortedBy nat_cmp (items_written xs) → IsStrictlySortedBy nat_cmp (items_written ys)
    → ((q : ℕ) → value_in xs q ≡ value_in ys q) → xs ≡ ys
one_list [] [] g h same = refl
one_list [] (y ∷ ys) g h same = not_none y.1 (value_in (y ∷ ys) y.0) (first_is y ys) (sym (same y.0))
one_list (x ∷ xs) [] g h same = not_none x.1 (value_in (x ∷ xs) x.0) (first_is x xs) (same x.0)
one_list (x ∷ xs) (y ∷ ys) g h same = ⊎_elim
    (λ (l : x.0 < y.0). not_none x.1 (value_in (x ∷ xs) x.0) (first_is x xs) (same x.0 ∙ none_below x.0 y ys l (head_below y ys h)))
    (λ (l : y.0 ≤ x.0). dite (ℕ_discrete x.0 y.0)
    (λ (e : x.0 ≡ y.0). go e (one_list xs ys (tail_rises x xs g) (tail_rises y ys h)))
    (λ (n : x.0 ≢ y.0).
    let less : y.0 < x.0 = omega (arith, n) in
    not_none y.1 (value_in (y ∷ ys) y.0) (first_is y ys) (sym (same y.0) ∙ none_below y.0 x xs less (head_below x xs g))))
    (cases_lt x.0 y.0)
  where
    pair : (a b : ℕ) (v w : Value) → a ≡ b → v ≡ w → row_of a v ≡ row_of b w
    pair a b v w e f = ap (λ (n : ℕ). row_of n v) e ∙ ap (row_of b) f

    go : x.0 ≡ y.0 → (((q : ℕ) → value_in xs q ≡ value_in ys q) → xs ≡ ys) → x ∷ xs ≡ y ∷ ys
    go e rest =
        let values : Some x.1 ≡ Some y.1 = sym (first_is x xs) ∙ (same x.0 ∙ (ap (λ (q : ℕ). value_in (y ∷ ys) q) e ∙ first_is y ys)) in
        let heads : x ≡ y = pair x.0 y.0 x.1 y.1 e (cc (values)) in
        let tails : xs ≡ ys = rest (λ q. dite (ℕ_discrete x.0 q)
        (λ (at : x.0 ≡ q). subst (λ (k : ℕ). value_in xs k ≡ value_in ys k) at
        (none_of x.0 xs (head_below x xs g) ∙ sym (subst (λ (k : ℕ). value_in ys k ≡ None) (sym e) (none_of y.0 ys (head_below y ys h)))))
        (λ (n : x.0 ≢ q). sym (later_is x xs q n) ∙ (same q ∙ later_is y ys q (λ f. n (e ∙ f))))) in
        cc (heads, tails)

-- ---- the values are of their kinds

value_of : (rows : List Row) (p : Row → Bool) (i : ℕ) (v : Value) → list_all p rows ≡ true → value_in rows i ≡ Some v → p (i, v) ≡ true
value_of [] p i v all e = absurd (cc (e))
value_of (row ∷ rows) p i v all e =
    let parts = and_parts (p row) (list_all p rows) all in
    go (row.0 == i) refl e parts.0 (value_of rows p i v parts.1)
  where
    go : (b : Bool) → (row.0 == i) ≡ b → cond b (Some row.1) (value_in rows i) ≡ Some v → p row ≡ true → (value_in rows i ≡ Some v → p (i, v) ≡ true) → p (i, v) ≡ true
    go true f g h rest = subst (λ (w : Value). p (i, w) ≡ true) (cc (g)) (subst (λ (j : ℕ). p (j, row.1) ≡ true) ((Decides-eqb row.0 i).0 f) h)
    go false f g h rest = rest g

pub kind_first : (rows : List Row) (i : ℕ) → list_all has_own_value rows ≡ true → is_of (first_value rows i) (kind_of i) ≡ true
kind_first rows i own = go (value_in rows i) refl
  where
    go : (o : Option Value) → value_in rows i ≡ o → is_of (unwrap_or o value.Missing) (kind_of i) ≡ true
    go None e = refl
    go (Some v) e = (and_parts (is_there v) (is_of v (kind_of i)) (value_of rows has_own_value i v own e)).1

pub kind_carried : (c : Cut) (i : ℕ) → list_all has_own_value c.opening ≡ true
    → are_proper_marks (place_of c.parts i) c.parts (prefix_for c i) ≡ true → is_of (carried_value c i) (kind_of i) ≡ true
kind_carried c i own proper = dite (ℕ_discrete (carried_stamp c i) 0)
    (λ (z : carried_stamp c i ≡ 0).
    ap (λ (b : Bool). is_of (if b then first_value c.opening i else unwrap_or (written_value c i (carried_stamp c i)) value.Missing) (kind_of i)) (eq-eqb (carried_stamp c i) 0 z)
    ∙ kind_first c.opening i own)
    (λ (nz : carried_stamp c i ≢ 0).
    let v = there (written_value c i (carried_stamp c i)) (at_carried c i nz).0 in
    ap (λ (b : Bool). is_of (if b then first_value c.opening i else unwrap_or (written_value c i (carried_stamp c i)) value.Missing) (kind_of i)) (ne_eqb (carried_stamp c i) 0 nz)
    ∙ (ap (λ (o : Option Value). is_of (unwrap_or o value.Missing) (kind_of i)) v.1 ∙ kind_written (carried_stamp c i) v.0 v.1))
  where
    kind_written : (t : ℕ) (v : Value) → written_value c i t ≡ Some v → is_of v (kind_of i) ≡ true
    kind_written t v e =
        let w = version_prepared (prefix_for c i) i t v (version_parts (prefix_for c i) i t v e).1 in
        let made : is_proper (place_of c.parts i) c.parts t w.0 w.1 ≡ true =
        list_all-contains (is_proper_mark (place_of c.parts i) c.parts) (prefix_for c i) (Prepared t w.0 w.1) proper w.2 in
        let own_writes : are_own_writes (place_of c.parts i) c.parts w.0 w.1 ≡ true =
        (and_parts (not (t == 0) && are_items w.1) (are_own_writes (place_of c.parts i) c.parts w.0 w.1) made).1 in
        value_of w.0 has_right_kind i v
        (and_parts (are_rows_of (placed_at (place_of c.parts i) c.parts w.1) w.0) (list_all has_right_kind w.0) own_writes).1 w.3

-- what such rows have of a row's item
pub row_is : (rows : List Row) → IsStrictlySortedBy nat_cmp (items_written rows) → (row : Row) → Contains rows row → value_in rows row.0 ≡ Some row.1
row_is rows h row n = by_key rows row.0 ∙ lookup-from_Contains (eq_by_cmp_equiv nat_cmp_total) row.0 row.1 rows (IsDistinct-from_sorted nat_cmp (items_written rows) h) n

pub own_rows : (c : Cut) (rows : List Row) → AreNextRows c rows → list_all has_own_value c.opening ≡ true
    → ((part : ℕ) → are_proper_marks part c.parts (prefix_at c part) ≡ true) → list_all has_own_value rows ≡ true
own_rows c rows next own proper = list_all-from_AllPass has_own_value rows
    (λ k d l. one (get_or rows k d) (All-contains_itself rows k d l))
  where
    one : (row : Row) → Contains rows row → has_own_value row ≡ true
    one row n =
        let is : value_in rows row.0 ≡ Some row.1 = row_is rows next.rising row n in
        let same : row.1 ≡ carried_value c row.0 = sym (ap (λ (o : Option Value). unwrap_or o value.Missing) is) ∙ next.values row.0 in
        and_from (is_there row.1) (is_of row.1 (kind_of row.0))
        (list_all-contains (λ (r : Row). is_there r.1) rows row next.there n)
        (subst (λ (v : Value). is_of v (kind_of row.0) ≡ true) (sym same) (kind_carried c row.0 own (proper (place_of c.parts row.0))))

-- ---- no two next openings

same_there : (a b : Option Value) → ((v : Value) → a ≡ Some v → is_there v ≡ true) → ((v : Value) → b ≡ Some v → is_there v ≡ true)
    → unwrap_or a value.Missing ≡ unwrap_or b value.Missing → a ≡ b
same_there None None f g e = refl
same_there (Some v) (Some w) f g e = ap Some e
same_there (Some v) None f g e = let here : is_there v ≡ true = f v refl in absurd (let gone : is_there v ≡ false = ap is_there e in cc (here, gone))
same_there None (Some w) f g e = let here : is_there w ≡ true = g w refl in absurd (let gone : is_there w ≡ false = ap is_there (sym e) in cc (here, gone))

pub one_next : (c : Cut) (xs ys : List Row) → AreNextRows c xs → AreNextRows c ys → xs ≡ ys
one_next c xs ys x y = one_list xs ys x.rising y.rising (λ q. same_there (value_in xs q) (value_in ys q)
    (λ v e. value_of xs (λ r. is_there r.1) q v x.there e) (λ v e. value_of ys (λ r. is_there r.1) q v y.there e)
    (x.values q ∙ sym (y.values q)))
