-- What a carried stamp wrote, a cut that carries it has already. The laws cite `same_written` and `whole_written`.
use Rattle.std.proofs.Common.{◌≡◌, ℕ, Bool, true, false, ◌==◌, ◌&&◌, ◌||◌, cond, List, [], ◌∷◌, Contains, is_some, Some, None, if◌then◌else◌, refl, ap, ◌∙◌, subst}
use Rattle.std.specs.List.{list_all}
use Rattle.std.proofs.lemmas.Bool.{and_parts}
use Rattle.std.proofs.lemmas.Bool.Decides.{Decides-eqb}
use Rattle.album_items.specs.ItemIds.{place_of}
use Rattle.album_items.specs.Openings.{Row, has_single_rows}
use Rattle.album_items.specs.Places.{is_placed, placed_at}
use Rattle.album_items.specs.Transactions.{has_right_kind}
use Rattle.album_partition.specs.declared.marks.Mark.{Mark}
use Rattle.album_partition.specs.declared.marks.Mark.TheVariants.{Prepared}
use Rattle.album_partition.specs.Marks.{prepares, mark_writes, writes_at, value_in}
use Rattle.album_partition.specs.Proper.{is_among, has_row, are_rows_of, is_proper_mark, is_proper, are_proper_marks}
use Rattle.album_partition.proofs.ListLemmas.{list_all-contains, kept_out}
use Rattle.album_passes.specs.Cuts.{Cut, prefix_for, items_announced, IsPreparedThroughout, Extends}
use Rattle.album_passes.specs.Reads.{written_value}
use Rattle.album_passes.proofs.CutLemmas.{backed_more}
use Rattle.album_passes.proofs.ClosedLemmas.{found, found_in, prepares_is, same_list, items_of_named}
use Rattle.album_passes.proofs.ReadLemmas.{same_prepared}
use Rattle.album_partition.specs.declared.marks.Mark.TheVariants as mark
use Rattle.album_epochs.proofs.CarriedLemmas.{prepared_in}
use Rattle.album_epochs.specs.Carried.{IsLeft}
use Rattle.album_epochs.proofs.LeftLemmas.{named_left, undiscarded_left}

-- ---- what a carried stamp wrote

pub same_written : (c d : Cut) → IsLeft d → Extends c d → (t : ℕ) → IsPreparedThroughout c t → (i : ℕ) → written_value d i t ≡ written_value c i t
same_written c d r x t h i =
    same_prepared c d x t h i (undiscarded_left d (place_of d.parts i) t r (backed_more c d x (mark.Committed t) h))
    (named_left d r (place_of d.parts i) t)

-- ---- nothing of it is lost

row_has : (ws : List Row) (i : ℕ) → has_row ws i ≡ true → is_some (value_in ws i) ≡ true
row_has [] i e = e
row_has (w ∷ ws) i e = go (w.0 == i) e (row_has ws i)
  where
    go : (b : Bool) → b || has_row ws i ≡ true → (has_row ws i ≡ true → is_some (value_in ws i) ≡ true) → is_some (cond b (Some w.1) (value_in ws i)) ≡ true
    go true f h = refl
    go false f h = h f

proper_has : (number parts t i : ℕ) (ws : List Row) (is : List ℕ) → is_proper number parts t ws is ≡ true → place_of parts i ≡ number → Contains is i → is_some (value_in ws i) ≡ true
proper_has number parts t i ws is e at n =
    let rows : are_rows_of (placed_at number parts is) ws ≡ true = (and_parts (are_rows_of (placed_at number parts is) ws) (list_all has_right_kind ws) (and_parts _ _ e).1).0 in
    let has : list_all (has_row ws) (placed_at number parts is) ≡ true = (and_parts (has_single_rows ws && list_all (is_among (placed_at number parts is)) ws) (list_all (has_row ws) (placed_at number parts is)) rows).1 in
    row_has ws i (list_all-contains (has_row ws) (placed_at number parts is) i has (kept_out (is_placed number parts) is i ((Decides-eqb (place_of parts i) number).1 at) n))

pub whole_written : (c : Cut) (t i : ℕ) (is : List ℕ) → IsLeft c → IsPreparedThroughout c t → items_announced c t ≡ Some is → Contains is i
    → are_proper_marks (place_of c.parts i) c.parts (prefix_for c i) ≡ true → is_some (written_value c i t) ≡ true
whole_written c t i is s w a n proper =
    let ms : List Mark = prefix_for c i in
    let f = found (prepares t) ms (prepared_in c t i is a n w) in
    let r = found_in (prepares t) ms f.0 f.1 in
    let x = prepares_is t f.0 r.1 in
    let here : Contains ms (Prepared t x.0 x.1) = subst (λ (y : Mark). Contains ms y) x.2 r.0 in
    let named = named_left c s (place_of c.parts i) t x.0 x.1 here in
    let on : Contains x.1 i = subst (λ (js : List ℕ). Contains js i) (same_list c t is x.1 a (items_of_named c t x.0 x.1 named)) n in
    let own : is_proper (place_of c.parts i) c.parts t x.0 x.1 ≡ true = list_all-contains (is_proper_mark (place_of c.parts i) c.parts) ms (Prepared t x.0 x.1) proper here in
    let writes : writes_at ms t ≡ x.0 = ap mark_writes f.1 ∙ ap (λ (y : Mark). mark_writes (Some y)) x.2 in
    ap (λ (b : Bool). is_some (if b then None else value_in (writes_at ms t) i)) (undiscarded_left c (place_of c.parts i) t s w)
    ∙ (ap (λ (ws : List Row). is_some (value_in ws i)) writes ∙ proper_has (place_of c.parts i) c.parts t i x.0 x.1 own refl on)
