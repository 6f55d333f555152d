-- The first values of rows are the entries of a map by their items: `row_more`, for `values_of`.
use Rattle.std.proofs.Common.{◌≡◌, ℕ, ◌<◌, ◌+◌, true, ◌==◌, List, [], ◌∷◌, ◌++◌, length, take, get_or, None, refl, sym, ap, ◌∙◌, subst, arith}
use Rattle.std.specs.Map.{lookup}
use Rattle.std.proofs.lemmas.Bool.Decides.{nat_tests}
use Rattle.std.proofs.lemmas.List.{take_more}
use Rattle.indexmap.specs.IndexMap.{IndexMap, insert_entry}
use Rattle.indexmap.proofs.CallerLemmas.{insert_entry-new}
use Rattle.album_items.specs.Openings.{Row, has_single_rows}
use Rattle.album_items.specs.declared.values.Value.{Value}
use Rattle.album_partition.specs.Marks.{value_in}
use Rattle.album_partition.proofs.StoredLemmas.{new_row}

-- the value at an item, as a map finds it
looked_up : (rows : List Row) (item : ℕ) → lookup (λ i. item == i) rows ≡ value_in rows item
looked_up [] item = refl
looked_up (row ∷ rows) item = grind (arith, nat_tests, looked_up rows item)

-- one row more, whose item has no row before it
pub row_more : {S : Type 0} (values : IndexMap ℕ Value S) (rows : List Row) (k : ℕ) (row d : Row)
    → values.entries ≡ take k rows → row ≡ get_or rows k d → has_single_rows rows ≡ true → k < length rows
    → insert_entry (λ i j. i == j) values.entries row.0 row.1 ≡ take (k + 1) rows
row_more values rows k row d h at once less =
    insert_entry-new (λ i j. i == j) values row.0 row.1 absent
    ∙ ap (λ (es : List Row). es ++ row ∷ []) h
    ∙ sym (take_more rows k d less ∙ ap (λ (r : Row). take k rows ++ r ∷ []) (sym at))
  where
    absent : lookup (λ i. row.0 == i) values.entries ≡ None
    absent =
        ap (lookup (λ i. row.0 == i)) h
        ∙ looked_up (take k rows) row.0
        ∙ subst (λ (r : Row). value_in (take k rows) r.0 ≡ None) (sym at) (new_row rows k d once less)
