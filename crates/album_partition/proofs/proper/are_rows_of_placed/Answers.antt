use Rattle.std.proofs.Common.{◌≡◌, ◌≢◌, ℕ, ◌==◌, ◌&&◌, true, false, Bool, length, refl, sym, ap, ◌∙◌}
use Rattle.std.specs.List.{list_all}
use Rattle.std.proofs.lemmas.Bool.Decides.{Decides-eqb}
use Rattle.album_items.specs.Places.{placed_at}
use Rattle.album_partition.specs.Proper.{has_row}
use Rattle.album_partition.proofs.ProperLemmas.{rows_counted}
use Rattle.album_partition.proofs.proper.are_rows_of_placed.Goals as goal

different : (m n : ℕ) → m ≢ n → (m == n) ≡ false
different m n other = go (m == n) refl
  where
    go : (b : Bool) → (m == n) ≡ b → (m == n) ≡ false
    go true e = absurd (other ((Decides-eqb m n).0 e))
    go false e = e

-- where there are as many rows as items, it is enough to look for each item's row
pub returns-then-rows-placed_count : goal.returns-then-rows-placed_count
returns-then-rows-placed_count c =
    let placed = placed_at c.args.seat.number c.args.seat.parts c.args.items.now in
    let many : (length c.args.rows.now == length placed) ≡ true = (Decides-eqb (length c.args.rows.now) (length placed)).1 (c.if-rows-placed_count.true ∙ c.placed_count.ensures) in
    c.have_rows.ensures
    ∙ sym (ap (λ (b : Bool). b && list_all (has_row c.args.rows.now) placed) many)
    ∙ rows_counted c.args.seat.number c.args.seat.parts c.args.items.now c.args.rows.now c.requires

-- where there are not as many, the rows are not of exactly those items
pub returns-else-rows-placed_count : goal.returns-else-rows-placed_count
returns-else-rows-placed_count c =
    let placed = placed_at c.args.seat.number c.args.seat.parts c.args.items.now in
    different (length c.args.rows.now) c.placed_count.result c.if-rows-placed_count.false
    ∙ sym (ap (λ (b : Bool). b && list_all (has_row c.args.rows.now) placed) (different (length c.args.rows.now) (length placed) (λ same. c.if-rows-placed_count.false (same ∙ sym c.placed_count.ensures))))
    ∙ rows_counted c.args.seat.number c.args.seat.parts c.args.items.now c.args.rows.now c.requires
