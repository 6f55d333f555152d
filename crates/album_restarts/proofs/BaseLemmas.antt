-- The next opening is a base again (`next_base`), for `next_opening` and the law `the_next_opening_is_a_base`.
use Rattle.std.proofs.Common.{◌≡◌, ℕ, ◌≤◌, ◌&&◌, true, List, get_or, Contains, Option, Some, None, ⊎_elim, refl, sym, ap, ◌∙◌, subst, arith, max, true≢false}
use Rattle.std.specs.List.{list_all, slice_get}
use Rattle.std.specs.Option.{unwrap_or}
use Rattle.std.proofs.lemmas.Bool.{le-leb}
use Rattle.std.proofs.lemmas.List.Elements.{All-contains_itself}
use Rattle.std.proofs.lemmas.List.Sums.{list_all-from_AllPass}
use Rattle.album_stamps.specs.declared.limits.TheConstants.{MAX_COUNTER}
use Rattle.album_items.specs.Openings.{Row, is_base_opening, has_counts, has_parts, has_limit, has_policy, has_first, has_single_rows, has_own_value, is_low_row, greatest_number}
use Rattle.album_items.specs.Values.{is_there}
use Rattle.album_items.specs.declared.openings.Opening.{Opening}
use Rattle.album_items.specs.declared.values.Value.{Value}
use Rattle.album_items.specs.declared.values.Value.TheVariants.{Missing}
use Rattle.album_partition.specs.Marks.{value_in, first_value}
use Rattle.album_partition.specs.Partition.{PartitionState}
use Rattle.album_partition.specs.Proper.{are_proper_marks}
use Rattle.album_partition.specs.declared.marks.Mark.{Mark}
use Rattle.album_partition.proofs.ListLemmas.{list_all-contains}
use Rattle.album_permits.specs.declared.events.Event.{Event}
use Rattle.album_passes.specs.Cuts.{prefix_at}
use Rattle.album_world.specs.Past.{World}
use Rattle.album_world.specs.Runs.{run_of}
use Rattle.album_world.specs.State.{highest_counter, marks_of}
use Rattle.album_world.proofs.AgeLemmas.{pair_in}
use Rattle.album_world.proofs.Invariant.{IsKept}
use Rattle.album_world.proofs.ListLemmas.{and_both, and_left, and_right, in_all}
use Rattle.album_world.proofs.PromiseLemmas.{writes_are_granted}
use Rattle.album_world.proofs.RunLemmas.{always_kept}
use Rattle.album_world.proofs.StayLemmas.{low_rows, stamps_high, views_whole}
use Rattle.album_epochs.proofs.BaseLemmas.{own_rows, single_rows}
use Rattle.album_restarts.specs.Next.{IsNextOpening}
use Rattle.album_restarts.specs.Worlds.{cut_of_world}
use Rattle.album_restarts.proofs.ClockLemmas.{clocks_low, first_low}
use Rattle.album_restarts.proofs.NextLemmas.{IsWrote, row_granted, rows_carried, stamp_below}
use Rattle.album_restarts.proofs.NumberLemmas.{low_row_more, low_writes}
use Rattle.album_restarts.proofs.SoundLemmas.{history_is}

-- ---- the counts

-- what a base has
record HasBase (o : Opening) : Type 0 where
  counts : has_parts o.parts && has_limit o.limit && has_policy o.policy ≡ true
  own : list_all has_own_value o.items ≡ true

base_of : (o : Opening) → is_base_opening o ≡ true → HasBase o
base_of o is =
    let rows = has_single_rows o.items && list_all has_own_value o.items && list_all (is_low_row (greatest_number o.first)) o.items in
    let all = and_left (has_counts o) rows is in
    record {
      counts = and_left (has_parts o.parts && has_limit o.limit && has_policy o.policy) (has_first o.first) all;
      own = and_right (has_single_rows o.items) (list_all has_own_value o.items)
          (and_left (has_single_rows o.items && list_all has_own_value o.items) (list_all (is_low_row (greatest_number o.first)) o.items)
          (and_right (has_counts o) rows is));
    }

next_counts : (o n : Opening) → n.parts ≡ o.parts → n.limit ≡ o.limit → n.policy ≡ o.policy
    → has_parts o.parts && has_limit o.limit && has_policy o.policy ≡ true
    → has_parts n.parts && has_limit n.limit && has_policy n.policy ≡ true
next_counts o n parts limit policy counts =
    ap (λ (x : ℕ). has_parts x && has_limit n.limit && has_policy n.policy) parts
    ∙ (ap (λ (x : ℕ). has_parts o.parts && has_limit x && has_policy n.policy) limit
    ∙ (ap (λ (x : ℕ). has_parts o.parts && has_limit o.limit && has_policy x) policy ∙ counts))

-- ---- the histories are proper

proper_at : (o : Opening) (w : World) → IsKept o w → (p : ℕ) → are_proper_marks p o.parts (prefix_at (cut_of_world o w) p) ≡ true
proper_at o w k p =
    subst (λ (ms : List Mark). are_proper_marks p o.parts ms ≡ true) (sym (history_is w.now.partitions p))
    (go (slice_get w.now.partitions p) refl)
  where
    go : (f : Option PartitionState) → slice_get w.now.partitions p ≡ f → are_proper_marks p o.parts (marks_of f) ≡ true
    go None e = refl
    go (Some h) e =
        let placed = k.placed p h e in
        subst (λ (n : ℕ). are_proper_marks n o.parts h.marks ≡ true) placed.number
        (subst (λ (n : ℕ). are_proper_marks h.number n h.marks ≡ true) placed.parts placed.is.proper)

-- ---- the numbers are low

-- a value that is there at first is one of the opening's rows
first_row : (top : ℕ) (items : List Row) (row : Row) → list_all (is_low_row top) items ≡ true → is_there row.1 ≡ true
    → first_value items row.0 ≡ row.1 → is_low_row top row ≡ true
first_row top items row right here is = go (value_in items row.0) refl is
  where
    go : (f : Option Value) → value_in items row.0 ≡ f → unwrap_or f Missing ≡ row.1 → is_low_row top row ≡ true
    go None e same = absurd (true≢false (sym here ∙ ap is_there (sym same)))
    go (Some v) e same =
        subst (λ (x : Value). is_low_row top (row.0, x) ≡ true) same
        (in_all (is_low_row top) items right (pair_in items row.0 v e))

module _ (o n : Opening) (es : List Event) (is : is_base_opening o ≡ true) (next : IsNextOpening o (run_of o es).now n) where
  row_low : (row : Row) → Contains n.items row → is_low_row (greatest_number n.first) row ≡ true
  row_low row c = ⊎_elim
      (λ (e : first_value o.items row.0 ≡ row.1).
      let first : n.first ≡ max o.first (highest_counter (run_of o es).now.clients) = next.first in
      low_row_more (greatest_number o.first) (greatest_number n.first) row (omega (arith, first))
      (first_row (greatest_number o.first) o.items row (low_rows o is)
      (list_all-contains (λ (r : Row). is_there r.1) n.items row next.rows.there c) e))
      (λ (wrote : IsWrote (run_of o es) row.0 row.1).
      low_row_more wrote.0.stamp (greatest_number n.first) row (stamp_below o n es wrote.0 is next wrote.1)
      (low_writes o (run_of o es) (low_rows o is) (writes_are_granted o es is).granted (stamps_high o es is) (views_whole o es is)
      wrote.0 wrote.1 row.0 row.1 wrote.2))
      (row_granted o n es row is next c)

  pub next_base : is_base_opening n ≡ true
  next_base =
      let b = base_of o is in
      let low = clocks_low o es is in
      let first : n.first ≡ max o.first (highest_counter (run_of o es).now.clients) = next.first in
      let old : o.first ≤ MAX_COUNTER = first_low o is in
      and_both (has_counts n)
      (has_single_rows n.items && list_all has_own_value n.items && list_all (is_low_row (greatest_number n.first)) n.items)
      (and_both (has_parts n.parts && has_limit n.limit && has_policy n.policy) (has_first n.first)
      (next_counts o n next.parts next.limit next.policy b.counts) (le-leb n.first MAX_COUNTER (omega (arith, first, old, low))))
      (and_both (has_single_rows n.items && list_all has_own_value n.items) (list_all (is_low_row (greatest_number n.first)) n.items)
      (and_both (has_single_rows n.items) (list_all has_own_value n.items) (single_rows n.items next.rows.rising)
      (own_rows (cut_of_world o (run_of o es)) n.items (rows_carried o n es is next) b.own (proper_at o (run_of o es) (always_kept o es is))))
      (list_all-from_AllPass (is_low_row (greatest_number n.first)) n.items
      (λ k d l. row_low (get_or n.items k d) (All-contains_itself n.items k d l))))
