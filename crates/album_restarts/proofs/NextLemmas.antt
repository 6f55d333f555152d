-- Where each row of the next opening is from (`row_granted`), and what else the next opening has, for `next_opening`
-- and the laws of it.
use Rattle.std.proofs.Common.{◌≡◌, ◌≢◌, ℕ, ◌≤◌, Bool, true, false, ◌==◌, List, Contains, Option, Some, ◌⊎◌, inl, inr, if◌then◌else◌, refl, sym, ap, ◌∙◌, subst, arith, max}
use Rattle.std.specs.List.Sorted.{IsStrictlySortedBy}
use Rattle.std.specs.Option.{unwrap_or}
use Rattle.std.specs.Ordering.{nat_cmp}
use Rattle.std.proofs.lemmas.Bool.{eqb-false}
use Rattle.std.proofs.lemmas.Cmp.{nat_cmp_total, eq_by_cmp_equiv}
use Rattle.std.proofs.lemmas.Map.Keys.{IsDistinct-from_sorted}
use Rattle.std.proofs.lemmas.Map.Views.{lookup-from_Contains}
use Rattle.album_items.specs.ItemIds.{place_of}
use Rattle.album_items.specs.Openings.{Row, is_base_opening, greatest_number}
use Rattle.album_items.specs.Transactions.{items_written}
use Rattle.album_items.specs.declared.openings.Opening.{Opening}
use Rattle.album_items.specs.declared.values.Value.{Value}
use Rattle.album_items.specs.declared.values.Value.TheVariants.{Missing}
use Rattle.album_partition.specs.Marks.{value_in, first_value, version}
use Rattle.album_partition.specs.declared.marks.Mark.{Mark}
use Rattle.album_client.specs.Steps.{Transaction}
use Rattle.album_client.specs.Terms.{terms_of}
use Rattle.album_permits.specs.declared.events.Event.{Event}
use Rattle.album_passes.specs.Cuts.{Cut, prefix_at}
use Rattle.album_passes.specs.Reads.{written_value}
use Rattle.album_world.specs.Granted.{WritesAreGranted}
use Rattle.album_world.specs.Past.{World}
use Rattle.album_world.specs.Runs.{run_of}
use Rattle.album_world.specs.Seen.{WorldState}
use Rattle.album_world.specs.State.{highest_counter}
use Rattle.album_world.proofs.ListLemmas.{within}
use Rattle.album_world.proofs.PromiseLemmas.{writes_are_granted}
use Rattle.album_world.proofs.RunLemmas.{always_kept}
use Rattle.album_epochs.specs.Carried.{carried_stamp, carried_value, AreNextRows, AreNextStamps}
use Rattle.album_epochs.proofs.BaseLemmas.{row_is}
use Rattle.album_epochs.proofs.EpochLemmas.{there, at_carried}
use Rattle.album_epochs.specs.Folding.{AreFolded, AreFoldedStamps}
use Rattle.album_epochs.proofs.LeftLemmas.{sound_left}
use Rattle.album_epochs.proofs.NextLemmas.{next_rows, next_stamps}
use Rattle.album_epochs.proofs.RowLemmas.{by_key}
use Rattle.album_restarts.specs.Next.{IsNextOpening}
use Rattle.album_restarts.specs.Worlds.{cut_of_world, histories_of}
use Rattle.album_restarts.proofs.StampLemmas.{stamp_low}
use Rattle.album_restarts.proofs.SoundLemmas.{history_is, world_sound}

-- ---- where a row is from

-- a row has what is carried of its item
pub row_carried : (c : Cut) (rows : List Row) → AreNextRows c rows → (row : Row) → Contains rows row → row.1 ≡ carried_value c row.0
row_carried c rows next row n =
    sym (ap (λ (o : Option Value). unwrap_or o Missing) (row_is rows next.rising row n)) ∙ next.values row.0

-- a transaction wrote the value
abbrev pub IsWrote : World → ℕ → Value → Type 0
IsWrote w i v = (by : Transaction) × Contains w.past.transactions by × (value_in by.writes i ≡ Some v)

-- what is carried of an item was there at first, or a transaction wrote it
carried_from : (o : Opening) (w : World) → WritesAreGranted (terms_of o) w → (i : ℕ) (v : Value)
    → v ≡ carried_value (cut_of_world o w) i → (first_value o.items i ≡ v) ⊎ IsWrote w i v
carried_from o w granted i v is = go (carried_stamp c i == 0) refl
  where
    c : Cut
    c = cut_of_world o w

    t : ℕ
    t = carried_stamp c i

    go : (b : Bool) → (carried_stamp c i == 0) ≡ b → (first_value o.items i ≡ v) ⊎ IsWrote w i v
    go true e = inl (sym (is ∙ ap (λ (b : Bool). if b then first_value c.opening i else unwrap_or (written_value c i t) Missing) e))
    go false e =
        let some : carried_stamp c i ≢ 0 = eqb-false (carried_stamp c i) 0 e in
        let x = there (written_value c i t) (at_carried c i some).0 in
        let value : v ≡ x.0 = is
        ∙ (ap (λ (b : Bool). if b then first_value c.opening i else unwrap_or (written_value c i t) Missing) e
        ∙ ap (λ (o : Option Value). unwrap_or o Missing) x.1) in
        let wrote : version (prefix_at c (place_of o.parts i)) i t ≡ Some v = x.1 ∙ ap Some (sym value) in
        let one = granted.versions (place_of o.parts i) i t v
        (subst (λ (ms : List Mark). version ms i t ≡ Some v) (history_is w.now.partitions (place_of o.parts i)) wrote) in
        inr (one.by, one.begun, one.wrote)

-- what is folded is what is carried
pub rows_carried : (o n : Opening) (es : List Event) → is_base_opening o ≡ true → IsNextOpening o (run_of o es).now n
    → AreNextRows (cut_of_world o (run_of o es)) n.items
rows_carried o n es is next =
    next_rows (cut_of_world o (run_of o es)) (sound_left (cut_of_world o (run_of o es)) (world_sound o es is)) o.items
    (histories_of (run_of o es).now.partitions) n.items refl refl next.rows

pub stamps_carried : (o n : Opening) (es : List Event) → is_base_opening o ≡ true → IsNextOpening o (run_of o es).now n
    → AreNextStamps (cut_of_world o (run_of o es)) o.stamps n.stamps
stamps_carried o n es is next =
    next_stamps (cut_of_world o (run_of o es)) (sound_left (cut_of_world o (run_of o es)) (world_sound o es is)) o.items
    (histories_of (run_of o es).now.partitions) o.stamps n.stamps refl refl next.stamps

pub row_granted : (o n : Opening) (es : List Event) (row : Row) → is_base_opening o ≡ true → IsNextOpening o (run_of o es).now n
    → Contains n.items row → (first_value o.items row.0 ≡ row.1) ⊎ IsWrote (run_of o es) row.0 row.1
row_granted o n es row is next c =
    carried_from o (run_of o es) (writes_are_granted o es is) row.0 row.1 (row_carried (cut_of_world o (run_of o es)) n.items (rows_carried o n es is next) row c)

-- ---- the stamps that were drawn

pub stamp_below : (o n : Opening) (es : List Event) (by : Transaction) → is_base_opening o ≡ true
    → IsNextOpening o (run_of o es).now n → Contains (run_of o es).past.transactions by → by.stamp ≤ greatest_number n.first
stamp_below o n es by is next c =
    let low = stamp_low o (run_of o es) (always_kept o es is) by (within _ c) in
    let first : n.first ≡ max o.first (highest_counter (run_of o es).now.clients) = next.first in
    omega (arith, low, first)

-- ---- what the code gives

-- what `next_opening` makes is what the world leaves
pub next_is : (o : Opening) (w : WorldState) (n : Opening) (highest : ℕ) → n.parts ≡ o.parts → n.limit ≡ o.limit → n.policy ≡ o.policy
    → n.checked ≡ o.checked → n.root ≡ o.root → n.first ≡ max o.first highest → highest ≡ highest_counter w.kept.clients
    → AreFolded o.items (histories_of w.kept.partitions) n.items
    → AreFoldedStamps o.stamps o.items (histories_of w.kept.partitions) n.stamps → IsNextOpening o w.kept n
next_is o w n highest parts limit policy checked root first high rows stamps = record {
  parts = parts;
  limit = limit;
  policy = policy;
  checked = checked;
  root = root;
  first = first ∙ ap (max o.first) high;
  rows = rows;
  stamps = stamps;
}
