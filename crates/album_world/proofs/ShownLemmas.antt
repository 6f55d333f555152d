-- What a view shows of an item (`shown_by`, `shown_there`, `shown_read`, `shown_or_missing`). For `AgeLemmas` and
-- `StayLemmas`.
use Rattle.std.proofs.Common.{◌≡◌, ◌≢◌, ℕ, false, List, Contains, Option, Some, None, is_none, true≢false, ◌==◌, find, option_map, sym, ap, ◌∙◌, refl, ◌⊎◌, inl, inr, eqb-true, eq-eqb}
use Rattle.std.specs.Option.{option_map_or}
use Rattle.album_items.specs.Values.{head_of}
use Rattle.album_items.specs.declared.values.Value.{Value}
use Rattle.album_items.specs.declared.values.Value.TheVariants.{Missing}
use Rattle.album_reader.specs.Answers.{ReadVersion}
use Rattle.album_reader.specs.Snapshots.{items_read, version_of}
use Rattle.album_views.specs.Seen.{seen}
use Rattle.album_listing.specs.ViewLookups.{stamp_seen}
use Rattle.album_world.proofs.ListLemmas.{any_found, any_in, contains, find_is, in_map, within}

-- a row of the view that is of the item, and what the view shows by it
pub record IsShownBy (rows : List ReadVersion) (item : ℕ) : Type 0 where
  pub row : ReadVersion
  pub there : Contains rows row
  pub of : row.item ≡ item
  pub stamp : stamp_seen rows item ≡ row.stamp
  pub value : seen rows item ≡ row.value

found_row :
    (rows : List ReadVersion) (item : ℕ) (row : ReadVersion)
    → find (λ (r : ReadVersion). r.item == item) rows ≡ Some row → IsShownBy rows item
unfolding seen
found_row rows item row e =
    let f = find_is (λ (r : ReadVersion). r.item == item) rows row e in
    record {
      row = row;
      there = contains f.0;
      of = eqb-true row.item item f.1;
      stamp = ap (λ (o : Option ReadVersion). option_map_or (λ (v : ℕ × Value). v.0) (option_map version_of o) 0) e;
      value = ap (λ (o : Option ReadVersion). option_map_or (λ (v : ℕ × Value). v.1) (option_map version_of o) Missing) e;
    }

-- what is shown at a stamp that is not 0 is a row of the view
pub shown_by : (rows : List ReadVersion) (item : ℕ) → stamp_seen rows item ≢ 0 → IsShownBy rows item
shown_by rows item some = go (find (λ (r : ReadVersion). r.item == item) rows) refl
  where
    go : (o : Option ReadVersion) → find (λ (r : ReadVersion). r.item == item) rows ≡ o → IsShownBy rows item
    go None e = absurd (some
        (ap (λ (o : Option ReadVersion). option_map_or (λ (v : ℕ × Value). v.0) (option_map version_of o) 0) e))
    go (Some row) e = found_row rows item row e

-- and so is what is shown with a head
pub shown_there : (rows : List ReadVersion) (item : ℕ) → is_none (head_of (seen rows item)) ≡ false → IsShownBy rows item
unfolding seen
shown_there rows item headed = go (find (λ (r : ReadVersion). r.item == item) rows) refl
  where
    go : (o : Option ReadVersion) → find (λ (r : ReadVersion). r.item == item) rows ≡ o → IsShownBy rows item
    go None e = absurd (true≢false (sym (ap (λ (o : Option ReadVersion). is_none (head_of
        (option_map_or (λ (v : ℕ × Value). v.1) (option_map version_of o) Missing))) e) ∙ headed))
    go (Some row) e = found_row rows item row e

-- and so is what was read
pub shown_read : (rows : List ReadVersion) (item : ℕ) → Contains (items_read rows) item → IsShownBy rows item
shown_read rows item c =
    let m = in_map (λ (row : ReadVersion). row.item) rows (within (items_read rows) c) in
    let f = any_found (λ (row : ReadVersion). row.item == item) rows
    (any_in (λ (row : ReadVersion). row.item == item) rows m.1 (eq-eqb m.0.item item (sym m.2))) in
    found_row rows item f.0 f.1

-- what was read, or is missing
pub shown_or_missing : (rows : List ReadVersion) (item : ℕ) → IsShownBy rows item ⊎ (seen rows item ≡ Missing)
unfolding seen
shown_or_missing rows item = go (find (λ (r : ReadVersion). r.item == item) rows) refl
  where
    go : (o : Option ReadVersion) → find (λ (r : ReadVersion). r.item == item) rows ≡ o
        → IsShownBy rows item ⊎ (option_map_or (λ (v : ℕ × Value). v.1)
        (option_map version_of (find (λ (r : ReadVersion). r.item == item) rows)) Missing ≡ Missing)
    go None e = inr (ap (λ (o : Option ReadVersion). option_map_or (λ (v : ℕ × Value). v.1) (option_map version_of o) Missing) e)
    go (Some row) e = inl (found_row rows item row e)
