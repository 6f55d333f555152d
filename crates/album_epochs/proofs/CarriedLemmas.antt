-- Which stamps are carried: those that are prepared throughout. All that speaks of them cites these; the main one is
-- `undiscarded`.
use Rattle.std.proofs.Common.{◌≡◌, ℕ, Bool, true, false, List, get_or, All, Contains, Some, None, Option, refl, ap, ◌∙◌, subst}
use Rattle.std.specs.List.{list_any, list_all}
use Rattle.std.specs.Option.{option_map_or}
use Rattle.std.proofs.lemmas.List.Elements.{All-contains, All-contains_itself}
use Rattle.std.proofs.lemmas.List.Sums.{list_all-from_AllPass}
use Rattle.album_items.specs.ItemIds.{place_of}
use Rattle.album_partition.specs.declared.marks.Mark.TheVariants.{Committed}
use Rattle.album_partition.specs.Marks.{discards}
use Rattle.album_partition.proofs.GrowthLemmas.{promised_unprepared}
use Rattle.album_partition.proofs.ListLemmas.{list_all-contains}
use Rattle.album_passes.specs.Cuts.{Cut, prefix_at, prefix_for, items_announced, IsPreparedFor, IsPreparedThroughout, IsPromisedSomewhere, IsSound, Extends}
use Rattle.album_passes.specs.Reads.{IsCommitted}
use Rattle.album_passes.proofs.CutLemmas.{backed_more}
use Rattle.album_passes.proofs.ClosedLemmas.{committed_tells, discarded_tells, same_list}
use Rattle.album_epochs.specs.Carried.{is_prepared_for, is_carried}

-- ---- carried is prepared throughout

all_prepared : (c : Cut) (t : ℕ) (is : List ℕ) → list_all (is_prepared_for c t) is ≡ true → All (IsPreparedFor c t) is
all_prepared c t is e = λ k d l. list_all-contains (is_prepared_for c t) is (get_or is k d) e (All-contains_itself is k d l)

pub throughout : (c : Cut) (t : ℕ) → is_carried c t ≡ true → IsPreparedThroughout c t
throughout c t e = go (items_announced c t) refl e
  where
    go : (o : Option (List ℕ)) → items_announced c t ≡ o → option_map_or (list_all (is_prepared_for c t)) o false ≡ true → IsPreparedThroughout c t
    go None a f = absurd (cc (f))
    go (Some is) a f = record { items = is; announced = a; prepared = all_prepared c t is f }

-- by the list that is announced
pub carried_by : (c : Cut) (t : ℕ) (is : List ℕ) → items_announced c t ≡ Some is → is_carried c t ≡ list_all (is_prepared_for c t) is
carried_by c t is a = ap (λ (o : Option (List ℕ)). option_map_or (list_all (is_prepared_for c t)) o false) a

pub carried_if : (c : Cut) (t : ℕ) → IsPreparedThroughout c t → is_carried c t ≡ true
carried_if c t w = carried_by c t w.items w.announced ∙ list_all-from_AllPass (is_prepared_for c t) w.items w.prepared

pub committed_carried : (c : Cut) (t : ℕ) → IsSound c → IsCommitted c t → is_carried c t ≡ true
committed_carried c t s h = carried_if c t (committed_tells c h.0 t s.closed h.1)

pub carried_more : (c d : Cut) (t : ℕ) → Extends c d → is_carried c t ≡ true → is_carried d t ≡ true
carried_more c d t x e = carried_if d t (backed_more c d x (Committed t) (throughout c t e))

-- each item of the list is prepared
pub prepared_in : (c : Cut) (t i : ℕ) (is : List ℕ) → items_announced c t ≡ Some is → Contains is i → IsPreparedThroughout c t → IsPreparedFor c t i
prepared_in c t i is a n w =
    All-contains (IsPreparedFor c t) w.items i w.prepared
    (subst (λ (js : List ℕ). Contains js i) (same_list c t is w.items a w.announced) n)

-- ---- what is promised against is not carried

unpromised : (c : Cut) (t : ℕ) → IsSound c → IsPreparedThroughout c t → IsPromisedSomewhere c t → ⊥
unpromised c t s w r =
    let had = prepared_in c t r.item r.items r.announced r.listed w in
    let none = promised_unprepared (prefix_for c r.item) t (s.legal (place_of c.parts r.item)) r.promised in
    absurd (cc (had, none))

pub promised_uncarried : (c : Cut) (t : ℕ) → IsSound c → IsPromisedSomewhere c t → is_carried c t ≡ false
promised_uncarried c t s r = go (is_carried c t) refl
  where
    go : (b : Bool) → is_carried c t ≡ b → b ≡ false
    go false e = refl
    go true e = absurd (unpromised c t s (throughout c t e) r)

-- so what is carried is discarded nowhere
pub undiscarded : (c : Cut) (p t : ℕ) → IsSound c → IsPreparedThroughout c t → list_any (discards t) (prefix_at c p) ≡ false
undiscarded c p t s w = go (list_any (discards t) (prefix_at c p)) refl
  where
    go : (b : Bool) → list_any (discards t) (prefix_at c p) ≡ b → b ≡ false
    go false e = refl
    go true e = absurd (unpromised c t s w (discarded_tells c p t s.closed e))
