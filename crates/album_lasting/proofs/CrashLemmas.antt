-- What the entries of a log make of the marks of a service. Each history that is read of them has marks of the cut, no
-- others (`from_cut`), and all that is logged (`logged_throughout`). So an item opens at its greatest logged stamp
-- (`opens`).
use Rattle.std.proofs.Common.{◌≡◌, ◌⊎◌, inl, inr, ℕ, zero, suc, ◌+◌, ◌<◌, ◌≤◌, ◌==◌, Bool, true, false, List, [], ◌∷◌, ◌++◌, get_or, length, All, Contains, Option, Some, None, if◌then◌else◌, ⊎_elim, refl, sym, ap, ◌∙◌, subst, arith, eqb-true, eq-eqb}
use Rattle.std.specs.List.{find, list_any}
use Rattle.std.specs.Option.{option_map, unwrap_or}
use Rattle.std.proofs.Math.Nat.{mod-lt}
use Rattle.std.proofs.lemmas.List.Elements.{All-contains, All-contains_itself, Contains-append_right, Contains-push_cases}
use Rattle.std.proofs.lemmas.List.Sums.{list_all-from_AllPass}
use Rattle.std.proofs.lemmas.Option.{get_or_from_slice_get}
use Rattle.album_items.specs.FirstStamps.{Stamps, shown}
use Rattle.album_items.specs.ItemIds.{kind_of, number_of, place_of}
use Rattle.album_items.specs.Openings.{Row}
use Rattle.album_items.specs.Values.{is_there}
use Rattle.album_items.specs.declared.openings.Opening.{Opening}
use Rattle.album_items.specs.declared.values.Value.{Value}
use Rattle.album_items.specs.declared.values.Value.TheVariants.{Missing}
use Rattle.album_partition.specs.Marks.{prepares, prepare_in, value_in, first_value}
use Rattle.album_partition.specs.declared.marks.Mark.{Mark}
use Rattle.album_partition.specs.declared.marks.Mark.TheVariants.{Prepared, Committed, Discarded, Trimmed}
use Rattle.album_partition.proofs.BaseLemmas.{found_in, found_out}
use Rattle.album_partition.proofs.ListLemmas.{list_all-contains, one_before}
use Rattle.album_passes.specs.Cuts.{Cut, IsNamed, marks_at, prefix_at, prefix_for}
use Rattle.album_passes.specs.Reads.{written_value}
use Rattle.album_passes.proofs.ClosedLemmas.{items_of_named, prepares_is, same_list}
use Rattle.album_passes.proofs.PrefixLemmas.{any_more}
use Rattle.album_passes.proofs.ReadLemmas.{item_written, value_has, version_parts, version_prepared}
use Rattle.album_epochs.specs.Carried.{IsLeft, is_carried}
use Rattle.album_epochs.specs.Folding.{Kept, first_kept, is_throughout, newest_of, stamp_kept, stamp_left, value_kept}
use Rattle.album_epochs.proofs.CarriedLemmas.{carried_if}
use Rattle.album_epochs.proofs.FoldLemmas.{IsFrom, newest_above, newest_from, prepared_once, written_so, zero_first}
use Rattle.album_epochs.proofs.LeftLemmas.{legal_left, named_left, sound_left}
use Rattle.album_keepers.specs.declared.log_entries.LogEntry.{LogEntry}
use Rattle.album_data.specs.Recovery.{with_prepare, with_mark, marks_after, AreLogged, IsOpenedAfter}
use Rattle.album_world.proofs.ListLemmas.{some_same}
use Rattle.album_lasting.specs.Crashing.{IsLoggedFor, IsLogged, IsLogOf, IsLoggedValue, IsOpenedAt}

-- ---- a history that is read of entries

-- the mark is that of an entry of this partition
record IsOfEntry (part : ℕ) (es : List LogEntry) (m : Mark) : Type 0 where
  entry : LogEntry
  there : Contains es entry
  at : entry.part ≡ part
  is : entry.mark ≡ m

taken_of : (ms : List Mark) (x m : Mark) → Contains (with_mark ms x) m → Contains ms m ⊎ (x ≡ m)
taken_of ms x m n = go (prepare_in x) n
  where
    by : (b : Bool) → Contains (if b then ms else ms ++ x ∷ []) m → Contains ms m ⊎ (x ≡ m)
    by true old = inl old
    by false either = Contains-push_cases ms x m either

    go : (o : Option ℕ) → Contains (with_prepare ms x o) m → Contains ms m ⊎ (x ≡ m)
    go None old = inl old
    go (Some s) either = by (list_any (prepares s) ms) either

marks_of : (part : ℕ) (ms : List Mark) (es : List LogEntry) (m : Mark) → Contains (marks_after part ms es) m
    → Contains ms m ⊎ IsOfEntry part es m
marks_of part ms [] m n = inl n
marks_of part ms (e ∷ es) m n = go (e.part == part) refl n (λ ns. marks_of part ns es m)
  where
    later : IsOfEntry part es m → IsOfEntry part (e ∷ es) m
    later f = record { entry = f.entry; there = one_before e f.entry es f.there; at = f.at; is = f.is }

    first : e.part ≡ part → e.mark ≡ m → IsOfEntry part (e ∷ es) m
    first at is = record { entry = e; there = (0, omega arith, refl); at = at; is = is }

    go : (b : Bool) → (e.part == part) ≡ b → Contains (marks_after part (if b then with_mark ms e.mark else ms) es) m
        → ((ns : List Mark) → Contains (marks_after part ns es) m → Contains ns m ⊎ IsOfEntry part es m)
        → Contains ms m ⊎ IsOfEntry part (e ∷ es) m
    go false at here rest = ⊎_elim (λ (old : Contains ms m). inl old) (λ (f : IsOfEntry part es m). inr (later f)) (rest ms here)
    go true at here rest = ⊎_elim
        (λ (taken : Contains (with_mark ms e.mark) m). ⊎_elim (λ (old : Contains ms m). inl old)
        (λ (is : e.mark ≡ m). inr (first (eqb-true e.part part at) is)) (taken_of ms e.mark m taken))
        (λ (f : IsOfEntry part es m). inr (later f))
        (rest (with_mark ms e.mark) here)

-- what is prepared stays so
any_taken : (t : ℕ) (ms : List Mark) (x : Mark) → list_any (prepares t) ms ≡ true → list_any (prepares t) (with_mark ms x) ≡ true
any_taken t ms x e = go (prepare_in x)
  where
    by : (b : Bool) → list_any (prepares t) (if b then ms else ms ++ x ∷ []) ≡ true
    by true = e
    by false = any_more (prepares t) ms (ms ++ x ∷ []) (x ∷ [], refl) e

    go : (o : Option ℕ) → list_any (prepares t) (with_prepare ms x o) ≡ true
    go None = e
    go (Some s) = by (list_any (prepares s) ms)

any_after : (t part : ℕ) (ms : List Mark) (es : List LogEntry) → list_any (prepares t) ms ≡ true → list_any (prepares t) (marks_after part ms es) ≡ true
any_after t part ms [] e = e
any_after t part ms (x ∷ es) e = any_after t part (if x.part == part then with_mark ms x.mark else ms) es (go (x.part == part))
  where
    go : (b : Bool) → list_any (prepares t) (if b then with_mark ms x.mark else ms) ≡ true
    go true = any_taken t ms x.mark e
    go false = e

-- and so is what a mark more prepares
taken_has : (t : ℕ) (ms : List Mark) (x : Mark) → prepares t x ≡ true → list_any (prepares t) (with_mark ms x) ≡ true
taken_has t ms (Committed s) e = absurd (cc (e))
taken_has t ms (Discarded s) e = absurd (cc (e))
taken_has t ms (Trimmed i) e = absurd (cc (e))
taken_has t ms (Prepared s ws is) e = go (list_any (prepares s) ms) refl
  where
    go : (b : Bool) → list_any (prepares s) ms ≡ b → list_any (prepares t) (if b then ms else ms ++ Prepared s ws is ∷ []) ≡ true
    go true known = subst (λ (n : ℕ). list_any (prepares n) ms ≡ true) (eqb-true s t e) known
    go false unknown = found_out (prepares t) (ms ++ Prepared s ws is ∷ []) (Prepared s ws is)
        (Contains-append_right ms (Prepared s ws is ∷ []) (Prepared s ws is) (0, omega arith, refl)) e

logged_after : (t part : ℕ) (ms : List Mark) (es : List LogEntry) (e : LogEntry) → Contains es e → e.part ≡ part → prepares t e.mark ≡ true
    → list_any (prepares t) (marks_after part ms es) ≡ true
logged_after t part ms [] e n at has = absurd (omega (arith, n.1))
logged_after t part ms (x ∷ es) e (zero, l, same) at has =
    let here : (x.part == part) ≡ true = eq-eqb x.part part (ap (λ (y : LogEntry). y.part) same ∙ at) in
    let own : prepares t x.mark ≡ true = subst (λ (y : LogEntry). prepares t y.mark ≡ true) (sym same) has in
    subst (λ (b : Bool). list_any (prepares t) (marks_after part (if b then with_mark ms x.mark else ms) es) ≡ true) (sym here)
    (any_after t part (with_mark ms x.mark) es (taken_has t ms x.mark own))
logged_after t part ms (x ∷ es) e (suc k, l, same) at has =
    logged_after t part (if x.part == part then with_mark ms x.mark else ms) es e (k, omega arith, same) at has

-- ---- in the cut of a service

module _ (o : Opening) (c : Cut) (es : List LogEntry) (log : IsLogOf o c es) where
  left : IsLeft c
  left = sound_left c log.sound

  place : (i : ℕ) → place_of c.parts i < c.parts
  place i = mod-lt (number_of i + kind_of i) (omega (arith, log.some))

  -- an entry's mark was made
  made : (e : LogEntry) → Contains es e → (p : ℕ) → e.part ≡ p → Contains (prefix_at c p) e.mark
  made e there p at = subst (λ (q : ℕ). Contains (prefix_at c q) e.mark) at
      (All-contains (λ (x : LogEntry). Contains (prefix_at c x.part) x.mark) es e log.made there)

  logged_for : (t i : ℕ) → IsLoggedFor c es t i → list_any (prepares t) (prefix_for c i) ≡ true
  logged_for t i f = found_out (prepares t) (prefix_for c i) f.entry.mark (made f.entry f.there (place_of c.parts i) f.part) f.prepared

  -- so what is logged is carried
  pub logged_carried : (t : ℕ) → IsLogged c es t → is_carried c t ≡ true
  logged_carried t g = carried_if c t (record {
    items = g.items;
    announced = g.announced;
    prepared = λ k d l. logged_for t (get_or g.items k d) (g.each k d l);
  })

  module _ (hs : List (List Mark)) (read : AreLogged o.parts es hs) where
    wide : length hs ≡ c.parts
    wide = read.count ∙ sym log.parts

    marks_is : (i : ℕ) → marks_at hs (place_of (length hs) i) ≡ marks_after (place_of c.parts i) [] es
    marks_is i = ap (λ (n : ℕ). marks_at hs (place_of n i)) wide
        ∙ get_or_from_slice_get hs (place_of c.parts i) (marks_after (place_of c.parts i) [] es) []
        (read.each (place_of c.parts i) (let l : place_of c.parts i < c.parts = place i in omega (arith, l, log.parts)))

    abbrev marks_for : ℕ → List Mark
    marks_for i = marks_at hs (place_of (length hs) i)

    of_entry : (i : ℕ) (m : Mark) → Contains (marks_for i) m → IsOfEntry (place_of c.parts i) es m
    of_entry i m n = ⊎_elim (λ (none : Contains [] m). absurd (omega (arith, none.1))) (λ (f : IsOfEntry (place_of c.parts i) es m). f)
        (marks_of (place_of c.parts i) [] es m (subst (λ (ms : List Mark). Contains ms m) (marks_is i) n))

    from_cut : (i : ℕ) (m : Mark) → Contains (marks_for i) m → Contains (prefix_for c i) m
    from_cut i m n =
        let f = of_entry i m n in
        subst (λ (x : Mark). Contains (prefix_for c i) x) f.is (made f.entry f.there (place_of c.parts i) f.at)

    -- an entry of each item's partition is one of its history
    any_logged : (t i : ℕ) → IsLoggedFor c es t i → list_any (prepares t) (marks_for i) ≡ true
    any_logged t i f = ap (list_any (prepares t)) (marks_is i)
        ∙ logged_after t (place_of c.parts i) [] es f.entry f.there f.part f.prepared

    logged_throughout : (t : ℕ) (is : List ℕ) → All (IsLoggedFor c es t) is → is_throughout hs t is ≡ true
    logged_throughout t is each = list_all-from_AllPass (λ i. list_any (prepares t) (marks_for i)) is
        (λ k d l. any_logged t (get_or is k d) (each k d l))

    for_item : (t i : ℕ) → list_any (prepares t) (marks_for i) ≡ true → IsLoggedFor c es t i
    for_item t i e =
        let m = found_in (prepares t) (marks_for i) e in
        let f = of_entry i m.0 m.1 in
        record { entry = f.entry; there = f.there; part = f.at; prepared = subst (λ (x : Mark). prepares t x ≡ true) (sym f.is) m.2 }

    throughout_logged : (t : ℕ) (ws : List Row) (is : List ℕ) → IsNamed c t ws is → is_throughout hs t is ≡ true → IsLogged c es t
    throughout_logged t ws is named e = record {
      items = is;
      announced = items_of_named c t ws is named;
      each = λ k d l. for_item t (get_or is k d)
          (list_all-contains (λ i. list_any (prepares t) (marks_for i)) is (get_or is k d) e (All-contains_itself is k d l));
    }

    module _ (i : ℕ) where
      abbrev newest_is : Option Kept
      newest_is = newest_of hs (first_kept o.items) i

      value_first : (v : Option Value) → value_kept (option_map (λ w. (0, w)) v) ≡ unwrap_or v Missing
      value_first None = refl
      value_first (Some v) = refl

      -- what is found in a mark is logged
      from_mark : (kept : Option Kept) → IsFrom hs i (marks_for i) kept → IsLoggedValue c es i (stamp_kept kept) (value_kept kept)
      from_mark kept f =
          let n : Contains (marks_for i) (Prepared f.of.t f.of.ws f.of.is) = subst (λ (x : Mark). Contains (marks_for i) x) f.of.mark f.listed in
          let here : Contains (prefix_for c i) (Prepared f.of.t f.of.ws f.of.is) = from_cut i (Prepared f.of.t f.of.ws f.of.is) n in
          let named = named_left c left (place_of c.parts i) f.of.t f.of.ws f.of.is here in
          let logged : IsLogged c es f.of.t = throughout_logged f.of.t f.of.ws f.of.is named f.of.carried in
          let wrote : written_value c i f.of.t ≡ Some f.of.v = written_so c left i f.of.t f.of.ws f.of.is here (logged_carried f.of.t logged) ∙ f.of.value in
          subst (λ (k : Option Kept). IsLoggedValue c es i (stamp_kept k) (value_kept k)) (sym f.of.kept_is) (inr (logged, wrote))

      value_logged : IsLoggedValue c es i (stamp_kept newest_is) (value_kept newest_is)
      value_logged = ⊎_elim
          (λ (e : newest_is ≡ first_kept o.items i). inl (
            ap stamp_kept e ∙ zero_first c left i (value_in o.items i),
            ap value_kept e ∙ value_first (value_in o.items i) ∙ ap (λ (rows : List Row). first_value rows i) (sym log.opened),
          ))
          (λ (f : IsFrom hs i (marks_for i) newest_is). from_mark newest_is f)
          (newest_from hs i (first_kept o.items i) (marks_for i))

      -- the mark of a logged stamp that wrote the item is in the history
      wrote_there : (t : ℕ) (v : Value) → IsLogged c es t → written_value c i t ≡ Some v → t ≤ stamp_kept newest_is
      wrote_there t v g e =
          let ms : List Mark = prefix_for c i in
          let p = version_prepared ms i t v (version_parts ms i t v e).1 in
          let named = named_left c left (place_of c.parts i) t p.0 p.1 p.2 in
          let on : Contains p.1 i = subst (λ (js : List ℕ). Contains js i) (sym named.items_are)
          (item_written named.all.writes (i, v) (named.within (i, v) (value_has p.0 i v p.3))) in
          let each : All (IsLoggedFor c es t) p.1 = subst (λ (js : List ℕ). All (IsLoggedFor c es t) js)
          (same_list c t g.items p.1 g.announced (items_of_named c t p.0 p.1 named)) g.each in
          let m = found_in (prepares t) (marks_for i) (any_logged t i (All-contains (IsLoggedFor c es t) p.1 i each on)) in
          let x = prepares_is t m.0 m.2 in
          let there : Contains (marks_for i) (Prepared t x.0 x.1) = subst (λ (y : Mark). Contains (marks_for i) y) x.2 m.1 in
          let legal = legal_left c left (place_of c.parts i) in
          let had : find (prepares t) ms ≡ Some (Prepared t x.0 x.1) = prepared_once ms legal t x.0 x.1 (from_cut i (Prepared t x.0 x.1) there) in
          let wrote : find (prepares t) ms ≡ Some (Prepared t p.0 p.1) = prepared_once ms legal t p.0 p.1 p.2 in
          let same : Prepared t x.0 x.1 ≡ Prepared t p.0 p.1 = some_same (sym had ∙ wrote) in
          newest_above hs i (first_kept o.items i) (marks_for i) t p.0 p.1 v
          (subst (λ (y : Mark). Contains (marks_for i) y) same there) (logged_throughout t p.1 each) p.3

  shows_left : (stamps : Stamps) (i : ℕ) (k : Option Kept)
      → stamp_left stamps i k ≡ (if is_there (value_kept k) then shown stamps i (stamp_kept k) else 0)
  shows_left stamps i None = refl
  shows_left stamps i (Some k) = refl

  pub opens : (next : Opening) (i : ℕ) → IsOpenedAfter o es next → (t : ℕ) × IsOpenedAt o c es next i t
  opens next i after =
      let kept : Option Kept = newest_of after.histories (first_kept o.items) i in
      let value : first_value next.items i ≡ value_kept kept = after.rows.values i in (
        stamp_kept kept,
        record {
          value = subst (λ (v : Value). IsLoggedValue c es i (stamp_kept kept) v) (sym value) (value_logged after.histories after.logged i);
          greatest = wrote_there after.histories after.logged i;
          shows = after.stamps i ∙ shows_left o.stamps i kept
              ∙ ap (λ (v : Value). if is_there v then shown o.stamps i (stamp_kept kept) else 0) (sym value);
        },
      )
