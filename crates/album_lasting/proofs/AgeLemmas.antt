-- No item has a version below the stamp that is its number, by which it is made (`ages`).
use Rattle.std.proofs.Common.{◌≡◌, ℕ, zero, suc, ◌<◌, ◌≤◌, true, false, not, List, [], ◌∷◌, filter, Contains, Option, Some, None, is_none, ⊎_elim, refl, sym, ap, ◌∙◌, subst, arith, true≢false}
use Rattle.std.specs.List.{list_all, list_any, flat_map}
use Rattle.std.specs.Option.{unwrap_or}
use Rattle.std.proofs.lemmas.Bool.{leb-true}
use Rattle.std.proofs.lemmas.List.Elements.{All-contains}
use Rattle.album_eval.specs.declared.policies.Policy.{Policy}
use Rattle.album_items.specs.ItemBack.{number_of-item}
use Rattle.album_items.specs.ItemIds.{number_of}
use Rattle.album_items.specs.Openings.{Row, is_low, has_low_numbers, is_low_row}
use Rattle.album_items.specs.Values.{head_of, list_of}
use Rattle.album_items.specs.declared.values.Value.{Value}
use Rattle.album_items.specs.declared.values.Value.TheVariants as value
use Rattle.album_partition.specs.Marks.{value_in, first_value}
use Rattle.album_reader.specs.Answers.{ReadVersion}
use Rattle.album_passes.specs.Cuts.{Cut}
use Rattle.album_views.specs.Seen.{seen}
use Rattle.album_listing.specs.Reasons.{is_granted_on}
use Rattle.album_listing.specs.declared.reasons.Alternative.{Alternative}
use Rattle.album_permits.proofs.Meeting.{granted-met}
use Rattle.album_permits.proofs.Needing.{effect-may}
use Rattle.album_permits.specs.Findings.{is_missing}
use Rattle.album_permits.specs.Meaning.{Finds, is_of_change, is_need_met, objects_changed, MayWrite}
use Rattle.album_permits.specs.Meaning.MayWrite.{New, Object, ListOf}
use Rattle.album_permits.specs.Needs.{needs_of}
use Rattle.album_permits.specs.Permits.{PermitState}
use Rattle.album_permits.specs.declared.findings.Finding.TheVariants.{Granted}
use Rattle.album_world.proofs.AgeLemmas.{pair_in, low_lists, new_number}
use Rattle.album_world.proofs.ListLemmas.{In, and_left, and_right, in_all, in_cases, in_filter, in_map, in_nil, not_true, within}
use Rattle.album_world.proofs.ListLemmas.In.{here, there}
use Rattle.album_world.proofs.ShownLemmas.{shown_there}
use Rattle.album_world.proofs.ValueLemmas.{IsWrittenAs, written_as}
use Rattle.album_world.proofs.ValueLemmas.IsWrittenAs.{Made, Rewritten, Gone, Listed}
use Rattle.album_lasting.specs.Staying.{IsOfCheckedService, IsCommittedAs}
use Rattle.album_lasting.proofs.VersionLemmas.{HasPermit, permit_for, version_high}

-- ---- what a granted ask may write is there

in_needs : (needs : List (List Alternative)) (a : Alternative) → In a (flat_map (λ (need : List Alternative). need) needs)
    → (need : List Alternative) × In need needs × In a need
in_needs [] a h = in_nil h
in_needs (need ∷ needs) a h = ⊎_elim
    (λ k. (need, here, k))
    (λ k. let r = in_needs needs a k in (r.0, there r.1, r.2))
    (in_cases need (flat_map (λ (one : List Alternative). one) needs) h)

pub changed_there : (permit : PermitState) → Finds permit Granted → (object : ℕ)
    → Contains (objects_changed (seen permit.view.rows) permit.view.ask) object
    → is_none (head_of (seen permit.view.rows object)) ≡ false
changed_there permit found object c =
    let basis = found.basis in
    let needs = needs_of basis.seen permit.view.ask in
    let all : List Alternative = flat_map (λ (need : List Alternative). need) needs in
    let d : Contains (objects_changed basis.seen permit.view.ask) object =
    subst (λ (look : ℕ → Value). Contains (objects_changed look permit.view.ask) object) (sym found.based.shown) c in
    let m = in_map (λ (a : Alternative). a.object) (filter (λ (a : Alternative). is_of_change a.mask) all) (within _ d) in
    let n = in_needs needs m.0 (in_filter (λ (a : Alternative). is_of_change a.mask) m.0 all m.1).0 in
    let met = in_all (is_need_met basis) needs ((granted-met basis permit.view.ask).0 found.is) n.1 in
    let there_all = and_left (list_all (λ (a : Alternative). not (is_missing basis a.object)) n.0)
    (list_any (λ (a : Alternative). is_granted_on basis a.object a.mask) n.0) met in
    subst (λ (look : ℕ → Value). is_none (head_of (look object)) ≡ false) found.based.shown
    (subst (λ (i : ℕ). is_none (head_of (basis.seen i)) ≡ false) (sym m.2)
    (not_true (is_missing basis m.0.object) (in_all (λ (a : Alternative). not (is_missing basis a.object)) n.0 there_all n.2)))

-- ---- how old what is written is

-- the numbers of the item and of its list are at most the stamp
pub record IsAged (t i : ℕ) (v : Value) : Type 0 where
  pub own : number_of i ≤ t
  pub lists : (n : ℕ) → Contains (list_of v) n → number_of n ≤ t

aged_later : (s t i : ℕ) (v : Value) → s ≤ t → IsAged s i v → IsAged t i v
aged_later s t i v l h = record {
  own = let k : number_of i ≤ s = h.own in omega (arith, k, l);
  lists = λ n c. let k : number_of n ≤ s = h.lists n c in omega (arith, k, l);
}

-- what an opening has
first_aged : (top t : ℕ) (rows : List Row) (i : ℕ) → list_all (is_low_row top) rows ≡ true → top ≤ t
    → is_none (head_of (first_value rows i)) ≡ false → IsAged t i (first_value rows i)
first_aged top t rows i right high headed = go (value_in rows i) refl headed
  where
    go : (o : Option Value) → value_in rows i ≡ o → is_none (head_of (unwrap_or o value.Missing)) ≡ false
        → IsAged t i (unwrap_or o value.Missing)
    go None e h = absurd (true≢false h)
    go (Some v) e h =
        let low = in_all (is_low_row top) rows right (pair_in rows i v e) in
        let number : number_of i ≤ top = leb-true (number_of i) top (and_left (is_low top (number_of i)) (has_low_numbers top v) low) in
        record {
          own = omega (arith, number, high);
          lists = λ n c.
              let few : number_of n ≤ top = low_lists top v (and_right (is_low top (number_of i)) (has_low_numbers top v) low) n c in
              omega (arith, few, high);
        }

-- what has a list has a head
list_headed : (v : Value) (n : ℕ) → Contains (list_of v) n → is_none (head_of v) ≡ false
list_headed value.Missing n c = in_nil (within [] c)
list_headed (value.Picture x) n c = refl
list_headed (value.Album x) n c = refl
list_headed (value.List x) n c = in_nil (within [] c)
list_headed (value.Group x) n c = refl

module _ (policy : Policy) (c : Cut) (h : IsOfCheckedService policy c) where
  -- of the versions below a bound
  abbrev Ages : ℕ → Type 0
  Ages n = (t : ℕ) → t < n → (i : ℕ) (v : Value) → IsCommittedAs c i t v → IsAged t i v

  -- what a view shows
  seen_aged : (n : ℕ) → Ages n → (i t : ℕ) (v : Value) (p : HasPermit policy c i t v) → h.above.greatest < t → t ≤ n → (object : ℕ)
      → is_none (head_of (seen p.permit.view.rows object)) ≡ false → IsAged t object (seen p.permit.view.rows object)
  seen_aged n rest i t v p high low object headed =
      let shown = shown_there p.permit.view.rows object headed in
      let below : shown.row.stamp < t = All-contains (λ (row : ReadVersion). row.stamp < t) p.permit.view.rows shown.row p.above shown.there in
      subst (λ (x : ℕ × Value). IsAged t x.0 x.1) (λ j. (shown.of j, sym shown.value j))
      (⊎_elim
      (λ (first : (shown.row.stamp ≡ 0) × (shown.row.value ≡ first_value c.opening shown.row.item)).
      subst (IsAged t shown.row.item) (sym first.1)
      (first_aged h.above.greatest t c.opening shown.row.item h.above.low (omega (arith, high))
      (subst (λ (w : Value). is_none (head_of w) ≡ false) (shown.value ∙ first.1) headed)))
      (λ (w : IsCommittedAs c shown.row.item shown.row.stamp shown.row.value).
      aged_later shown.row.stamp t shown.row.item shown.row.value (omega (arith, below))
      (rest shown.row.stamp (omega (arith, below, low)) shown.row.item shown.row.value w))
      (p.read shown.row shown.there))

  step : (n : ℕ) → Ages n → Ages (suc n)
  step n rest t low i v w =
      record {
        own = item_aged i (effect-may p.permit t (i, v) p.effect.written);
        lists = lists_aged (written_as p.permit t i v p.effect.written);
      }
    where
      p : HasPermit policy c i t v
      p = permit_for policy c h i t v w.is

      sees : (object : ℕ) → is_none (head_of (seen p.permit.view.rows object)) ≡ false → IsAged t object (seen p.permit.view.rows object)
      sees object headed =
          seen_aged n rest i t v p (version_high c i t v h.sound h.above w.is) (omega (arith, low)) object headed

      there_is : (object : ℕ) → Contains (objects_changed (seen p.permit.view.rows) p.permit.view.ask) object
          → IsAged t object (seen p.permit.view.rows object)
      there_is object k = sees object (changed_there p.permit p.effect.granted object k)

      item_aged : (item : ℕ) → MayWrite (seen p.permit.view.rows) t p.permit.view.ask item → number_of item ≤ t
      item_aged item (New new k) = let e : number_of item ≡ t = new_number p.permit.view.ask t item k in omega (arith, e)
      item_aged item (Object object k) = (there_is object k).own
      item_aged item (ListOf object other k whose) = (there_is object k).lists item whose

      lists_aged : IsWrittenAs (seen p.permit.view.rows) t p.permit.view.ask i v → (number : ℕ) → Contains (list_of v) number → number_of number ≤ t
      lists_aged (Made k own) number l =
          let e : number_of number ≡ t = ap number_of (own number l) ∙ number_of-item 2 t (omega arith) in omega (arith, e)
      lists_aged (Rewritten subject r) number l =
          let d : Contains (list_of (seen p.permit.view.rows i)) number = subst (λ (xs : List ℕ). Contains xs number) r.own_list l in
          (sees i (list_headed (seen p.permit.view.rows i) number d)).lists number d
      lists_aged (Gone object subject asked whose e) number l =
          in_nil (within [] (subst (λ (x : Value). Contains (list_of x) number) e l))
      lists_aged (Listed object subject whose sets entries e) number l =
          in_nil (within [] (subst (λ (x : Value). Contains (list_of x) number) e l))

  pub ages : (n : ℕ) → Ages n
  ages zero = λ t low i v w. absurd (omega (arith, low))
  ages (suc n) = step n (ages n)
