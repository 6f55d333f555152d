-- No item is written before the stamp that is its number, by which it is made (`ages`). No opening has it
-- (`first_missing`). For `StayLemmas` and `KeepLemmas`.
use Rattle.std.proofs.Common.{◌≡◌, ℕ, zero, suc, ◌<◌, ◌≤◌, ◌==◌, ◌&&◌, Bool, true, false, not, cond, List, [], ◌∷◌, filter, Contains, Option, Some, None, is_none, ⊎_elim, refl, sym, ap, ◌∙◌, subst, arith, true≢false, eqb-true}
use Rattle.std.specs.List.{list_all, list_any, flat_map}
use Rattle.std.specs.Option.{unwrap_or, option_map_or}
use Rattle.std.proofs.lemmas.Bool.{leb-true}
use Rattle.album_items.specs.ItemBack.{number_of-item}
use Rattle.album_items.specs.ItemIds.{item, list, number_of}
use Rattle.album_items.specs.Openings.{Row, is_low, are_low, has_low_numbers, is_low_row, greatest_number}
use Rattle.album_items.specs.Values.{head_of, list_of}
use Rattle.album_items.specs.declared.openings.Opening.{Opening}
use Rattle.album_items.specs.declared.values.Value.{Value}
use Rattle.album_items.specs.declared.values.Value.TheVariants as value
use Rattle.album_partition.specs.Marks.{value_in, first_value}
use Rattle.album_reader.specs.Atomic.{IsReadAtomic, IsWrittenBy}
use Rattle.album_views.specs.Asks.{made_by}
use Rattle.album_views.specs.Seen.{seen}
use Rattle.album_views.specs.declared.asks.Ask.{Ask}
use Rattle.album_views.specs.declared.asks.Ask.TheVariants as ask
use Rattle.album_listing.specs.Reasons.{is_granted_on}
use Rattle.album_listing.specs.declared.reasons.Alternative.{Alternative}
use Rattle.album_permits.proofs.Granting.{basis_for, needs-met}
use Rattle.album_permits.proofs.Needing.{effect-may}
use Rattle.album_permits.specs.Effects.{effect_of}
use Rattle.album_permits.specs.Findings.{is_missing}
use Rattle.album_permits.specs.Meaning.{is_of_change, is_need_met, objects_changed, MayWrite}
use Rattle.album_permits.specs.Meaning.MayWrite.{New, Object, ListOf}
use Rattle.album_permits.specs.Needs.{needs_of}
use Rattle.album_permits.specs.Permits.{PermitState, IsPermit}
use Rattle.album_client.specs.Steps.{Transaction}
use Rattle.album_client.specs.Terms.{terms_of}
use Rattle.album_world.specs.Atomic.{writes_in_world}
use Rattle.album_world.specs.Granted.{IsGranted}
use Rattle.album_world.specs.Past.{World}
use Rattle.album_world.proofs.ListLemmas.{In, and_left, and_right, in_all, in_cases, in_filter, in_map, in_nil, in_one, in_uncons, none_some, not_true, some_same, within, contains}
use Rattle.album_world.proofs.ListLemmas.In.{here, there}
use Rattle.album_world.proofs.ShownLemmas.{shown_there}
use Rattle.album_world.proofs.ValueLemmas.{IsWrittenAs, written_as}
use Rattle.album_world.proofs.ValueLemmas.IsWrittenAs.{Made, Rewritten, Gone, Listed}

-- ---- in lists

pub pair_in : (ws : List Row) (i : ℕ) (v : Value) → value_in ws i ≡ Some v → In (i, v) ws
pair_in [] i v h = none_some h
pair_in (w ∷ ws) i v h = go (w.0 == i) refl h (pair_in ws i v)
  where
    go : (b : Bool) → (w.0 == i) ≡ b → cond b (Some w.1) (value_in ws i) ≡ Some v
        → (value_in ws i ≡ Some v → In (i, v) ws) → In (i, v) (w ∷ ws)
    go true e k rest = subst (λ (r : Row). In r (w ∷ ws)) (λ j. (eqb-true w.0 i e j, some_same k j)) here
    go false e k rest = there (rest k)

in_needs : (needs : List (List Alternative)) (a : Alternative) → In a (flat_map (λ (need : List Alternative). need) needs)
    → (need : List Alternative) × In need needs × In a need
in_needs [] a h = in_nil h
in_needs (need ∷ needs) a h = ⊎_elim
    (λ k. (need, here, k))
    (λ k. let r = in_needs needs a k in (r.0, there r.1, r.2))
    (in_cases need (flat_map (λ (one : List Alternative). one) needs) h)

-- ---- what an ask may write is there

pub changed_there : (permit : PermitState) → IsPermit permit → (object : ℕ)
    → Contains (objects_changed (seen permit.view.rows) permit.view.ask) object
    → is_none (head_of (seen permit.view.rows object)) ≡ false
changed_there permit kept object c =
    let basis = basis_for permit in
    let needs = needs_of (seen permit.view.rows) permit.view.ask in
    let all : List Alternative = flat_map (λ (need : List Alternative). need) needs in
    let m = in_map (λ (a : Alternative). a.object) (filter (λ (a : Alternative). is_of_change a.mask) all) (within _ c) in
    let n = in_needs needs m.0 (in_filter (λ (a : Alternative). is_of_change a.mask) m.0 all m.1).0 in
    let met = in_all (is_need_met basis) needs (needs-met permit kept) n.1 in
    let there_all = and_left (list_all (λ (a : Alternative). not (is_missing basis a.object)) n.0)
    (list_any (λ (a : Alternative). is_granted_on basis a.object a.mask) n.0) met in
    subst (λ (i : ℕ). is_none (head_of (seen permit.view.rows i)) ≡ false) (sym m.2)
    (not_true (is_missing basis m.0.object) (in_all (λ (a : Alternative). not (is_missing basis a.object)) n.0 there_all n.2))

-- ---- the numbers of an opening are at most the greatest that it may have

listed : (top number : ℕ) → is_low top number ≡ true → (n : ℕ) → n ≡ list number → number_of n ≤ top
listed top number low n e =
    let l : number ≤ top = leb-true number top low in
    let q : number_of (list number) ≡ number = number_of-item 2 number (omega arith) in
    subst (λ (i : ℕ). number_of i ≤ top) (sym e) (omega (arith, l, q))

pub low_lists : (top : ℕ) (v : Value) → has_low_numbers top v ≡ true → (n : ℕ) → Contains (list_of v) n → number_of n ≤ top
low_lists top value.Missing low n c = in_nil (within [] c)
low_lists top (value.Picture x) low n c =
    listed top x.head.list (and_left (is_low top x.head.list) (is_low top x.home) low) n (in_one (within _ c))
low_lists top (value.Album x) low n c =
    listed top x.head.list
    (and_left (is_low top x.head.list) (option_map_or (is_low top) x.home true)
    (and_left (is_low top x.head.list && option_map_or (is_low top) x.home true) (are_low top x.children) low))
    n (in_one (within _ c))
low_lists top (value.List x) low n c = in_nil (within [] c)
low_lists top (value.Group x) low n c = listed top x.head.list low n (in_one (within _ c))

-- what has a list has a head
list_headed : (v : Value) (n : ℕ) → Contains (list_of v) n → is_none (head_of v) ≡ false
list_headed value.Missing n c = in_nil (within [] c)
list_headed (value.Picture x) n c = refl
list_headed (value.Album x) n c = refl
list_headed (value.List x) n c = in_nil (within [] c)
list_headed (value.Group x) n c = refl

-- ---- how old what is written is

-- an item that no opening can have is not made later than at the stamp
pub record IsOld (top item stamp : ℕ) : Type 0 where
  pub known : top < number_of item → number_of item ≤ stamp

pub record IsAged (top stamp item : ℕ) (is : Value) : Type 0 where
  pub own : IsOld top item stamp
  pub lists : (n : ℕ) → Contains (list_of is) n → IsOld top n stamp

older : (top item first last : ℕ) → first ≤ last → IsOld top item first → IsOld top item last
older top item first last l h = record { known = λ high. let k : number_of item ≤ first = h.known high in omega (arith, k, l) }

aged_later : (top first last item : ℕ) (is : Value) → first ≤ last → IsAged top first item is → IsAged top last item is
aged_later top first last item is l h =
    record { own = older top item first last l h.own; lists = λ n c. older top n first last l (h.lists n c) }

-- what an opening has
first_aged : (top : ℕ) (items : List Row) (item stamp : ℕ) → list_all (is_low_row top) items ≡ true
    → is_none (head_of (first_value items item)) ≡ false → IsAged top stamp item (first_value items item)
first_aged top items item stamp right headed = go (value_in items item) refl headed
  where
    go : (o : Option Value) → value_in items item ≡ o → is_none (head_of (unwrap_or o value.Missing)) ≡ false
        → IsAged top stamp item (unwrap_or o value.Missing)
    go None e h = absurd (true≢false h)
    go (Some v) e h =
        let low = in_all (is_low_row top) items right (pair_in items item v e) in
        let number : number_of item ≤ top =
        leb-true (number_of item) top (and_left (is_low top (number_of item)) (has_low_numbers top v) low) in
        record {
          own = record { known = λ high. absurd (omega (arith, high, number)) };
          lists = λ n c.
              let few : number_of n ≤ top =
              low_lists top v (and_right (is_low top (number_of item)) (has_low_numbers top v) low) n c in
              record { known = λ high. absurd (omega (arith, high, few)) };
        }

-- and what it can't have
pub first_missing : (top : ℕ) (items : List Row) (item : ℕ) → list_all (is_low_row top) items ≡ true
    → top < number_of item → first_value items item ≡ value.Missing
first_missing top items item right high = go (value_in items item) refl
  where
    go : (o : Option Value) → value_in items item ≡ o → unwrap_or (value_in items item) value.Missing ≡ value.Missing
    go None e = ap (λ (o : Option Value). unwrap_or o value.Missing) e
    go (Some v) e =
        let low = in_all (is_low_row top) items right (pair_in items item v e) in
        let number : number_of item ≤ top =
        leb-true (number_of item) top (and_left (is_low top (number_of item)) (has_low_numbers top v) low) in
        absurd (omega (arith, number, high))

-- a new item has the stamp for its number
pub new_number : (asked : Ask) (stamp new : ℕ) → Contains (made_by asked stamp) new → number_of new ≡ stamp
new_number asked stamp new = by_ask asked
  where
    none : Contains [] new → number_of new ≡ stamp
    none c = in_nil (within [] c)

    pair : (code : ℕ) → code < 4 → Contains (item code stamp ∷ list stamp ∷ []) new → number_of new ≡ stamp
    pair code small c = ⊎_elim
        (λ (e : new ≡ item code stamp). ap number_of e ∙ number_of-item code stamp small)
        (λ l. ap number_of (in_one l) ∙ number_of-item 2 stamp (omega arith))
        (in_uncons (within (item code stamp ∷ list stamp ∷ []) c))

    by_ask : (a : Ask) → Contains (made_by a stamp) new → number_of new ≡ stamp
    by_ask (ask.Read object) = none
    by_ask (ask.List into) = none
    by_ask (ask.GetList object) = none
    by_ask (ask.Head object) = none
    by_ask (ask.Children into) = none
    by_ask (ask.AddPicture into title content) = pair 0 (omega arith)
    by_ask (ask.AddAlbum into title) = pair 1 (omega arith)
    by_ask (ask.AddGroup into members) = pair 3 (omega arith)
    by_ask (ask.Retitle object title) = none
    by_ask (ask.Replace object content) = none
    by_ask (ask.Delete object) = none
    by_ask (ask.Move object to) = none
    by_ask (ask.SetLists lists) = none
    by_ask (ask.SetOwner object owner number) = none
    by_ask (ask.SetMembers object members) = none
    by_ask (ask.Share lists members) = none

module _ (o : Opening) (w : World) (right : list_all (is_low_row (greatest_number o.first)) o.items ≡ true)
    (granted : (by : Transaction) → Contains w.past.transactions by → IsGranted (terms_of o) w by)
    (atomic : (by : Transaction) → Contains w.past.transactions by
    → IsReadAtomic (writes_in_world w) (first_value o.items) by.permit.view.rows) where
  abbrev top : ℕ
  top = greatest_number o.first

  -- what is written below a bound
  abbrev Ages : ℕ → Type 0
  Ages n = (by : Transaction) → Contains w.past.transactions by → by.stamp < n → (i : ℕ) (v : Value)
      → value_in by.writes i ≡ Some v → IsAged top by.stamp i v

  -- what a view shows
  seen_aged : (n : ℕ) → Ages n → (by : Transaction) → Contains w.past.transactions by → by.stamp ≤ n → (i : ℕ)
      → is_none (head_of (seen by.permit.view.rows i)) ≡ false → IsAged top by.stamp i (seen by.permit.view.rows i)
  seen_aged n rest by begun low i headed =
      let shown = shown_there by.permit.view.rows i headed in
      let g = granted by begun in
      let below : shown.row.stamp < by.stamp = g.later shown.row
      (subst (λ (p : PermitState). Contains p.view.rows shown.row) g.on shown.there) in
      subst (λ (x : ℕ × Value). IsAged top by.stamp x.0 x.1) (λ j. (shown.of j, sym shown.value j))
      (⊎_elim
      (λ (first : (shown.row.stamp ≡ 0) × (shown.row.value ≡ first_value o.items shown.row.item)).
      subst (IsAged top by.stamp shown.row.item) (sym first.1)
      (first_aged top o.items shown.row.item by.stamp right
      (subst (λ (v : Value). is_none (head_of v) ≡ false) (shown.value ∙ first.1) headed)))
      (λ (write : IsWrittenBy (writes_in_world w) shown.row).
      let at : write.by.by.stamp ≡ shown.row.stamp = write.at in
      aged_later top write.by.by.stamp by.stamp shown.row.item shown.row.value (omega (arith, at, below))
      (rest write.by.by write.by.begun (omega (arith, at, below, low)) shown.row.item shown.row.value write.wrote))
      ((atomic by begun).written shown.row shown.there))

  step : (n : ℕ) → Ages n → Ages (suc n)
  step n rest by begun low i v wrote =
      let g = granted by begun in
      let c : Contains (effect_of by.permit by.stamp) (i, v) =
      subst (λ (ws : List Row). Contains ws (i, v)) g.writes.effect (contains (pair_in by.writes i v wrote)) in
      record {
        own = item_aged i (effect-may by.permit by.stamp (i, v) c);
        lists = lists_aged (written_as by.permit by.stamp i v c);
      }
    where
      sees : (object : ℕ) → is_none (head_of (seen by.permit.view.rows object)) ≡ false
          → IsAged top by.stamp object (seen by.permit.view.rows object)
      sees object headed = seen_aged n rest by begun (omega (arith, low)) object headed

      there_is : (object : ℕ) → Contains (objects_changed (seen by.permit.view.rows) by.permit.view.ask) object
          → IsAged top by.stamp object (seen by.permit.view.rows object)
      there_is object c = sees object (changed_there by.permit (granted by begun).granted object c)

      item_aged : (item : ℕ) → MayWrite (seen by.permit.view.rows) by.stamp by.permit.view.ask item → IsOld top item by.stamp
      item_aged item (New new c) =
          record { known = λ high. let e : number_of item ≡ by.stamp = new_number by.permit.view.ask by.stamp item c in omega (arith, e) }
      item_aged item (Object object c) = (there_is object c).own
      item_aged item (ListOf object other c whose) = (there_is object c).lists item whose

      lists_aged : IsWrittenAs (seen by.permit.view.rows) by.stamp by.permit.view.ask i v → (number : ℕ)
          → Contains (list_of v) number → IsOld top number by.stamp
      lists_aged (Made c own) number l =
          let e : number ≡ list by.stamp = own number l in
          let q : number_of (list by.stamp) ≡ by.stamp = number_of-item 2 by.stamp (omega arith) in
          record { known = λ high. let a : number_of number ≡ by.stamp = ap number_of e ∙ q in omega (arith, a) }
      lists_aged (Rewritten subject r) number l =
          let d : Contains (list_of (seen by.permit.view.rows i)) number =
          subst (λ (xs : List ℕ). Contains xs number) r.own_list l in
          (sees i (list_headed (seen by.permit.view.rows i) number d)).lists number d
      lists_aged (Gone object subject asked whose e) number l =
          in_nil (within [] (subst (λ (x : Value). Contains (list_of x) number) e l))
      lists_aged (Listed object subject whose sets entries e) number l =
          in_nil (within [] (subst (λ (x : Value). Contains (list_of x) number) e l))

  pub ages : (n : ℕ) → Ages n
  ages zero = λ by begun low i v wrote. absurd (omega (arith, low))
  ages (suc n) = step n (ages n)
