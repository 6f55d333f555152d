-- Each later version is made from an earlier one (`made_from`).
use Rattle.std.proofs.Common.{◌≡◌, ℕ, zero, suc, ◌<◌, ◌≤◌, Bool, true, false, List, Contains, Some, is_some, ◌==◌, ◌⊎◌, inl, inr, ⊎_elim, refl, sym, ap, ◌∙◌, subst, arith}
use Rattle.std.proofs.lemmas.Bool.{eqb-true, eqb-false}
use Rattle.album_eval.specs.declared.policies.Policy.{Policy}
use Rattle.album_items.specs.ItemIds.{number_of}
use Rattle.album_items.specs.declared.values.Value.{Value}
use Rattle.album_items.specs.declared.values.Value.TheVariants.{Missing}
use Rattle.album_partition.specs.Bases.{IsMadeOn}
use Rattle.album_partition.specs.Marks.{first_value, version}
use Rattle.album_partition.specs.declared.marks.Mark.{Mark}
use Rattle.album_passes.specs.Cuts.{Cut, prefix_for}
use Rattle.album_passes.specs.Reads.{written_value}
use Rattle.album_views.specs.Asks.{made_by}
use Rattle.album_views.specs.ReadSets.{IsNamed}
use Rattle.album_views.specs.ReadSets.IsNamed.{Subject, ListOf}
use Rattle.album_views.specs.Seen.{seen}
use Rattle.album_listing.specs.ViewLookups.{stamp_seen}
use Rattle.album_grounds.proofs.GoingOnLemmas.{is_committed}
use Rattle.album_world.proofs.AgeLemmas.{first_missing, new_number}
use Rattle.album_world.proofs.ListLemmas.{some_same}
use Rattle.album_world.proofs.ShownLemmas.{IsShownBy, shown_by, shown_read, shown_or_missing}
use Rattle.album_world.proofs.ValueLemmas.{IsWrittenAs, written_as}
use Rattle.album_world.proofs.ValueLemmas.IsWrittenAs.{Made, Rewritten, Gone, Listed}
use Rattle.album_lasting.specs.Staying.{IsOfCheckedService, IsCommittedAs, IsVersion, IsLaterVersion, IsMadeFrom}
use Rattle.album_lasting.specs.Staying.IsMadeFrom.{Same, Written}
use Rattle.album_lasting.proofs.VersionLemmas.{HasPermit, permit_for, version_high}

module _ (policy : Policy) (c : Cut) (h : IsOfCheckedService policy c) where
  -- what a write doesn't make is in its view
  read_or_made : (i t : ℕ) (v : Value) (p : HasPermit policy c i t v)
      → IsShownBy p.permit.view.rows i ⊎ Contains (made_by p.permit.view.ask t) i
  read_or_made i t v p = go (written_as p.permit t i v p.effect.written)
    where
      read : (item : ℕ) → IsNamed (seen p.permit.view.rows) p.permit.view.looker p.permit.view.ask item → IsShownBy p.permit.view.rows item
      read item named = shown_read p.permit.view.rows item (p.view.closed item named)

      go : IsWrittenAs (seen p.permit.view.rows) t p.permit.view.ask i v
          → IsShownBy p.permit.view.rows i ⊎ Contains (made_by p.permit.view.ask t) i
      go (Made new own) = inr new
      go (Rewritten subject r) = inl (read i (Subject i subject))
      go (Gone object subject asked whose e) = inl (⊎_elim
          (λ (same : object ≡ i). subst (IsShownBy p.permit.view.rows) same (read object (Subject object subject)))
          (λ k. read i (ListOf object i subject k))
          whose)
      go (Listed object subject whose sets entries e) = inl (read i (ListOf object i subject whose))

  -- what the view of a version's write shows of the item is a version
  shows_version : (i t : ℕ) (v : Value) (p : HasPermit policy c i t v) → written_value c i t ≡ Some v
      → IsVersion c i (stamp_seen p.permit.view.rows i) (seen p.permit.view.rows i)
  shows_version i t v p is = ⊎_elim of_row
      (λ (gone : seen p.permit.view.rows i ≡ Missing). ⊎_elim of_row
      (λ new. unseen gone (new_number p.permit.view.ask t i new) (stamp_seen p.permit.view.rows i == 0) refl)
      (read_or_made i t v p))
      (shown_or_missing p.permit.view.rows i)
    where
      of_row : IsShownBy p.permit.view.rows i → IsVersion c i (stamp_seen p.permit.view.rows i) (seen p.permit.view.rows i)
      of_row shown =
          subst (λ (x : ℕ × ℕ × Value). IsVersion c x.0 x.1 x.2) (λ j. (shown.of j, sym shown.stamp j, sym shown.value j))
          (p.read shown.row shown.there)

      unseen : seen p.permit.view.rows i ≡ Missing → number_of i ≡ t → (b : Bool) → (stamp_seen p.permit.view.rows i == 0) ≡ b
          → IsVersion c i (stamp_seen p.permit.view.rows i) (seen p.permit.view.rows i)
      unseen gone number false e = of_row (shown_by p.permit.view.rows i (eqb-false (stamp_seen p.permit.view.rows i) 0 e))
      unseen gone number true e = inl (
        eqb-true (stamp_seen p.permit.view.rows i) 0 e,
        gone ∙ sym (first_missing h.above.greatest c.opening i h.above.low
            (let high : h.above.greatest < t = version_high c i t v h.sound h.above is in omega (arith, number, high))),
      )

  module _ (i first : ℕ) (was : Value) (from : IsVersion c i first was) where
    -- a version at a stamp that is below a bound
    made_below : (n last : ℕ) (is : Value) → last < n → first ≤ last → IsVersion c i last is → IsMadeFrom policy c i first was last is
    made_below zero last is low after here = absurd (omega arith)
    made_below (suc n) last is low after (inl here) = ⊎_elim
        (λ (f : (first ≡ 0) × (was ≡ first_value c.opening i)).
        subst (λ (x : ℕ × Value). IsMadeFrom policy c i first was x.0 x.1)
        (λ j. ((f.0 ∙ sym here.0) j, (f.1 ∙ sym here.1) j)) Same)
        (λ (w : IsCommittedAs c i first was).
        let none : last ≡ 0 = here.0 in
        let high : h.above.greatest < first = version_high c i first was h.sound h.above w.is in absurd (omega (arith, after, none, high)))
        from
    made_below (suc n) last is low after (inr here) = go (first == last) refl (made_below n)
      where
        ms : List Mark
        ms = prefix_for c i

        high : h.above.greatest < last
        high = version_high c i last is h.sound h.above here.is

        go :
            (b : Bool) → (first == last) ≡ b
            → ((s : ℕ) (v : Value) → s < n → first ≤ s → IsVersion c i s v → IsMadeFrom policy c i first was s v)
            → IsMadeFrom policy c i first was last is
        go true same rest =
            let e : first ≡ last = eqb-true first last same in
            let v : was ≡ is = ⊎_elim
            (λ (f : (first ≡ 0) × (was ≡ first_value c.opening i)). let none : first ≡ 0 = f.0 in absurd (omega (arith, e, none, high)))
            (λ (w : IsCommittedAs c i first was). some_same (sym w.is ∙ ap (λ (s : ℕ). version ms i s) e ∙ here.is)) from in
            subst (λ (x : ℕ × Value). IsMadeFrom policy c i first was x.0 x.1) (λ j. (e j, v j)) Same
        go false other rest =
            let p = permit_for policy c h i last is here.is in
            let base = stamp_seen p.permit.view.rows i in
            let on : IsMadeOn ms i last base = p.effect.based h.checked (is_committed ms last here.committed) in
            let apart = eqb-false first last other in
            let below : base < last = on.below in
            let above : first ≤ base = ⊎_elim
            (λ (f : (first ≡ 0) × (was ≡ first_value c.opening i)). let none : first ≡ 0 = f.0 in omega (arith, none))
            (λ (w : IsCommittedAs c i first was).
            on.next first (is_committed ms first w.committed) (ap is_some w.is) (omega (arith, after, apart))) from in
            Written last is p.permit (record { committed = here; asked = p.asked }) below
            (rest base (seen p.permit.view.rows i) (omega (arith, below, low)) above (shows_version i last is p here.is))

pub made_from : (policy : Policy) (c : Cut) (i first last : ℕ) (was is : Value) → IsOfCheckedService policy c
    → IsLaterVersion c i first last was is → IsMadeFrom policy c i first was last is
made_from policy c i first last was is h after =
    made_below policy c h i first was after.earlier (suc last) last is (omega arith) after.order after.later
