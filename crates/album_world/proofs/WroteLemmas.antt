-- What a transaction wrote, and that there is no promise against it where it is prepared for each of its items.
use Rattle.std.proofs.Common.{◌≡◌, ℕ, List, Some, sym, ap, ◌∙◌, subst}
use Rattle.album_items.specs.ItemIds.{place_of}
use Rattle.album_items.specs.Openings.{Row}
use Rattle.album_items.specs.declared.openings.Opening.{Opening}
use Rattle.album_items.specs.declared.values.Value.{Value}
use Rattle.album_partition.specs.Marks.{value_in}
use Rattle.album_partition.proofs.GrowthLemmas.{promised_unprepared}
use Rattle.album_client.specs.Steps.{Transaction}
use Rattle.album_world.specs.Past.{World}
use Rattle.album_world.specs.Committing.{history}
use Rattle.album_world.proofs.ListLemmas.{In}
use Rattle.album_world.proofs.MarkLemmas.{IsPreparedIn, wrote, wrote_by, wrote_is, wrote_none}
use Rattle.album_world.proofs.PlaceLemmas.{in_item, value_placed}
use Rattle.album_world.proofs.Invariant.{IsKept, IsAgainst, IsSettled}

module _ (o : Opening) (w : World) (k : IsKept o w) where
  -- what is written at an item's partition, a transaction wrote
  pub written_by : (i t : ℕ) (v : Value) → wrote (history w (place_of o.parts i)) t i ≡ Some v
      → (r : Transaction) × In r w.past.transactions × (r.stamp ≡ t) × (value_in r.writes i ≡ Some v)
  written_by i t v h =
      let p = place_of o.parts i in
      let r = wrote_by (history w p) t i v h in
      let s = (k.sound p).prepared t r.by in (
        s.of,
        s.begun,
        s.stamp,
        sym (value_placed o.parts s.of.writes i) ∙ ap (λ (z : List Row). value_in z i)
            (sym s.writes) ∙ r.value,
      )

  -- a transaction's item is written where its stamp is prepared
  pub written_here : (r : Transaction) → In r w.past.transactions → (i : ℕ) (v : Value) → value_in r.writes i ≡ Some v
      → IsPreparedIn (history w (place_of o.parts i)) r.stamp
      → wrote (history w (place_of o.parts i)) r.stamp i ≡ Some v
  written_here r begun i v e f =
      let p = place_of o.parts i in
      let s = (k.sound p).prepared r.stamp f in
      let q : s.of ≡ r = k.unique s.of r s.begun begun s.stamp in
      wrote_is (history w p) r.stamp i f.writes f.items f.found
      ∙ ap (λ (z : List Row). value_in z i) s.writes ∙ value_placed o.parts s.of.writes i
      ∙ subst (λ (z : Transaction). value_in z.writes i ≡ Some v) (sym q) e

  -- where the partition of each item has prepared the stamp, none of them has discarded it unprepared
  pub apart : (t : ℕ) → IsAgainst o w t → IsSettled o w t → ⊥
  apart t a s =
      let e : s.of ≡ a.of = k.unique s.of a.of s.begun a.begun (s.stamp ∙ sym a.stamp) in
      let p = place_of o.parts a.item in
      let v = in_item a.of.writes a.item a.in_them in
      let h : wrote (history w p) t a.item ≡ Some v.0 = s.ready a.item v.0
      (subst (λ (z : Transaction). value_in z.writes a.item ≡ Some v.0) (sym e) v.1) in
      wrote_none (history w p) t a.item v.0 (promised_unprepared (history w p) t (k.sound p).legal a.promised) h
