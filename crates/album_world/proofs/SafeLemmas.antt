-- What follows of the invariant for snapshots and for the outcomes of writes.
use Rattle.std.proofs.Common.{◌≡◌, ℕ, ◌<◌, ◌≤◌, ◌+◌, ◌*◌, true, List, Some, is_some, inl, inr, ⊎_elim, sym, ap, ◌∙◌, subst, arith, Contains}
use Rattle.std.specs.List.{find, list_any}
use Rattle.album_items.specs.ItemIds.{place_of}
use Rattle.album_items.specs.Openings.{Row}
use Rattle.album_items.specs.Places.{places_of}
use Rattle.album_items.specs.Transactions.{items_written}
use Rattle.album_items.specs.declared.openings.Opening.{Opening}
use Rattle.album_partition.specs.declared.marks.Mark.{Mark}
use Rattle.album_partition.specs.declared.marks.Mark.TheVariants.{Prepared}
use Rattle.album_partition.specs.Partition.{PartitionState}
use Rattle.album_partition.specs.Marks.{prepares, commits, value_in, first_value, IsPromisedAgainst}
use Rattle.album_partition.proofs.StateLemmas.{unknown_tells}
use Rattle.album_reader.specs.Answers.{ReadVersion}
use Rattle.album_reader.specs.Atomic.{IsFracturedBy, IsWritten, IsFreshRow}
use Rattle.album_client.specs.Terms.{terms_of}
use Rattle.album_client.specs.Steps.{Transaction}
use Rattle.album_world.specs.State.{history_in}
use Rattle.album_world.specs.Past.{World}
use Rattle.album_world.specs.Committing.{history, IsCommitted, IsCommittedAt, IsCommittedEverywhere, IsPromisedSomewhere}
use Rattle.album_world.specs.Atomic.{writes_in_world, ViewsAreReadAtomic}
use Rattle.album_world.specs.Fresh.{IsCommittedFor, ViewsAreFresh}
use Rattle.album_world.specs.Outcomes.{IsLost}
use Rattle.album_world.proofs.ListLemmas.{In, contains, within, find_more}
use Rattle.album_world.proofs.MarkLemmas.{IsPreparedIn, wrote, wrote_is, wrote_none, some_is}
use Rattle.album_world.proofs.PlaceLemmas.{in_item, value_placed, place_in, item_at}
use Rattle.album_world.proofs.Invariant.{IsKept, IsRead, IsDone, IsUnsettled, IsAgainst, IsNoLater}
use Rattle.album_world.proofs.WroteLemmas.{written_by, apart}

module _ (o : Opening) (w : World) (k : IsKept o w) where
  -- ---- snapshots

  whole : (began : List PartitionState) (fs : List ReadVersion) → IsRead o w began fs → (f g : ReadVersion) → In f fs → In g fs
      → IsFracturedBy (writes_in_world w) f g → ⊥
  whole began fs d f g fi gi x =
      let by : Transaction = x.by.by in
      let a : f.stamp ≡ by.stamp = x.at in
      let s : g.stamp < by.stamp = x.older in
      ⊎_elim
      (λ (z : f.stamp ≡ 0). omega arith)
      (λ (n : IsNoLater w g.item g.stamp f.stamp).
      let e : n.of ≡ by = k.unique n.of by n.begun (within w.past.transactions x.by.begun) (n.stamp ∙ a) in
      let b : f.stamp ≤ g.stamp = n.bound
      (subst (λ (z : Transaction). is_some (value_in z.writes g.item) ≡ true) (sym e) x.wrote_other) in
      omega arith)
      (d.above g f gi fi)

  written : (began : List PartitionState) (fs : List ReadVersion) → IsRead o w began fs → (f : ReadVersion) → In f fs
      → IsWritten (writes_in_world w) (first_value o.items) f
  written began fs d f h =
      let g = d.found f h in
      ⊎_elim inl
      (λ (v : (f.stamp ≡ 0 → ⊥) × (wrote (history w (place_of o.parts f.item)) f.stamp f.item ≡ Some f.value)). ⊎_elim
      (λ (z : f.stamp ≡ 0). absurd (v.0 z))
      (λ (c : IsCommitted w f.stamp).
      let r = written_by o w k f.item f.stamp f.value v.1 in
      inr (record {
        by = record { by = r.0; begun = contains r.1 };
        committed = subst (IsCommitted w) (sym r.2) c;
        at = r.2;
        wrote = r.3;
      }))
      g.committed)
      g.value

  pub views_atomic : ViewsAreReadAtomic o w
  views_atomic f rows h e =
      let d = k.reads f rows (within w.past.reads h) e in
      record {
        whole = λ one other i j. whole f.begun.partitions rows d one other (within rows i) (within rows j);
        written = λ row i. written f.begun.partitions rows d row (within rows i);
      }

  fresh : (began : List PartitionState) (fs : List ReadVersion) → IsRead o w began fs → (f : ReadVersion) → In f fs
      → IsFreshRow (writes_in_world w) (IsCommittedFor (terms_of o) began) f
  fresh began fs d f h past wrote_it c =
      let r : Transaction = past.by in
      let begun = within w.past.transactions past.begun in
      let p = place_of o.parts f.item in
      let b = d.begun p in
      let q = b.committed r.stamp c in
      let now : IsPreparedIn (history w p) r.stamp = record {
        writes = q.writes;
        items = q.items;
        found = subst (λ (z : List Mark). find (prepares r.stamp) z ≡ Some (Prepared r.stamp q.writes q.items))
            (sym b.is) (find_more (prepares r.stamp) (history_in began p) b.more (Prepared r.stamp q.writes q.items)
            q.found);
      } in
      let v = some_is (value_in r.writes f.item) wrote_it in
      let s = (k.sound p).prepared r.stamp now in
      let e : s.of ≡ r = k.unique s.of r s.begun begun s.stamp in
      let ws : value_in q.writes f.item ≡ Some v.0 =
      ap (λ (z : List Row). value_in z f.item) s.writes ∙ value_placed o.parts s.of.writes f.item
      ∙ subst (λ (z : Transaction). value_in z.writes f.item ≡ Some v.0) (sym e) v.1 in
      (d.found f h).fresh.at r.stamp v.0 c (wrote_is (history_in began p) r.stamp f.item q.writes q.items q.found ∙ ws)

  pub views_fresh : ViewsAreFresh (terms_of o) w
  views_fresh f rows h e row i = fresh f.begun.partitions rows (k.reads f rows (within w.past.reads h) e) row
      (within rows i)

  -- ---- outcomes

  pub everywhere : (t : ℕ) → IsDone o w t → (r : Transaction) → In r w.past.transactions → r.stamp ≡ t
      → IsCommittedEverywhere (terms_of o) w r
  everywhere t d r i e p h =
      let same : d.of ≡ r = k.unique d.of r d.begun i (d.stamp ∙ sym e) in
      subst (λ (z : ℕ). IsCommittedAt w z p) (sym e)
      (d.at p (within _ (subst (λ (z : Transaction). Contains (places_of o.parts (items_written z.writes)) p)
      (sym same) h)))

  pub against : 0 < o.parts → (t : ℕ) → IsAgainst o w t → (r : Transaction) → In r w.past.transactions → r.stamp ≡ t
      → IsPromisedSomewhere (terms_of o) w r
  against some t a r i e =
      let same : a.of ≡ r = k.unique a.of r a.begun i (a.stamp ∙ sym e) in
      subst (IsPromisedSomewhere (terms_of o) w) same
      (record {
        part = place_of o.parts a.item;
        of = contains (place_in o.parts (items_written a.of.writes) a.item some a.in_them);
        promised = subst (λ (z : ℕ). IsPromisedAgainst (history w (place_of o.parts a.item)) z)
            (sym a.stamp) a.promised;
      })

  -- where the stamp is unknown at one of its partitions, nobody has committed it
  never : (t : ℕ) → IsUnsettled o w t → IsCommitted w t → ⊥
  never t u c =
      let s = (k.sound c.0).committed t c.1 in
      let e : s.of ≡ u.of = k.unique s.of u.of s.begun u.begun (s.stamp ∙ sym u.stamp) in
      let i = item_at o.parts (items_written u.of.writes) u.part u.one_of in
      let v = in_item u.of.writes i.item i.in_them in
      let h : wrote (history w (place_of o.parts i.item)) t i.item ≡ Some v.0 = s.ready i.item v.0
      (subst (λ (z : Transaction). value_in z.writes i.item ≡ Some v.0) (sym e) v.1) in
      wrote_none (history w u.part) t i.item v.0 (unknown_tells _ _ _ u.full.unknown).2
      (subst (λ (z : ℕ). wrote (history w z) t i.item ≡ Some v.0) i.at h)

  -- no stamp of a transaction is 0
  above_zero : (r : Transaction) → In r w.past.transactions → r.stamp ≡ 0 → ⊥
  above_zero r i e =
      let d = k.drawn r i in
      let is : r.stamp ≡ d.counter * 65536 + d.client = d.is in
      let low : 0 < d.client = d.low in
      omega (arith, e)

  lost : (t : ℕ) (r : Transaction) → In r w.past.transactions → r.stamp ≡ t → (IsCommitted w t → ⊥) → IsLost w t
  lost t r i e unless =
      record {
        uncommitted = unless;
        unseen = λ f rows row h s l q.
            let g = (k.reads f rows (within w.past.reads h) s).found row (within rows l) in
            ⊎_elim
            (λ (z : row.stamp ≡ 0). above_zero r i (e ∙ sym q ∙ z))
            (λ (c : IsCommitted w row.stamp). unless (subst (IsCommitted w) q c))
            g.committed;
      }

  pub not_both : (t p : ℕ) → IsAgainst o w t → list_any (commits t) (history w p) ≡ true → ⊥
  not_both t p a c = apart o w k t a ((k.sound p).committed t c)

  pub lost_against : (t : ℕ) → IsAgainst o w t → IsLost w t
  lost_against t a = lost t a.of a.begun a.stamp (λ c. apart o w k t a ((k.sound c.0).committed t c.1))

  pub lost_unsettled : (t : ℕ) → IsUnsettled o w t → IsLost w t
  lost_unsettled t u = lost t u.of u.begun u.stamp (never t u)
