-- A world is a sound cut. The laws cite `world_sound`.
use Rattle.std.proofs.Common.{◌≡◌, ℕ, zero, suc, ◌≤◌, Bool, true, false, ◌==◌, cond, List, [], ◌∷◌, map, length, get_or, All, Contains, Some, Option, is_some, Result, Ok, Err, refl, ap, sym, ◌∙◌, subst, ⊎_elim, arith, length-set}
use Rattle.std.specs.List.{list_any, zip}
use Rattle.std.specs.Option.{option_map}
use Rattle.std.proofs.lemmas.List.{append_assoc, length-map}
use Rattle.std.specs.Map.{lookup}
use Rattle.std.proofs.lemmas.Bool.Decides.{Decides-eqb}
use Rattle.std.proofs.lemmas.List.Elements.{All-contains_itself}
use Rattle.std.proofs.lemmas.List.FromFn.{length-map-range_with_len}
use Rattle.album_stamps.specs.declared.refusals.Refusal.{Refusal}
use Rattle.album_items.specs.ItemIds.{place_of}
use Rattle.album_items.specs.Openings.{Row, is_base_opening}
use Rattle.album_items.specs.Places.{is_placed, rows_placed_at}
use Rattle.album_items.specs.Transactions.{items_written}
use Rattle.album_items.specs.declared.openings.Opening.{Opening}
use Rattle.album_items.specs.declared.values.Value.{Value}
use Rattle.album_partition.specs.Partition.{PartitionState, first_partition}
use Rattle.album_partition.specs.Marks.{prepares, commits, discards, value_in, version, is_legal, IsPromisedAgainst}
use Rattle.album_partition.specs.declared.marks.Mark.{Mark}
use Rattle.album_partition.specs.declared.marks.Mark.TheVariants.{Prepared, Committed, Discarded, Trimmed}
use Rattle.album_client.specs.Steps.{Transaction}
use Rattle.album_client.specs.Terms.{Terms, terms_of}
use Rattle.album_permits.specs.declared.events.Event.{Event}
use Rattle.album_passes.specs.Cuts.{Announced, marks_at, prefix_at, announced_for, items_announced, HasReached, IsPreparedFor, IsPreparedOver, IsOverItsBase, IsBacked, IsSound}
use Rattle.album_world.specs.State.{history_in}
use Rattle.album_world.specs.Past.{World, Read}
use Rattle.album_world.specs.Committing.{history, IsCommitted}
use Rattle.album_world.specs.Changes.{Change, change_of}
use Rattle.album_world.specs.Changes.Change.{Nothing, AtPart, AtClient, Stops}
use Rattle.album_world.specs.Runs.{changed_by, happens, start, run, run_of}
use Rattle.album_world.proofs.ListLemmas.{In, contains, within, in_uncons, in_nil, in_filter, map_in, any_in, self_eqb, apart}
use Rattle.album_world.proofs.MarkLemmas.{IsPreparedIn, wrote, wrote_by, prepared_any, version_is, some_is}
use Rattle.album_world.proofs.PlaceLemmas.{in_item}
use Rattle.album_world.proofs.Invariant.{IsKept, IsSettled}
use Rattle.album_world.proofs.RunLemmas.{always_kept}
use Rattle.album_epochs.proofs.FoldLemmas.{prepared_once}
use Rattle.album_reader.specs.Answers.{ReadVersion}
use Rattle.album_epochs.specs.Carried.{is_carried, carried_stamp}
use Rattle.album_epochs.proofs.CarriedLemmas.{throughout, committed_carried, undiscarded}
use Rattle.album_epochs.proofs.EpochLemmas.{above}
use Rattle.album_restarts.specs.Worlds.{histories_of, announced_of, announced_by, depended_by, cut_of_world}
use Rattle.album_world.proofs.UpdateLemmas.{base_is, chained_at}
use Rattle.album_partition.specs.Bases.{is_chained}
use Rattle.album_partition.specs.Proper.{has_row}
use Rattle.album_listing.specs.ViewLookups.{stamp_seen}

-- ---- how many partitions there are

parts_by : (w : World) (e : Event) (r : Result Change Refusal) → length (changed_by w e r).now.partitions ≡ length w.now.partitions
parts_by w e (Err why) = refl
parts_by w e (Ok Nothing) = refl
parts_by w e (Ok (AtPart p h ms)) = length-set w.now.partitions p h
parts_by w e (Ok (AtClient c x)) = refl
parts_by w e (Ok (Stops c)) = refl

parts_run : (terms : Terms) (w : World) (es : List Event) → length (run terms w es).now.partitions ≡ length w.now.partitions
parts_run terms w [] = refl
parts_run terms w (e ∷ es) = parts_run terms (happens terms w e) es ∙ parts_by w e (change_of terms w.now e)

pub parts_are : (o : Opening) (es : List Event) → length (run_of o es).now.partitions ≡ o.parts
parts_are o es = parts_run (terms_of o) (start o) es ∙ length-map-range_with_len (first_partition o.checked o.parts o.limit o.items) 0 o.parts

-- ---- the histories

pub history_is : (hs : List PartitionState) (p : ℕ) → marks_at (histories_of hs) p ≡ history_in hs p
history_is [] p = refl
history_is (h ∷ hs) zero = refl
history_is (h ∷ hs) (suc p) = history_is hs p

-- ---- what is announced

abbrev listed : List Transaction → ℕ → Option Announced
listed ts t = lookup (λ u. u == t) (map announced_by ts)

announced_is : (ts : List Transaction) (r : Transaction) → In r ts → ((x : Transaction) → In x ts → x.stamp ≡ r.stamp → x ≡ r)
    → listed ts r.stamp ≡ Some (announced_of r)
announced_is [] r n one = in_nil n
announced_is (x ∷ ts) r n one = go (x.stamp == r.stamp) refl (λ m. announced_is ts r m (λ y k. one y (In.there k)))
  where
    go : (b : Bool) → (x.stamp == r.stamp) ≡ b → (In r ts → listed ts r.stamp ≡ Some (announced_of r))
        → cond b (Some (announced_of x)) (listed ts r.stamp) ≡ Some (announced_of r)
    go true e h = ap (λ (y : Transaction). Some (announced_of y)) (one x In.here ((Decides-eqb x.stamp r.stamp).0 e))
    go false e h = ⊎_elim
        (λ (same : r ≡ x). apart x.stamp r.stamp e (ap (λ (y : Transaction). y.stamp) (sym same)))
        h
        (in_uncons n)

both_there : (ts : List Transaction) (t : ℕ) → is_some (lookup (λ u. u == t) (map depended_by ts)) ≡ is_some (listed ts t)
both_there [] t = refl
both_there (x ∷ ts) t = go (x.stamp == t) (both_there ts t)
  where
    go : (b : Bool) → is_some (lookup (λ u. u == t) (map depended_by ts)) ≡ is_some (listed ts t)
        → is_some (cond b (Some []) (lookup (λ u. u == t) (map depended_by ts))) ≡ is_some (cond b (Some (announced_of x)) (listed ts t))
    go true h = refl
    go false h = h

nothing_depended : (ts : List Transaction) (t : ℕ) (ls : List ℕ) → lookup (λ u. u == t) (map depended_by ts) ≡ Some ls → ls ≡ []
nothing_depended [] t ls e = absurd (cc (e))
nothing_depended (x ∷ ts) t ls e = go (x.stamp == t) e (nothing_depended ts t ls)
  where
    go : (b : Bool) → cond b (Some []) (lookup (λ u. u == t) (map depended_by ts)) ≡ Some ls
        → (lookup (λ u. u == t) (map depended_by ts) ≡ Some ls → ls ≡ []) → ls ≡ []
    go true f h = cc (f)
    go false f h = h f

-- ---- what is written is announced

placed_in : (p parts : ℕ) (rs : List Row) (row : Row) → Contains (rows_placed_at p parts rs) row
    → Contains rs row × (place_of parts row.0 ≡ p)
placed_in p parts rs row c =
    let f = in_filter (λ (w : Row). is_placed p parts w.0) row rs (within _ c) in
    (contains f.0, (Decides-eqb (place_of parts row.0) p).0 f.1)

-- a write, with what is seen of it
with_base : (f : Row → ℕ) (rs : List Row) (row : Row) → In row rs → In (row, f row) (zip rs (map f rs))
with_base f [] row n = in_nil n
with_base f (r ∷ rs) row n = ⊎_elim
    (λ (same : row ≡ r). subst (λ (x : Row). In (x, f x) (zip (r ∷ rs) (map f (r ∷ rs)))) (sym same) In.here)
    (λ m. In.there (with_base f rs row m))
    (in_uncons n)

has_value : (rs : List Row) (row : Row) → In row rs → is_some (value_in rs row.0) ≡ true
has_value rs row n = let v = in_item rs row.0 (map_in (λ (w : Row). w.0) n) in ap is_some v.1

any_row : (rs : List Row) (row : Row) → In row rs → has_row rs row.0 ≡ true
any_row rs row n = any_in (λ (w : Row). w.0 == row.0) rs n (self_eqb row.0)

-- ---- a world

module _ (o : Opening) (w : World) (k : IsKept o w) where
  announced_for_is : (t : ℕ) (r : Transaction) → In r w.past.transactions → r.stamp ≡ t
      → announced_for (cut_of_world o w) t ≡ Some (announced_of r)
  announced_for_is t r n e = subst (λ (u : ℕ). announced_for (cut_of_world o w) u ≡ Some (announced_of r)) e
      (announced_is w.past.transactions r n (λ x m same. k.unique x r m n same))

  at_history : (P : List Mark → Type 0) (p : ℕ) → P (history w p) → P (prefix_at (cut_of_world o w) p)
  at_history P p h = subst P (sym (history_is w.now.partitions p)) h

  -- so are its items
  items_for_is : (t : ℕ) (r : Transaction) → In r w.past.transactions → r.stamp ≡ t
      → items_announced (cut_of_world o w) t ≡ Some (items_written r.writes)
  items_for_is t r n e = ap (option_map (λ (a : Announced). items_written a.writes)) (announced_for_is t r n e)

  -- in a checked store a write is prepared over its base
  over_base : (p t : ℕ) (ws : List Row) (js : List ℕ) → Contains (history w p) (Prepared t ws js) → o.checked ≡ true
      → (row : Row) → Contains ws row → IsOverItsBase (cut_of_world o w) t row
  over_base p t ws js n on row c =
      let s = k.sound p in
      let by : IsPreparedIn (history w p) t = record { writes = ws; items = js; found = prepared_once (history w p) s.legal t ws js n } in
      let b = s.based on t by in
      let r : Transaction = b.is.of in
      let at = placed_in p o.parts r.writes row (subst (λ (rs : List Row). Contains rs row) b.is.writes c) in
      let there : is_some (value_in ws row.0) ≡ true = has_value ws row (within ws c) in
      record {
        all = announced_of r;
        announced = announced_for_is t r b.is.begun b.is.stamp;
        base = stamp_seen r.permit.view.rows row.0;
        of = contains (with_base (λ (x : Row). stamp_seen r.permit.view.rows x.0) r.writes row (within r.writes at.0));
        over = subst (λ (q : ℕ). IsPreparedOver (prefix_at (cut_of_world o w) q) t row.0 (stamp_seen r.permit.view.rows row.0)) (sym at.1)
            (at_history (λ (ms : List Mark). IsPreparedOver ms t row.0 (stamp_seen r.permit.view.rows row.0)) p (record {
              before = b.before;
              writes = ws;
              items = js;
              had = (b.later, append_assoc b.before (Prepared t ws js ∷ []) b.later ∙ sym b.all);
              wrote = any_row ws row (within ws c);
              latest_is = base_is b.before t r.permit ws row.0 b.based there;
            }));
      }

  backed : (p : ℕ) (m : Mark) → Contains (history w p) m → IsBacked (cut_of_world o w) m
  backed p (Prepared t ws js) n =
      let s = k.sound p in
      let by : IsPreparedIn (history w p) t = record { writes = ws; items = js; found = prepared_once (history w p) s.legal t ws js n } in
      let r = s.prepared t by in
      record {
        named = record {
          all = announced_of r.of;
          announced = announced_for_is t r.of r.begun r.stamp;
          items_are = r.items;
          within = λ row c. (placed_in p o.parts r.of.writes row (subst (λ (rs : List Row). Contains rs row) r.writes c)).0;
        };
        based = λ on row c. over_base p t ws js n on row c;
      }
  backed p (Committed t) n =
      let d = (k.sound p).committed t (any_in (commits t) (history w p) (within (history w p) n) (self_eqb t)) in
      record {
        items = items_written d.of.writes;
        announced = items_for_is t d.of d.begun d.stamp;
        prepared = λ j e l. prepared_for d (get_or (items_written d.of.writes) j e) (All-contains_itself (items_written d.of.writes) j e l);
      }
    where
      prepared_for : (d : IsSettled o w t) (i : ℕ) → Contains (items_written d.of.writes) i → IsPreparedFor (cut_of_world o w) t i
      prepared_for d i c =
          let v = in_item d.of.writes i (within (items_written d.of.writes) c) in
          let h = wrote_by (history w (place_of o.parts i)) t i v.0 (d.ready i v.0 v.1) in
          at_history (λ (ms : List Mark). list_any (prepares t) ms ≡ true) (place_of o.parts i) (prepared_any (history w (place_of o.parts i)) t h.by)
  backed p (Discarded t) n =
      let d = (k.sound p).discarded t (any_in (discards t) (history w p) (within (history w p) n) (self_eqb t)) in
      record {
        items = items_written d.of.writes;
        announced = items_for_is t d.of d.begun d.stamp;
        item = d.item;
        listed = contains d.in_them;
        promised = at_history (λ (ms : List Mark). IsPromisedAgainst ms t) (place_of o.parts d.item) d.promised;
      }
  backed p (Trimmed i) n = tt

  pub sound_world : length w.now.partitions ≡ o.parts → IsSound (cut_of_world o w)
  sound_world wide = record {
    wide = length-map w.now.partitions (λ h. h.marks) ∙ wide;
    legal = λ p. at_history (λ (ms : List Mark). is_legal ms ≡ true) p (k.sound p).legal;
    chained = λ p on. at_history (λ (ms : List Mark). is_chained ms ≡ true) p (chained_at o w k on p);
    closed = λ p. at_history (All (IsBacked (cut_of_world o w))) p
        (λ j d l. backed p (get_or (history w p) j d) (All-contains_itself (history w p) j d l));
    depends = λ t. both_there w.past.transactions t;
    causal = λ t ls e. subst (λ (ks : List ℕ). HasReached ks (cut_of_world o w)) (sym (nothing_depended w.past.transactions t ls e)) (λ p. omega arith);
  }

pub world_sound : (o : Opening) (es : List Event) → is_base_opening o ≡ true → IsSound (cut_of_world o (run_of o es))
world_sound o es is = sound_world o (run_of o es) (always_kept o es is) (parts_are o es)

-- ---- what it has committed is carried

module _ (o : Opening) (w : World) (k : IsKept o w) (s : IsSound (cut_of_world o w)) where
  pub carried_world : (t : ℕ) → IsCommitted w t → is_carried (cut_of_world o w) t ≡ true
  carried_world t done = committed_carried (cut_of_world o w) t s
      (done.0, at_history o w k (λ (ms : List Mark). list_any (commits t) ms ≡ true) done.0 done.1)

  pub written_above : (t i : ℕ) (v : Value) → IsCommitted w t → wrote (history w (place_of o.parts i)) t i ≡ Some v → t ≤ carried_stamp (cut_of_world o w) i
  written_above t i v done has =
      let e = carried_world t done in
      let none : list_any (discards t) (history w (place_of o.parts i)) ≡ false =
      subst (λ (ms : List Mark). list_any (discards t) ms ≡ false) (history_is w.now.partitions (place_of o.parts i))
      (undiscarded (cut_of_world o w) (place_of o.parts i) t s (throughout (cut_of_world o w) t e)) in
      let there : is_some (version (history w (place_of o.parts i)) i t) ≡ true = ap is_some (version_is (history w (place_of o.parts i)) i t none ∙ has) in
      above (cut_of_world o w) i t (at_history o w k (λ (ms : List Mark). is_some (version ms i t) ≡ true) (place_of o.parts i) there) e

pub committed_world : (o : Opening) (es : List Event) (t : ℕ) → is_base_opening o ≡ true → IsCommitted (run_of o es) t
    → is_carried (cut_of_world o (run_of o es)) t ≡ true
committed_world o es t is done = carried_world o (run_of o es) (always_kept o es is) (world_sound o es is) t done

pub write_kept : (o : Opening) (es : List Event) (by : Transaction) (i : ℕ) → is_base_opening o ≡ true
    → Contains (run_of o es).past.transactions by → IsCommitted (run_of o es) by.stamp → is_some (value_in by.writes i) ≡ true
    → by.stamp ≤ carried_stamp (cut_of_world o (run_of o es)) i
write_kept o es by i is n done some =
    let w : World = run_of o es in
    let k = always_kept o es is in
    let d = (k.sound done.0).committed by.stamp done.1 in
    let v = some_is (value_in by.writes i) some in
    let same : d.of ≡ by = k.unique d.of by d.begun (within w.past.transactions n) d.stamp in
    written_above o w k (world_sound o es is) by.stamp i v.0 done
    (d.ready i v.0 (ap (λ (x : Transaction). value_in x.writes i) same ∙ v.1))

pub read_kept : (o : Opening) (es : List Event) (read : Read) (rows : List ReadVersion) (row : ReadVersion) → is_base_opening o ≡ true
    → Contains (run_of o es).past.reads read → read.rows ≡ Some rows → Contains rows row
    → row.stamp ≤ carried_stamp (cut_of_world o (run_of o es)) row.item
read_kept o es read rows row is n e m =
    let w : World = run_of o es in
    let k = always_kept o es is in
    let f = (k.reads read rows (within w.past.reads n) e).found row (within rows m) in
    ⊎_elim
    (λ z. (let zero : row.stamp ≡ 0 = z.0 in omega (arith, zero)))
    (λ h. ⊎_elim
    (λ (zero : row.stamp ≡ 0). omega (arith, zero))
    (λ (done : IsCommitted w row.stamp). written_above o w k (world_sound o es is) row.stamp row.item row.value done h.1)
    f.committed)
    f.value
