-- What a cut has of a read and of a write. What was read is a version (`row_version`), so is what is kept (`kept_whole`),
-- and each version has the permit of a granted write (`permit_for`).
use Rattle.std.proofs.Common.{◌≡◌, ◌≢◌, ℕ, zero, suc, ◌<◌, ◌≤◌, true, List, [], ◌∷◌, length, Contains, All, Some, filter, inl, inr, ⊎_elim, refl, sym, ap, ◌∙◌, subst, arith}
use Rattle.std.specs.List.{list_all}
use Rattle.std.proofs.lemmas.List.Elements.{All-contains}
use Rattle.album_stamps.specs.Stamps.{client_number, counter_of}
use Rattle.album_eval.specs.declared.policies.Policy.{Policy}
use Rattle.album_items.specs.ItemIds.{place_of}
use Rattle.album_items.specs.Openings.{Row, is_low_row, is_base_opening, greatest_number}
use Rattle.album_items.specs.Places.{rows_placed_at}
use Rattle.album_items.specs.declared.openings.Opening.{Opening}
use Rattle.album_items.specs.declared.values.Value.{Value}
use Rattle.album_partition.specs.Bases.{IsMadeOn}
use Rattle.album_partition.specs.Marks.{prepares, commits, mark_writes, value_in, first_value}
use Rattle.album_partition.specs.declared.marks.Mark.{Mark}
use Rattle.album_partition.specs.declared.marks.Mark.TheVariants.{Prepared}
use Rattle.album_partition.proofs.LegalLemmas.{prepared_once}
use Rattle.album_partition.proofs.ListLemmas.{kept_out}
use Rattle.album_partition.proofs.StateLemmas.{same_stamp}
use Rattle.album_reader.specs.Answers.{ReadVersion}
use Rattle.album_reader.specs.Atomic.{IsWrittenBy}
use Rattle.album_passes.specs.Cuts.{Cut, Announced, prefix_at, prefix_for, announced_for, IsBaseOf, IsSound, Extends}
use Rattle.album_passes.specs.Reads.{IsCommitted, IsCommittedFor, written_value, writes_in_cut}
use Rattle.album_passes.proofs.ClosedLemmas.{never_discarded}
use Rattle.album_passes.proofs.CutLemmas.{extends_self, extends_trans, prefix_for_more}
use Rattle.album_passes.proofs.PrefixLemmas.{any_more}
use Rattle.album_passes.proofs.PreparedLemmas.{version_announced, version_based}
use Rattle.album_passes.proofs.ReadLemmas.{version_parts, version_prepared}
use Rattle.album_listing.specs.ViewLookups.{stamp_seen}
use Rattle.album_views.specs.Views.{IsView}
use Rattle.album_permits.specs.Effects.{effect_of}
use Rattle.album_permits.specs.Permits.{PermitState, permit_on}
use Rattle.album_grounds.specs.Grounds.{IsSeen, IsKept, items_of, write_of}
use Rattle.album_grounds.specs.Granted.{IsPermitFor, IsAskedFor, AreGranted, IsEffectOn}
use Rattle.album_grounds.proofs.GoingOnLemmas.{kept_written, own_writes, no_older}
use Rattle.album_grounds.proofs.GroundLemmas.{kept_more}
use Rattle.album_grounds.proofs.RoundLemmas.{value_placed}
use Rattle.album_grounds.proofs.WriteLemmas.{pair_is}
use Rattle.album_passes.proofs.ReadLemmas.{item_written}
use Rattle.album_world.proofs.AgeLemmas.{pair_in}
use Rattle.album_world.proofs.ListLemmas.{contains, some_same}
use Rattle.album_world.proofs.MarkLemmas.{some_is, wrote, version_wrote, version_is, wrote_more}
use Rattle.album_world.proofs.StayLemmas.{low_rows}
use Rattle.album_writer.proofs.Placing.{participant}
use Rattle.album_lasting.specs.Staying.{AllGranted, IsAboveItsOpening, IsOfCheckedService, IsVersion, IsLaterVersion, IsKeptWhole}

-- ---- the premises

pub all_granted : (policy : Policy) (c : Cut) (ns : List ℕ) → ((n : ℕ) → Contains ns n → AreGranted policy n c)
    → ((t : ℕ) (a : Announced) → announced_for c t ≡ Some a → Contains ns (client_number t)) → AllGranted policy c
all_granted policy c ns each own = λ t a e. each (client_number t) (own t a e) t a refl e

pub granted_still : (policy : Policy) (n : ℕ) (c d : Cut) → Extends c d
    → ((t : ℕ) → client_number t ≡ n → announced_for d t ≡ announced_for c t) → AreGranted policy n c → AreGranted policy n d
granted_still policy n c d x same h = λ t a own e.
    let w = h t a own (sym (same t own) ∙ e) in
    record {
      principal = w.principal;
      ask = w.ask;
      begun = w.begun;
      then = w.then;
      since = extends_trans w.then c d w.since x;
      permitted = w.permitted;
    }

pub above_opening : (o : Opening) (c : Cut) → is_base_opening o ≡ true → c.opening ≡ o.items
    → ((t : ℕ) (a : Announced) → announced_for c t ≡ Some a → o.first < counter_of t) → IsAboveItsOpening c
above_opening o c opens same high = record {
  greatest = greatest_number o.first;
  low = subst (λ (rows : List Row). list_all (is_low_row (greatest_number o.first)) rows ≡ true) (sym same) (low_rows o opens);
  above = λ t a e. (let h : o.first < counter_of t = high t a e in omega (arith, h));
}

-- ---- what was read

-- a version is at a stamp that is announced
pub version_high : (c : Cut) (i t : ℕ) (v : Value) → IsSound c → (above : IsAboveItsOpening c) → written_value c i t ≡ Some v → above.greatest < t
version_high c i t v s above e = let a = version_announced c i t v s e in above.above t a.0 a.1

-- what an earlier cut shows of a committed stamp, a later one does
pub written_more : (n c : Cut) (i t : ℕ) (v : Value) → IsSound c → Extends n c → IsCommitted n t → written_value n i t ≡ Some v → written_value c i t ≡ Some v
written_more n c i t v s x done e =
    let p = prefix_for_more n c x i in
    let there = any_more (commits t) (prefix_at n done.0) (prefix_at c done.0) (x.prefixes done.0) done.1 in
    version_is (prefix_for c i) i t (never_discarded c done.0 (place_of c.parts i) t s there)
    ∙ subst (λ (ms : List Mark). wrote ms t i ≡ Some v) p.1 (wrote_more (prefix_for n i) p.0 t i v (version_wrote (prefix_for n i) i t v e))

pub row_version : (b n c : Cut) (rows : List ReadVersion) (row : ReadVersion) → IsSound c → IsAboveItsOpening c → Extends n c → IsSeen b n rows
    → Contains rows row → IsVersion c row.item row.stamp row.value
row_version b n c rows row s above x seen there = ⊎_elim
    (λ (z : (row.stamp ≡ 0) × (row.value ≡ first_value n.opening row.item)).
    inl (z.0, z.1 ∙ ap (λ (o : List Row). first_value o row.item) (sym x.opening)))
    (λ (w : IsWrittenBy (writes_in_cut n) row).
    let is = written_more n c row.item row.stamp row.value s x (subst (IsCommitted n) w.at w.committed)
    (subst (λ (t : ℕ). written_value n row.item t ≡ Some row.value) w.at w.wrote) in
    let high : above.greatest < row.stamp = version_high c row.item row.stamp row.value s above is in
    let own = All-contains (λ (r : ReadVersion). r.stamp ≢ 0 → IsCommittedFor n r.stamp r.item) rows row seen.settled there
    (λ z. omega (arith, z, high)) in
    inr (record {
      committed = any_more (commits row.stamp) (prefix_for n row.item) (prefix_for c row.item) (prefix_for_more n c x row.item) own;
      is = is;
    }))
    (seen.atomic.written row there)

-- ---- what is kept

-- two that are in a list of one are the same
alone : (ms : List Mark) (a b : Mark) → length ms ≤ 1 → Contains ms a → Contains ms b → a ≡ b
alone [] a b few (k, l, e) c = absurd (omega arith)
alone (m ∷ ms) a b few (zero, l, e) (zero, k, f) = sym e ∙ f
alone (m ∷ ms) a b few (zero, l, e) (suc n, k, f) = absurd (omega arith)
alone (m ∷ ms) a b few (suc n, l, e) c = absurd (omega arith)

-- so a stamp is prepared with the same writes
one_prepared : (ms : List Mark) (t : ℕ) (ws vs : List Row) (is js : List ℕ) → length (filter (prepares t) ms) ≤ 1 → Contains ms (Prepared t ws is)
    → Contains ms (Prepared t vs js) → ws ≡ vs
one_prepared ms t ws vs is js few a b =
    ap (λ (m : Mark). mark_writes (Some m))
    (alone (filter (prepares t) ms) (Prepared t ws is) (Prepared t vs js) few
    (kept_out (prepares t) ms (Prepared t ws is) (same_stamp t) a) (kept_out (prepares t) ms (Prepared t vs js) (same_stamp t) b))

kept_as : (c : Cut) (permit : PermitState) (t : ℕ) → IsSound c → 1 ≤ c.parts → IsKept c permit t → IsKeptWhole c permit t
kept_as c permit t s low kept = λ i v wrote.
    let of : Contains (items_of permit t) i = item_written (effect_of permit t) (i, v) (contains (pair_in (effect_of permit t) i v wrote)) in
    let w = kept_written c permit t i s low kept of in
    let place = place_of c.parts i in
    let at = kept place ((participant c.parts place (items_of permit t) low).1 (i, of, refl)) in
    let is = some_is (written_value c i t) w.1 in
    let p = version_prepared (prefix_for c i) i t is.0 (version_parts (prefix_for c i) i t is.0 is.1).1 in
    let rows : p.0 ≡ rows_placed_at place c.parts (effect_of permit t) =
    one_prepared (prefix_at c place) t p.0 _ p.1 _ (prepared_once (prefix_at c place) t (s.legal place)) p.2 at.prepared in
    let same : is.0 ≡ v = some_same (sym p.3 ∙ ap (λ (ws : List Row). value_in ws i) rows
    ∙ value_placed (effect_of permit t) place c.parts i refl ∙ wrote) in
    record { committed = w.0; is = is.1 ∙ ap Some same }

pub kept_whole : (c d : Cut) (permit : PermitState) (t : ℕ) → IsSound d → 1 ≤ d.parts → Extends c d → IsKept c permit t → IsKeptWhole d permit t
kept_whole c d permit t s low x kept = kept_as d permit t s low (kept_more c d permit t x kept)

-- ---- what is read later

pub read_since : (o l d : Cut) (permit : PermitState) (t : ℕ) (rows : List ReadVersion) (row : ReadVersion) (was : Value) → IsSound o → IsSound d
    → IsAboveItsOpening d → 1 ≤ o.parts → Extends o l → Extends l d → IsKept o permit t → value_in (effect_of permit t) row.item ≡ Some was
    → IsSeen l d rows → Contains rows row → IsLaterVersion d row.item t row.stamp was row.value
read_since o l d permit t rows row was s r above low x y kept wrote seen there =
    let on = extends_trans o l d x y in
    let parts : d.parts ≡ o.parts = on.parts in
    record {
      earlier = inr (kept_whole o d permit t r (omega (arith, low, parts)) on kept row.item was wrote);
      later = row_version l d d rows row r above (extends_self d) seen there;
      order = own_writes o l d permit t rows s r low x y kept seen row there
          (item_written (effect_of permit t) (row.item, was) (contains (pair_in (effect_of permit t) row.item was wrote)));
    }

pub read_again : (b o l d : Cut) (first second : List ReadVersion) (one other : ReadVersion) → IsSound o → IsSound d → IsAboveItsOpening d
    → Extends o l → Extends l d → IsSeen b o first → IsSeen l d second → Contains first one → Contains second other → other.item ≡ one.item
    → IsLaterVersion d one.item one.stamp other.stamp one.value other.value
read_again b o l d first second one other s r above x y h k n m same = record {
  earlier = row_version b o d first one r above (extends_trans o l d x y) h n;
  later = subst (λ (i : ℕ). IsVersion d i other.stamp other.value) same (row_version l d d second other r above (extends_self d) k m);
  order = no_older b o l d first second s r x y h k one other n m same;
}

-- ---- what is written

same_announced : (c : Cut) (t : ℕ) (a b : Announced) → announced_for c t ≡ Some a → announced_for c t ≡ Some b → a ≡ b
same_announced c t a b e f = cc (e, f)

-- a value that is announced is the permit's, on the base that its view shows
effect_on : (c : Cut) (t i : ℕ) (v : Value) (a : Announced) (permit : PermitState) → IsSound c → announced_for c t ≡ Some a
    → Contains a.writes (i, v) → written_value c i t ≡ Some v → IsPermitFor t a permit → IsEffectOn c t i v permit
effect_on c t i v a permit s announced wrote there h = record {
  granted = h.granted;
  written = subst (λ (y : Announced). Contains y.writes (i, v)) h.writes wrote;
  based = λ checked done. (let b = version_based c i t v s checked there done in
      let all : b.0 ≡ write_of permit t = same_announced c t b.0 a b.1 announced ∙ h.writes in
      let base : stamp_seen permit.view.rows i ≡ b.2.0 =
      (pair_is (λ (row : Row). stamp_seen permit.view.rows row.0) (write_of permit t).writes (i, v) b.2.0
      (subst (λ (y : Announced). IsBaseOf y (i, v) b.2.0) all b.2.1)).1 in
      subst (λ (y : ℕ). IsMadeOn (prefix_for c i) i t y) (sym base) b.2.2);
}

-- the permit of a version's write, with what it read
pub record HasPermit (policy : Policy) (c : Cut) (i t : ℕ) (v : Value) : Type 0 where
  pub permit : PermitState
  pub asked : IsAskedFor policy c (λ (granted : PermitState). (granted ≡ permit) × IsEffectOn c t i v granted)
  pub effect : IsEffectOn c t i v permit
  pub above : All (λ (row : ReadVersion). row.stamp < t) permit.view.rows
  pub view : IsView permit.view
  pub read : (row : ReadVersion) → Contains permit.view.rows row → IsVersion c row.item row.stamp row.value

pub permit_for : (policy : Policy) (c : Cut) → IsOfCheckedService policy c → (i t : ℕ) (v : Value) → written_value c i t ≡ Some v → HasPermit policy c i t v
permit_for policy c h i t v e =
    let a = version_announced c i t v h.sound e in
    let w = h.granted t a.0 a.1 in
    let permit = permit_on policy w.principal w.ask w.permitted.rows in
    let effect = effect_on c t i v a.0 permit h.sound a.1 a.2 e w.permitted.holds in
    record {
      permit = permit;
      asked = record {
        principal = w.principal;
        ask = w.ask;
        begun = w.begun;
        then = w.then;
        since = w.since;
        permitted = record {
          rows = w.permitted.rows;
          seen = w.permitted.seen;
          view = w.permitted.view;
          holds = (refl, effect);
        };
      };
      effect = effect;
      above = w.permitted.holds.above;
      view = w.permitted.view;
      read = λ row there. row_version w.begun w.then c w.permitted.rows row h.sound h.above w.since w.permitted.seen there;
    }
