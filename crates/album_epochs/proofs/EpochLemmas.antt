-- What of each item is carried: the laws of views cite these; the main one is `above`.
use Rattle.std.proofs.Common.{◌≡◌, ◌≢◌, ℕ, length, ◌+◌, ◌<◌, ◌≤◌, Bool, true, false, ◌==◌, ◌||◌, inl, inr, List, [], ◌∷◌, All, Contains, is_some, Some, None, Option, if◌then◌else◌, refl, ap, sym, ◌∙◌, ⊎_elim, arith, eq-eqb, ne_eqb}
use Rattle.std.specs.List.{list_any}
use Rattle.std.specs.Option.{unwrap_or}
use Rattle.std.proofs.lemmas.Bool.{and_parts, and_from}
use Rattle.std.proofs.lemmas.List.Elements.{All-contains}
use native.Mathlib.Decide.{ℕ_discrete}
use mathlib.Core.Logic.{dite}
use Rattle.album_items.specs.ItemIds.{place_of}
use Rattle.album_items.specs.declared.values.Value.{Value}
use Rattle.album_items.specs.declared.values.Value.TheVariants.{Missing}
use Rattle.album_terminate.specs.declared.deciding.StampState.{StampState}
use Rattle.album_terminate.specs.declared.deciding.StampState.TheVariants as state
use Rattle.album_partition.specs.declared.marks.Mark.{Mark}
use Rattle.album_partition.specs.declared.marks.Mark.TheVariants.{Prepared, Committed, Discarded, Trimmed}
use Rattle.album_partition.specs.Marks.{may_follow, is_unknown, is_pending, prepares, commits, state_of, prepared_stamps, first_value}
use Rattle.album_partition.proofs.ListLemmas.{contains_from_any}
use Rattle.album_versions.proofs.Greatest.{All-best_of, best_of-passes}
use Rattle.album_reader.specs.Answers.{ReadVersion}
use Rattle.album_reader.specs.Atomic.{IsFracturedBy, IsWritten, IsWrittenBy}
use Rattle.album_passes.specs.Cuts.{Cut, prefix_at, prefix_for, items_announced, IsPreparedThroughout, IsSound, Extends}
use Rattle.album_passes.specs.Changes.{marked_cut}
use Rattle.album_passes.proofs.CutLemmas.{sound_marked}
use Rattle.album_passes.proofs.ClosedLemmas.{discarded_backs}
use Rattle.album_partition.proofs.StateLemmas.{unknown_tells}
use Rattle.std.proofs.Math.Nat.{mod-lt}
use Rattle.album_items.specs.ItemIds.{number_of, kind_of}
use Rattle.album_passes.specs.Reads.{IsCommitted, written_value, writes_in_cut}
use Rattle.album_passes.proofs.ReadLemmas.{version_parts, version_prepared}
use Rattle.album_epochs.specs.Carried.{IsLeft, is_carried, has_carried, carried_stamp, writes_carried, IsCarriedRow}
use Rattle.album_epochs.proofs.CarriedLemmas.{throughout, committed_carried, carried_more, prepared_in, undiscarded}
use Rattle.album_epochs.proofs.WrittenLemmas.{same_written}

-- ---- the greatest carried stamp

pub prepared_is : (ms : List Mark) (t : ℕ) → list_any (λ s. s == t) (prepared_stamps ms) ≡ list_any (prepares t) ms
prepared_is [] t = refl
prepared_is (Committed s ∷ ms) t = prepared_is ms t
prepared_is (Discarded s ∷ ms) t = prepared_is ms t
prepared_is (Trimmed i ∷ ms) t = prepared_is ms t
prepared_is (Prepared s ws is ∷ ms) t = ap (λ (b : Bool). (s == t) || b) (prepared_is ms t)

pub there : (o : Option Value) → is_some o ≡ true → (v : Value) × (o ≡ Some v)
there (Some v) e = (v, refl)
there None e = absurd (cc (e))

-- no carried version of an item is above it
pub above : (c : Cut) (i t : ℕ) → is_some (written_value c i t) ≡ true → is_carried c t ≡ true → t ≤ carried_stamp c i
above c i t w e =
    let ms : List Mark = prefix_for c i in
    let v = there (written_value c i t) w in
    let had = (version_prepared ms i t v.0 (version_parts ms i t v.0 v.1).1).4 in
    All-contains (λ (n : ℕ). has_carried c i n ≡ true → n ≤ carried_stamp c i) (prepared_stamps ms) t
    (All-best_of (has_carried c i) (prepared_stamps ms))
    (contains_from_any (prepared_stamps ms) t (prepared_is ms t ∙ had))
    (and_from (is_some (written_value c i t)) (is_carried c t) w e)

-- where it isn't 0 it is that of a carried version
pub at_carried : (c : Cut) (i : ℕ) → carried_stamp c i ≢ 0 → (is_some (written_value c i (carried_stamp c i)) ≡ true) × (is_carried c (carried_stamp c i) ≡ true)
at_carried c i some =
    and_parts (is_some (written_value c i (carried_stamp c i))) (is_carried c (carried_stamp c i))
    (best_of-passes (has_carried c i) (prepared_stamps (prefix_for c i)) some)

-- ---- read atomic

module _ (c : Cut) (rows : List ReadVersion) (own : All (IsCarriedRow c) rows) where
  one : (x : ReadVersion) → Contains rows x → IsCarriedRow c x
  one x n = All-contains (IsCarriedRow c) rows x own n

  pub carried_whole : (x y : ReadVersion) → Contains rows x → Contains rows y → IsFracturedBy (writes_carried c) x y → ⊥
  carried_whole x y nx ny f =
      let high = above c y.item f.by f.wrote_other f.committed in
      let low : y.stamp < f.by = f.older in
      let same : y.stamp ≡ carried_stamp c y.item = (one y ny).stamp in
      omega arith

  pub carried_written : (x : ReadVersion) → Contains rows x → IsWritten (writes_carried c) (first_value c.opening) x
  carried_written x n = dite (ℕ_discrete (carried_stamp c x.item) 0)
      (λ (z : carried_stamp c x.item ≡ 0). inl (
        (one x n).stamp ∙ z,
        (one x n).value ∙ ap (λ (b : Bool). if b then first_value c.opening x.item else unwrap_or (written_value c x.item (carried_stamp c x.item)) Missing) (eq-eqb (carried_stamp c x.item) 0 z),
      ))
      (λ (nz : carried_stamp c x.item ≢ 0).
      let h = at_carried c x.item nz in
      let v = there (written_value c x.item (carried_stamp c x.item)) h.0 in
      let value : x.value ≡ v.0 = (one x n).value
      ∙ (ap (λ (b : Bool). if b then first_value c.opening x.item else unwrap_or (written_value c x.item (carried_stamp c x.item)) Missing) (ne_eqb (carried_stamp c x.item) 0 nz)
      ∙ ap (λ (o : Option Value). unwrap_or o Missing) v.1) in
      inr record {
        by = carried_stamp c x.item;
        committed = h.1;
        at = sym (one x n).stamp;
        wrote = v.1 ∙ ap Some (sym value);
      })

-- ---- from a cut to one that extends it

pub never_back : (c d : Cut) (t i : ℕ) → Extends c d → is_carried c t ≡ true → is_some (written_value d i t) ≡ true → t ≤ carried_stamp d i
never_back c d t i x e w = above d i t w (carried_more c d t x e)

pub rises : (c d : Cut) (i : ℕ) → IsLeft d → Extends c d → carried_stamp c i ≤ carried_stamp d i
rises c d i r x = dite (ℕ_discrete (carried_stamp c i) 0)
    (λ (z : carried_stamp c i ≡ 0). omega (arith, z))
    (λ (nz : carried_stamp c i ≢ 0).
    let h = at_carried c i nz in
    never_back c d (carried_stamp c i) i x h.1
    (ap is_some (same_written c d r x (carried_stamp c i) (throughout c (carried_stamp c i) h.1) i) ∙ h.0))

pub read_back : (c d : Cut) (x : ReadVersion) → IsSound c → IsLeft d → Extends c d → IsWritten (writes_in_cut c) (first_value c.opening) x → x.stamp ≤ carried_stamp d x.item
read_back c d x s r e = ⊎_elim
    (λ z. (let zero : x.stamp ≡ 0 = z.0 in omega (arith, zero)))
    (λ (h : IsWrittenBy (writes_in_cut c) x).
    let carried = committed_carried c h.by s h.committed in
    let w : is_some (written_value d x.item h.by) ≡ true = ap is_some (same_written c d r e h.by (throughout c h.by carried) x.item ∙ h.wrote) in
    let le = never_back c d h.by x.item e carried w in
    let at : h.by ≡ x.stamp = h.at in
    omega (arith, le, at))

-- ---- what sweeps decide

pub settled : (c : Cut) (t i : ℕ) (is : List ℕ) → IsSound c → is_carried c t ≡ true → items_announced c t ≡ Some is → Contains is i
    → state_of (prefix_for c i) t ≢ state.Pending → IsCommitted c t
settled c t i is s e a n unpending = go (list_any (commits t) (prefix_for c i)) refl
  where
    w : IsPreparedThroughout c t
    w = throughout c t e

    pending : list_any (commits t) (prefix_for c i) ≡ false → state_of (prefix_for c i) t ≡ state.Pending
    pending f = rw (f, undiscarded c (place_of c.parts i) t s w, prepared_in c t i is a n w) refl

    go : (b : Bool) → list_any (commits t) (prefix_for c i) ≡ b → IsCommitted c t
    go true f = (place_of c.parts i, f)
    go false f = absurd (unpending (pending f))

-- a partition that does not know the stamp may promise against it
pub may_promise : (c : Cut) (t i : ℕ) (is : List ℕ) → IsSound c → items_announced c t ≡ Some is → Contains is i
    → state_of (prefix_for c i) t ≡ state.Unknown → 1 ≤ c.parts → IsSound (marked_cut c (place_of c.parts i) (Discarded t))
may_promise c t i is s a n unknown some =
    let p : ℕ = place_of c.parts i in
    let below : p < c.parts = mod-lt (number_of i + kind_of i) (omega arith) in
    let wide : length c.prefixes ≡ c.parts = s.wide in
    let inside : p < length c.prefixes = omega arith in
    let may : may_follow (prefix_at c p) (Discarded t) ≡ true = ap (λ (x : StampState). is_unknown x || is_pending x) unknown in
    sound_marked c p (Discarded t) inside s (record { follows = may; chains = λ on. refl })
    (discarded_backs c p t is i inside a n refl (unknown_tells _ _ _ unknown).2)
