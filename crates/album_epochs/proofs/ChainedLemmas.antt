-- What is carried of an item in a checked store is a chain of versions. The law `no_carried_update_is_lost` cites
-- `carried_on`; its main lemma is `next_below`, of one history.
use Rattle.std.proofs.Common.{◌≡◌, ◌≢◌, ◌⊎◌, ⊎_elim, inl, inr, ℕ, ◌<◌, ◌≤◌, ◌==◌, Bool, true, false, is_some, Contains, List, [], ◌∷◌, ◌++◌, length, Some, refl, sym, ap, ◌∙◌, subst, arith, ne_eqb, length-append}
use Rattle.std.specs.List.{list_any}
use Rattle.std.proofs.lemmas.Bool.{and_parts, and_from, cases_lt}
use Rattle.std.proofs.lemmas.List.{append_assoc}
use Rattle.std.proofs.lemmas.List.Elements.{Contains-append_left}
use Rattle.album_items.specs.ItemIds.{place_of}
use Rattle.album_items.specs.declared.values.Value.{Value}
use Rattle.album_terminate.specs.declared.deciding.StampState.TheVariants as state
use Rattle.album_partition.specs.declared.marks.Mark.{Mark}
use Rattle.album_partition.specs.declared.marks.Mark.TheVariants.{Prepared, Committed}
use Rattle.album_partition.specs.Bases.{is_chained, IsMadeOn}
use Rattle.album_partition.specs.Marks.{prepares, commits, discards, is_pending, may_follow, state_of, version, has_version, is_legal, legal_after}
use Rattle.album_partition.proofs.BaseLemmas.{is_chained-push}
use Rattle.album_partition.proofs.ChainLemmas.{chained_parts, made_on, one_pending, pending_above}
use Rattle.album_partition.proofs.LawLemmas.{read_latest}
use Rattle.album_partition.proofs.LegalLemmas.{is_legal-push, legal_parts}
use Rattle.album_partition.proofs.ProperLemmas.{has_value}
use Rattle.album_partition.proofs.StateLemmas.{unknown_tells, is_unknown_tells, committed_tells, committed_is_committed, state_push_other}
use Rattle.album_partition.proofs.VersionLemmas.{version_committed}
use Rattle.album_passes.specs.Cuts.{Cut, Announced, prefix_at, prefix_for, announced_for, IsBaseOf, IsPreparedOver, IsPrefix}
use Rattle.album_passes.specs.Reads.{IsCommitted, written_value}
use Rattle.album_passes.proofs.ClosedLemmas.{backed_there}
use Rattle.album_passes.proofs.CutLemmas.{over_more, prefix_for_more}
use Rattle.album_passes.proofs.PrefixLemmas.{prefix_trans, prefix_shorter, any_more}
use Rattle.album_passes.proofs.PreparedLemmas.{prepared_by}
use Rattle.album_passes.proofs.ReadLemmas.{version_parts, version_prepared}
use Rattle.album_epochs.specs.Carried.{IsLeft, is_carried, IsCarriedOn}
use Rattle.album_epochs.proofs.EpochLemmas.{there}
use Rattle.album_epochs.proofs.LeftLemmas.{legal_left}

-- ---- of one history

-- a prefix that has prepared a stamp has prepared it over the same base
over_here : (ms ns : List Mark) (t i b : ℕ) → is_legal ns ≡ true → IsPrefix ms ns → list_any (prepares t) ms ≡ true
    → IsPreparedOver ns t i b → IsPreparedOver ms t i b
over_here ms ns t i b legal p had h = ⊎_elim short long (cases_lt (length ms) (length (h.before ++ m ∷ [])))
  where
    m : Mark
    m = Prepared t h.writes h.items

    long : length (h.before ++ m ∷ []) ≤ length ms → IsPreparedOver ms t i b
    long l = record {
      before = h.before;
      writes = h.writes;
      items = h.items;
      had = prefix_shorter (h.before ++ m ∷ []) ms ns h.had p l;
      wrote = h.wrote;
      latest_is = h.latest_is;
    }

    legal_m : is_legal (h.before ++ m ∷ []) ≡ true
    legal_m = (legal_parts (h.before ++ m ∷ []) h.had.0 (ap is_legal h.had.1 ∙ legal)).0

    unprepared : list_any (prepares t) h.before ≡ false
    unprepared =
        let may = (and_parts (may_follow h.before m) (legal_after (h.before ++ m ∷ []) []) (legal_parts h.before (m ∷ []) legal_m).1).0 in
        (unknown_tells _ _ _ (is_unknown_tells (state_of h.before t) may)).2

    short : length ms < length (h.before ++ m ∷ []) → IsPreparedOver ms t i b
    short l =
        let low : length ms ≤ length h.before = (let e = length-append h.before (m ∷ []) in omega arith) in
        let q : IsPrefix h.before ns = prefix_trans h.before (h.before ++ m ∷ []) ns (m ∷ [], refl) h.had in
        absurd (let some = any_more (prepares t) ms h.before (prefix_shorter ms h.before ns p q low) had in cc (some, unprepared))

-- a version is of a stamp that is pending or committed
live : (ms : List Mark) (i u : ℕ) → has_version ms i u ≡ true → (state_of ms u ≡ state.Pending) ⊎ (state_of ms u ≡ state.Committed)
live ms i u e = go (list_any (commits u) ms) refl
  where
    v : (x : Value) × (version ms i u ≡ Some x)
    v = there (version ms i u) e

    kept : list_any (discards u) ms ≡ false
    kept = (version_parts ms i u v.0 v.1).0

    had : list_any (prepares u) ms ≡ true
    had = (version_prepared ms i u v.0 (version_parts ms i u v.0 v.1).1).4

    go : (b : Bool) → list_any (commits u) ms ≡ b → (state_of ms u ≡ state.Pending) ⊎ (state_of ms u ≡ state.Committed)
    go true f = inr (rw f refl)
    go false f = inl (rw (f, kept, had) refl)

made_over : (ms : List Mark) (i t b : ℕ) → is_legal ms ≡ true → is_chained ms ≡ true → state_of ms t ≡ state.Committed
    → IsPreparedOver ms t i b → IsMadeOn ms i t b
made_over ms i t b legal chained done h =
    let m : Mark = Prepared t h.writes h.items in
    let is : h.before ++ m ∷ h.had.0 ≡ ms = sym (append_assoc h.before (m ∷ []) h.had.0) ∙ h.had.1 in
    subst (λ (y : List Mark × ℕ). IsMadeOn y.0 i t y.1) (λ j. (is j, h.latest_is j))
    (made_on h.before h.had.0 t h.writes h.items i (ap is_legal is ∙ legal) (ap is_chained is ∙ chained)
    (ap (λ (ns : List Mark). state_of ns t) is ∙ done) (has_value h.writes i ∙ h.wrote))

-- the version at the base is committed, or the first one, and none is between
record IsNextBelow (ms : List Mark) (i t b : ℕ) : Type 0 where
  below : b < t
  committed : b ≢ 0 → list_any (commits b) ms ≡ true
  had : b ≢ 0 → has_version ms i b ≡ true
  next : (u : ℕ) → has_version ms i u ≡ true → u < t → u ≤ b

next_below : (ms : List Mark) (i t b : ℕ) → is_legal ms ≡ true → is_chained ms ≡ true → has_version ms i t ≡ true
    → IsPreparedOver ms t i b → IsNextBelow ms i t b
next_below ms i t b legal chained some over = ⊎_elim pending done (live ms i t some)
  where
    done : state_of ms t ≡ state.Committed → IsNextBelow ms i t b
    done e =
        let h = made_over ms i t b legal chained e over in
        record {
          below = h.below;
          committed = λ nz. committed_tells _ _ _ (h.committed nz);
          had = h.there;
          next = λ u has less. ⊎_elim
              (λ (f : state_of ms u ≡ state.Pending). absurd (
              let above = pending_above ms i u legal chained f has in
              let high = (read_latest ms i).greatest t e some in omega arith))
              (λ (f : state_of ms u ≡ state.Committed). h.next u f has less)
              (live ms i u has);
        }

    pending : state_of ms t ≡ state.Pending → IsNextBelow ms i t b
    pending e = record {
      below = h.below;
      committed = λ nz. committed_tells _ _ _ (sym (state_push_other ms (Committed t) b (apart b h.below)) ∙ h.committed nz);
      had = λ nz. sym (ap is_some (version_committed ms t i b)) ∙ h.there nz;
      next = λ u has less. ⊎_elim
          (λ (f : state_of ms u ≡ state.Pending). absurd (let same = one_pending ms i t u legal chained e some f has in omega arith))
          (λ (f : state_of ms u ≡ state.Committed).
          h.next u (state_push_other ms (Committed t) u (apart u less) ∙ f) (ap is_some (version_committed ms t i u) ∙ has) less)
          (live ms i u has);
    }
      where
        after : List Mark
        after = ms ++ Committed t ∷ []

        h : IsMadeOn after i t b
        h = made_over after i t b (is_legal-push ms (Committed t) legal (ap is_pending e)) (is_chained-push ms (Committed t) chained refl)
            (committed_is_committed ms t) (over_more ms after (Committed t ∷ [], refl) t i b over)

        apart : (u : ℕ) → u < t → (t == u) ≡ false
        apart u less = ne_eqb t u (λ f. absurd (omega (arith, less, f)))

-- ---- of a cut

chained_left : (c : Cut) → IsLeft c → c.checked ≡ true → (p : ℕ) → is_chained (prefix_at c p) ≡ true
chained_left c s on p =
    (chained_parts (prefix_at c p) (s.part.prefixes p).0
    (ap is_chained (s.part.prefixes p).1 ∙ s.sound.chained p (s.part.checked ∙ on))).0

pub carried_on : (c : Cut) (i t : ℕ) (v : Value) → IsLeft c → c.checked ≡ true
    → ((u : ℕ) → IsCommitted c u → is_carried c u ≡ true)
    → written_value c i t ≡ Some v
    → (all : Announced) × (announced_for c t ≡ Some all) × ((b : ℕ) × IsBaseOf all (i, v) b × IsCarriedOn c i t b)
carried_on c i t v s on closed e =
    let ms : List Mark = prefix_for c i in
    let ns : List Mark = prefix_for s.whole i in
    let p = prefix_for_more c s.whole s.part i in
    let x = prepared_by ms i t v e in
    let m : Mark = Prepared t x.writes x.items in
    let here : Contains ns m = subst (λ (os : List Mark). Contains os m) p.1 (Contains-append_left ms p.0 m x.there) in
    let o = (backed_there s.whole (place_of s.whole.parts i) m s.sound.closed here).based (s.part.checked ∙ on) (i, v) x.wrote in
    let had = (version_prepared ms i t v (version_parts ms i t v e).1).4 in
    let over = over_here ms ns t i o.base (s.sound.legal (place_of s.whole.parts i)) p had o.over in
    let n = next_below ms i t o.base (legal_left c s (place_of c.parts i)) (chained_left c s on (place_of c.parts i)) (ap is_some e) over in (
      o.all,
      s.announced t o.all o.announced,
      (
        o.base,
        o.of,
        record {
          below = n.below;
          carried = λ nz. and_from (is_some (written_value c i o.base)) (is_carried c o.base) (n.had nz)
              (closed o.base (place_of c.parts i, n.committed nz));
          next = λ u has less. n.next u (and_parts (is_some (written_value c i u)) (is_carried c u) has).0 less;
        },
      ),
    )
