-- A read of two rounds over closed cuts is read atomic and fresh. The laws of reads cite the lemmas that are `pub`; the
-- main one is `same_written`: what a committed stamp ever wrote, a cut that has it committed has already.
use Rattle.std.proofs.Common.{◌≡◌, ◌≢◌, ℕ, zero, suc, ◌<◌, ◌≤◌, Bool, true, false, ◌==◌, ◌||◌, cond, inl, inr, List, [], ◌∷◌, map, Contains, is_some, Some, None, Option, if◌then◌else◌, refl, ap, sym, ◌∙◌, subst, ⊎_elim, arith}
use Rattle.std.specs.List.{list_any, find}
use Rattle.std.specs.Option.{option_or}
use Rattle.std.proofs.lemmas.Bool.Decides.{Decides-eqb}
use Rattle.std.proofs.lemmas.List.Elements.{All-contains}
use Rattle.std.proofs.lemmas.List.Folds.{find-append}
use native.Mathlib.Decide.{ℕ_discrete}
use mathlib.Core.Logic.{dite}
use Rattle.album_items.specs.ItemIds.{place_of}
use Rattle.album_items.specs.Openings.{Row}
use Rattle.album_items.specs.Transactions.{items_written}
use Rattle.album_items.specs.declared.values.Value.{Value}
use Rattle.album_terminate.specs.declared.deciding.StampState.TheVariants as state
use Rattle.album_partition.specs.declared.marks.Mark.{Mark}
use Rattle.album_partition.specs.declared.marks.Mark.TheVariants.{Prepared, Committed, Discarded, Trimmed}
use Rattle.album_partition.specs.Laws.{IsLatest, IsBest, IsReadAt}
use Rattle.album_partition.specs.Marks.{prepares, commits, discards, state_by, state_of, mark_writes, writes_at, value_in, version, has_version, committed_stamps, latest, first_value}
use Rattle.album_partition.proofs.ListLemmas.{one_before, contains_from_any}
use Rattle.album_versions.proofs.Greatest.{All-best_of}
use Rattle.album_reader.specs.Answers.{ReadVersion}
use Rattle.album_reader.specs.Atomic.{IsFracturedBy, IsWrittenBy, IsWritten, IsReadAtomic, IsFreshFrom}
use Rattle.album_passes.specs.Cuts.{Cut, prefix_at, prefix_for, IsPreparedFor, IsPreparedThroughout, IsNamed, IsClosedCut, IsSound, IsPrefix, Extends}
use Rattle.album_passes.specs.Reads.{IsCommitted, IsCommittedFor, written_value, writes_in_cut, IsAnsweredBetween, IsReadInTwoRounds}
use Rattle.album_passes.proofs.PrefixLemmas.{any_more}
use Rattle.album_passes.proofs.CutLemmas.{extends_trans, prefix_for_more, items_more}
use Rattle.album_passes.proofs.ClosedLemmas.{found, found_in, any_found, prepares_is, backed_there, items_of_named, committed_tells, never_discarded, same_list}

-- ---- what is found in a list, and in a longer one

find_more : (test : Mark → Bool) (ms ns : List Mark) → IsPrefix ms ns → list_any test ms ≡ true → find test ns ≡ find test ms
find_more test ms ns p e =
    let x = found test ms e in
    ap (find test) (sym p.1) ∙ (find-append test ms p.0 ∙ (ap (λ (o : Option Mark). option_or o (find test p.0)) x.1 ∙ sym x.1))

-- ---- a version, in a history and in a longer one

pub version_parts : (ms : List Mark) (i t : ℕ) (v : Value) → version ms i t ≡ Some v → (list_any (discards t) ms ≡ false) × (value_in (writes_at ms t) i ≡ Some v)
version_parts ms i t v e = go (list_any (discards t) ms) e
  where
    go : (b : Bool) → (if b then None else value_in (writes_at ms t) i) ≡ Some v → (b ≡ false) × (value_in (writes_at ms t) i ≡ Some v)
    go true h = absurd (cc (h))
    go false h = (refl, h)

-- the Prepared that wrote it
pub version_prepared : (ms : List Mark) (i t : ℕ) (v : Value) → value_in (writes_at ms t) i ≡ Some v
    → (ws : List Row) × (is : List ℕ) × Contains ms (Prepared t ws is) × (value_in ws i ≡ Some v) × (list_any (prepares t) ms ≡ true)
version_prepared ms i t v e = go (find (prepares t) ms) refl e
  where
    go : (o : Option Mark) → find (prepares t) ms ≡ o → value_in (mark_writes o) i ≡ Some v
        → (ws : List Row) × (is : List ℕ) × Contains ms (Prepared t ws is) × (value_in ws i ≡ Some v) × (list_any (prepares t) ms ≡ true)
    go None f h = absurd (cc (h))
    go (Some m) f h =
        let r = found_in (prepares t) ms m f in
        let x = prepares_is t m r.1 in
        (x.0, x.1, subst (λ (y : Mark). Contains ms y) x.2 r.0, subst (λ (y : Mark). value_in (mark_writes (Some y)) i ≡ Some v) x.2 h, any_found (prepares t) ms m f)

version_along : (ms ns : List Mark) (i t : ℕ) (v : Value) → IsPrefix ms ns → list_any (discards t) ns ≡ false → version ms i t ≡ Some v → version ns i t ≡ Some v
version_along ms ns i t v p none e =
    let w = (version_parts ms i t v e).1 in
    let had = (version_prepared ms i t v w).4 in
    ap (λ (b : Bool). if b then None else value_in (writes_at ns t) i) none
    ∙ (ap (λ (o : Option Mark). value_in (mark_writes o) i) (find_more (prepares t) ms ns p had) ∙ w)

-- what a history discards, a longer one does
discards_back : (ms ns : List Mark) (t : ℕ) → IsPrefix ms ns → list_any (discards t) ns ≡ false → list_any (discards t) ms ≡ false
discards_back ms ns t p none = go (list_any (discards t) ms) refl
  where
    go : (b : Bool) → list_any (discards t) ms ≡ b → b ≡ false
    go false e = refl
    go true e = absurd (let more = any_more (discards t) ms ns p e in cc (more, none))

version_back : (ms ns : List Mark) (i t : ℕ) (v : Value) → IsPrefix ms ns → list_any (prepares t) ms ≡ true → version ns i t ≡ Some v → version ms i t ≡ Some v
version_back ms ns i t v p had e =
    let w = version_parts ns i t v e in
    ap (λ (b : Bool). if b then None else value_in (writes_at ms t) i) (discards_back ms ns t p w.0)
    ∙ (ap (λ (o : Option Mark). value_in (mark_writes o) i) (sym (find_more (prepares t) ms ns p had)) ∙ w.1)

-- the value that rows give an item is in one of them
pub value_has : (ws : List Row) (i : ℕ) (v : Value) → value_in ws i ≡ Some v → Contains ws (i, v)
value_has [] i v e = absurd (cc (e))
value_has (w ∷ ws) i v e = go (w.0 == i) refl e (value_has ws i v)
  where
    same : Some w.1 ≡ Some v → w.1 ≡ v
    same h = cc (h)

    go : (b : Bool) → (w.0 == i) ≡ b → cond b (Some w.1) (value_in ws i) ≡ Some v → (value_in ws i ≡ Some v → Contains ws (i, v)) → Contains (w ∷ ws) (i, v)
    go true f g h = (zero, omega arith, λ j. ((Decides-eqb w.0 i).0 f j, same g j))
    go false f g h = one_before w (i, v) ws (h g)

-- the item of each row is one of theirs
pub item_written : (ws : List Row) (w : Row) → Contains ws w → Contains (items_written ws) w.0
item_written [] w (k, l, at) = absurd (omega arith)
item_written (x ∷ ws) w (zero, l, at) = (zero, omega arith, ap (λ (y : Row). y.0) at)
item_written (x ∷ ws) w (suc k, l, at) = one_before x.0 w.0 (items_written ws) (item_written ws w (k, omega arith, at))

-- ---- what a committed stamp wrote

committed_more : (c d : Cut) → Extends c d → (t : ℕ) → IsCommitted c t → IsCommitted d t
committed_more c d x t h = (h.0, any_more (commits t) (prefix_at c h.0) (prefix_at d h.0) (x.prefixes h.0) h.1)

-- what is seen of it stays
written_more : (c : Cut) → IsSound c → (t : ℕ) → IsCommitted c t → (ms : List Mark) (i : ℕ) (v : Value) → IsPrefix ms (prefix_for c i) → version ms i t ≡ Some v → written_value c i t ≡ Some v
written_more c s t h ms i v p e = version_along ms (prefix_for c i) i t v p (never_discarded c h.0 (place_of c.parts i) t s h.1) e

-- What a stamp that is prepared throughout wrote, a cut that extends this one has nothing else of: neither more, where
-- each Prepared is of what is announced, nor less, where none discards it.
written_before : (c d : Cut) → Extends c d → (t : ℕ) → IsPreparedThroughout c t → (i : ℕ) (v : Value)
    → ((ws : List Row) (is : List ℕ) → Contains (prefix_for d i) (Prepared t ws is) → IsNamed d t ws is)
    → written_value d i t ≡ Some v → written_value c i t ≡ Some v
written_before c d x t own i v names e =
    let w = version_prepared (prefix_for d i) i t v (version_parts (prefix_for d i) i t v e).1 in
    let n = names w.0 w.1 w.2 in
    let same : w.1 ≡ own.items = same_list d t w.1 own.items (items_of_named d t w.0 w.1 n) (items_more c d x t own.items own.announced) in
    let on : Contains own.items i = subst (λ (is : List ℕ). Contains is i) (sym n.items_are ∙ same)
    (item_written n.all.writes (i, v) (n.within (i, v) (value_has w.0 i v w.3))) in
    let had : IsPreparedFor c t i = All-contains (IsPreparedFor c t) own.items i own.prepared on in
    version_back (prefix_for c i) (prefix_for d i) i t v (prefix_for_more c d x i) had e

pub same_prepared : (c d : Cut) → Extends c d → (t : ℕ) → IsPreparedThroughout c t → (i : ℕ)
    → list_any (discards t) (prefix_for d i) ≡ false
    → ((ws : List Row) (is : List ℕ) → Contains (prefix_for d i) (Prepared t ws is) → IsNamed d t ws is)
    → written_value d i t ≡ written_value c i t
same_prepared c d x t own i none names = go (written_value c i t) (written_value d i t) refl refl
  where
    go : (o p : Option Value) → written_value c i t ≡ o → written_value d i t ≡ p → p ≡ o
    go (Some v) p e f = sym f ∙ version_along (prefix_for c i) (prefix_for d i) i t v (prefix_for_more c d x i) none e
    go None None e f = refl
    go None (Some v) e f = absurd (let back = written_before c d x t own i v names f in cc (back, e))

-- in a closed cut each Prepared is of what is announced
named_closed : (c : Cut) → IsClosedCut c → (t i : ℕ) (ws : List Row) (is : List ℕ) → Contains (prefix_for c i) (Prepared t ws is)
    → IsNamed c t ws is
named_closed c closed t i ws is n = (backed_there c (place_of c.parts i) (Prepared t ws is) closed n).named

-- so what a committed stamp wrote was there already
written_back : (c d : Cut) → IsSound c → IsSound d → Extends c d → (t : ℕ) → IsCommitted c t → (i : ℕ) (v : Value) → written_value d i t ≡ Some v → written_value c i t ≡ Some v
written_back c d s r x t h i v e =
    written_before c d x t (committed_tells c h.0 t s.closed h.1) i v (named_closed d r.closed t i) e

pub same_written : (c d : Cut) → IsSound c → IsSound d → Extends c d → (t : ℕ) → IsCommitted c t → (i : ℕ) → written_value d i t ≡ written_value c i t
same_written c d s r x t h i =
    let later = committed_more c d x t h in
    same_prepared c d x t (committed_tells c h.0 t s.closed h.1) i
    (never_discarded d later.0 (place_of d.parts i) t r later.1) (named_closed d r.closed t i)

-- ---- the latest version

committed_is : (ms : List Mark) (t : ℕ) → list_any (λ s. s == t) (committed_stamps ms) ≡ list_any (commits t) ms
committed_is [] t = refl
committed_is (Prepared s ws is ∷ ms) t = committed_is ms t
committed_is (Discarded s ∷ ms) t = committed_is ms t
committed_is (Trimmed i ∷ ms) t = committed_is ms t
committed_is (Committed s ∷ ms) t = ap (λ (b : Bool). (s == t) || b) (committed_is ms t)

-- no committed version of an item is above it
latest_greatest : (ms : List Mark) (i t : ℕ) → list_any (commits t) ms ≡ true → has_version ms i t ≡ true → t ≤ latest ms i
latest_greatest ms i t done has =
    All-contains (λ (n : ℕ). has_version ms i n ≡ true → n ≤ latest ms i) (committed_stamps ms) t
    (All-best_of (has_version ms i) (committed_stamps ms))
    (contains_from_any (committed_stamps ms) t (committed_is ms t ∙ done)) has

-- ---- what was read

there : (o : Option Value) → is_some o ≡ true → (v : Value) × (o ≡ Some v)
there (Some v) e = (v, refl)
there None e = absurd (cc (e))

state_committed : (ms : List Mark) (t : ℕ) → state_of ms t ≡ state.Committed → list_any (commits t) ms ≡ true
state_committed ms t e = go (list_any (commits t) ms) (list_any (discards t) ms) (list_any (prepares t) ms) e
  where
    go : (a b c : Bool) → state_by a b c ≡ state.Committed → a ≡ true
    go true b c f = refl
    go false true c f = absurd (cc (f))
    go false false true f = absurd (cc (f))
    go false false false f = absurd (cc (f))

committed_state : (ms : List Mark) (t : ℕ) → list_any (commits t) ms ≡ true → state_of ms t ≡ state.Committed
committed_state ms t e = ap (λ (b : Bool). state_by b (list_any (discards t) ms) (list_any (prepares t) ms)) e

-- with stamps given, the greatest of them
best_of_given : (ms : List Mark) (i t u : ℕ) (ts : List ℕ) → Contains ts u → IsReadAt ms i ts t → IsBest ms i ts t
best_of_given ms i t u [] n r = absurd (omega (arith, n.1))
best_of_given ms i t u (s ∷ ts) n r = r

stamp_there : (xs : List ReadVersion) (x : ReadVersion) → Contains xs x → Contains (map (λ (y : ReadVersion). y.stamp) xs) x.stamp
stamp_there [] x n = absurd (omega (arith, n.1))
stamp_there (y ∷ xs) x (zero, l, e) = (0, omega arith, ap (λ (z : ReadVersion). z.stamp) e)
stamp_there (y ∷ xs) x (suc k, l, e) = let r = stamp_there xs x (k, omega arith, e) in (suc r.0, omega (arith, r.1), r.2)

stamp_from : (xs : List ReadVersion) (t : ℕ) → Contains (map (λ (y : ReadVersion). y.stamp) xs) t → (x : ReadVersion) × Contains xs x × (x.stamp ≡ t)
stamp_from [] t n = absurd (omega (arith, n.1))
stamp_from (y ∷ xs) t (zero, l, e) = (y, (0, omega arith, refl), e)
stamp_from (y ∷ xs) t (suc k, l, e) = let r = stamp_from xs t (k, omega arith, e) in (r.0, (suc r.1.0, omega (arith, r.1.1), r.1.2), r.2)

module _ (b m c : Cut) (ones : List ReadVersion) (ts : List ℕ) (fs : List ReadVersion) (R : IsReadInTwoRounds b m c ones ts fs) where
  first : (y : ReadVersion) → Contains ones y → IsAnsweredBetween b m [] y
  first y n = All-contains (IsAnsweredBetween b m []) ones y R.first_round n

  second : (x : ReadVersion) → Contains fs x → IsAnsweredBetween m c ts x
  second x n = All-contains (IsAnsweredBetween m c ts) fs x R.second_round n

  earlier : (x : ReadVersion) → Contains fs x → (y : ReadVersion) × Contains ones y × (y.item ≡ x.item)
  earlier x n = All-contains (λ (f : ReadVersion). (y : ReadVersion) × Contains ones y × (y.item ≡ f.item)) fs x R.asked_before n

  collected : (y : ReadVersion) → Contains ones y → Contains ts y.stamp
  collected y n = (R.collected y.stamp).1 (stamp_there ones y n)

  best : (x : ReadVersion) (n : Contains fs x) → IsBest (second x n).marks x.item ts x.stamp
  best x n = let y = earlier x n in best_of_given (second x n).marks x.item x.stamp y.0.stamp ts (collected y.0 y.1) (second x n).read

  -- a stamp that was collected, and isn't 0, was committed as round two began
  committed_first : (y : ReadVersion) → Contains ones y → y.stamp ≢ 0 → IsCommitted m y.stamp
  committed_first y n nz =
      let r = first y n in
      let done = state_committed r.marks y.stamp (r.read.committed nz) in
      (place_of m.parts y.item, any_more (commits y.stamp) r.marks (prefix_for m y.item) r.to done)

  pub committed_then : (x : ReadVersion) → Contains fs x → x.stamp ≢ 0 → IsCommitted m x.stamp
  committed_then x n nz =
      let z = stamp_from ones x.stamp ((R.collected x.stamp).0 ((best x n).given nz)) in
      subst (IsCommitted m) z.2 (committed_first z.0 z.1 (λ e. nz (sym z.2 ∙ e)))

  -- nothing of a committed stamp is discarded where an answer was given
  kept_then : (t : ℕ) → IsCommitted m t → (x : ReadVersion) (n : Contains fs x) → list_any (discards t) (second x n).marks ≡ false
  kept_then t h x n =
      let r = second x n in
      let done = committed_more m c R.second_on t h in
      discards_back r.marks (prefix_for c x.item) t r.to (never_discarded c done.0 (place_of c.parts x.item) t R.ended_sound done.1)

  -- what was collected and had been written to the item as round two began, the item is not read below
  above : (x : ReadVersion) (n : Contains fs x) (t : ℕ) (v : Value) → Contains ts t → IsCommitted m t → written_value m x.item t ≡ Some v → t ≤ x.stamp
  above x n t v given h w =
      let r = second x n in
      let had : version r.marks x.item t ≡ Some v = version_along (prefix_for m x.item) r.marks x.item t v r.from (kept_then t h x n) w in
      All-contains (λ (u : ℕ). has_version r.marks x.item u ≡ true → u ≤ x.stamp) ts t (best x n).greatest given (ap is_some had)

  pub read_whole : (x y : ReadVersion) → Contains fs x → Contains fs y → IsFracturedBy (writes_in_cut c) x y → ⊥
  read_whole x y nx ny f =
      let at : x.stamp ≡ f.by = f.at in
      let older : y.stamp < x.stamp = subst (λ (t : ℕ). y.stamp < t) (sym at) f.older in
      let nz : x.stamp ≢ 0 = λ e. absurd (omega arith) in
      let h = committed_then x nx nz in
      let w = there (written_value c y.item x.stamp)
      (subst (λ (t : ℕ). is_some (written_value c y.item t) ≡ true) (sym at) f.wrote_other) in
      let had = written_back m c R.middle_sound R.ended_sound R.second_on x.stamp h y.item w.0 w.1 in
      let le = above y ny x.stamp w.0 ((best x nx).given nz) h had in
      omega arith

  pub read_written : (x : ReadVersion) → Contains fs x → IsWritten (writes_in_cut c) (first_value c.opening) x
  read_written x n = let r = second x n in dite (ℕ_discrete x.stamp 0)
      (λ (z : x.stamp ≡ 0). inl (z, r.first z ∙ ap (λ (o : List Row). first_value o x.item) (sym R.second_on.opening)))
      (λ (nz : x.stamp ≢ 0).
      let h = committed_more m c R.second_on x.stamp (committed_then x n nz) in
      inr record {
        by = x.stamp;
        committed = h;
        at = refl;
        wrote = written_more c R.ended_sound x.stamp h r.marks x.item x.value r.to (r.written nz);
      })

  pub read_fresh : IsFreshFrom (writes_in_cut c) (IsCommittedFor b) fs
  read_fresh x n t wrote done =
      let w = there (written_value c x.item t) wrote in
      let old : IsCommitted b t = (place_of b.parts x.item, done) in
      let mid = committed_more b m R.first_on t old in
      let had = written_back b c R.begun_sound R.ended_sound (extends_trans b m c R.first_on R.second_on) t old x.item w.0 w.1 in
      let y = earlier x n in
      let r = first y.0 y.1 in
      let P : ℕ → Type 0 = λ i. (IsPrefix (prefix_for b i) r.marks) × (IsPrefix r.marks (prefix_for m i)) × IsLatest r.marks i y.0.stamp in
      let q : P x.item = subst P y.2 (r.from, r.to, r.read) in
      let kept = discards_back r.marks (prefix_for m x.item) t q.1 (never_discarded m mid.0 (place_of m.parts x.item) t R.middle_sound mid.1) in
      let there_y = version_along (prefix_for b x.item) r.marks x.item t w.0 q.0 kept had in
      let low : t ≤ y.0.stamp = q.2.greatest t (committed_state r.marks t (any_more (commits t) (prefix_for b x.item) r.marks q.0 done)) (ap is_some there_y) in
      dite (ℕ_discrete y.0.stamp 0)
      (λ (z : y.0.stamp ≡ 0). omega arith)
      (λ (nz : y.0.stamp ≢ 0).
      let h = committed_first y.0 y.1 nz in
      let v = there (version r.marks x.item y.0.stamp) (q.2.there nz) in
      let written = written_more m R.middle_sound y.0.stamp h r.marks x.item v.0 q.1 v.1 in
      let high : y.0.stamp ≤ x.stamp = above x n y.0.stamp v.0 (collected y.0 y.1) h written in
      omega arith)

  -- where no item is read below its latest version as round two began, the read is fresh from there
  pub read_up_to_date : ((x : ReadVersion) → Contains fs x → latest (prefix_for m x.item) x.item ≤ x.stamp)
      → IsFreshFrom (writes_in_cut c) (IsCommittedFor m) fs
  read_up_to_date last x n t wrote done =
      let w = there (written_value c x.item t) wrote in
      let h : IsCommitted m t = (place_of m.parts x.item, done) in
      let had = written_back m c R.middle_sound R.ended_sound R.second_on t h x.item w.0 w.1 in
      let top = latest_greatest (prefix_for m x.item) x.item t done (ap is_some had) in
      let low = last x n in
      omega arith

-- ---- as the cut grows

pub atomic_more : (c d : Cut) → IsSound c → IsSound d → Extends c d → (fs : List ReadVersion)
    → IsReadAtomic (writes_in_cut c) (first_value c.opening) fs → IsReadAtomic (writes_in_cut d) (first_value d.opening) fs
atomic_more c d s r x fs a = record {
  whole = λ f g nf ng y. (let older : g.stamp < f.stamp = subst (λ (t : ℕ). g.stamp < t) (sym y.at) y.older in ⊎_elim
      (λ (z : (f.stamp ≡ 0) × _). (let e = z.0 in omega arith))
      (λ (h : IsWrittenBy (writes_in_cut c) f). (let k = subst (IsCommitted c) (h.at ∙ y.at) h.committed in a.whole f g nf ng record {
        by = y.by;
        committed = k;
        wrote_one = ap is_some (sym (same_written c d s r x y.by k f.item)) ∙ y.wrote_one;
        wrote_other = ap is_some (sym (same_written c d s r x y.by k g.item)) ∙ y.wrote_other;
        at = y.at;
        older = y.older;
      }))
      (a.written f nf));
  written = λ f n. ⊎_elim
      (λ z. inl (z.0, z.1 ∙ ap (λ (o : List Row). first_value o f.item) (sym x.opening)))
      (λ (h : IsWrittenBy (writes_in_cut c) f). inr record {
        by = h.by;
        committed = committed_more c d x h.by h.committed;
        at = h.at;
        wrote = same_written c d s r x h.by h.committed f.item ∙ h.wrote;
      })
      (a.written f n);
}

pub fresh_more : (a b c d : Cut) → IsSound c → IsSound d → Extends a b → Extends b c → Extends c d → (fs : List ReadVersion)
    → IsFreshFrom (writes_in_cut c) (IsCommittedFor b) fs → IsFreshFrom (writes_in_cut d) (IsCommittedFor a) fs
fresh_more a b c d s r x y z fs f = λ g n t wrote done.
    let i = g.item in
    let at_b = any_more (commits t) (prefix_for a i) (prefix_for b i) (prefix_for_more a b x i) done in
    let h = committed_more b c y t (place_of b.parts i, at_b) in
    f g n t (ap is_some (sym (same_written c d s r z t h i)) ∙ wrote) at_b
