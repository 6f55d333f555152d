-- What a list of marks says, and what lasts as it grows.
use Rattle.std.proofs.Common.{◌≡◌, ℕ, ◌<◌, ◌≤◌, max, Bool, true, false, eqb, List, [], ◌∷◌, ◌++◌, Option, Some, None, is_some, ◌⊎◌, inl, inr, ⊎_elim, sym, ap, ◌∙◌, subst, refl, arith, true≢false, eqb-true, eq-eqb, ltb-true, ltb-false, nat_lt, if◌then◌else◌}
use Rattle.std.specs.List.{list_any, find}
use Rattle.album_items.specs.Openings.{Row}
use Rattle.album_items.specs.declared.values.Value.{Value}
use Rattle.album_versions.specs.Best.{best_of}
use Rattle.album_partition.specs.declared.marks.Mark.{Mark}
use Rattle.album_partition.specs.declared.marks.Mark.TheVariants.{Prepared, Committed, Discarded, Trimmed}
use Rattle.album_partition.specs.Partition.{stamp_for}
use Rattle.album_partition.specs.Marks.{prepares, commits, discards, mark_writes, writes_at, value_in, version, has_version, latest, committed_stamps}
use Rattle.album_world.proofs.ListLemmas.{In}
use Rattle.album_world.proofs.ListLemmas.In.{here, there}
use Rattle.album_world.proofs.ListLemmas.{or_cases, true_or, or_true, in_uncons, in_nil, any_in, any_found, find_is, find_more, none_some}

-- ---- one mark

pub commits_is : (t : ℕ) (m : Mark) → commits t m ≡ true → m ≡ Committed t
commits_is t (Prepared s ws js) h = absurd (true≢false (sym h))
commits_is t (Committed s) h = ap Committed (eqb-true s t h)
commits_is t (Discarded s) h = absurd (true≢false (sym h))
commits_is t (Trimmed i) h = absurd (true≢false (sym h))

pub discards_is : (t : ℕ) (m : Mark) → discards t m ≡ true → m ≡ Discarded t
discards_is t (Prepared s ws js) h = absurd (true≢false (sym h))
discards_is t (Committed s) h = absurd (true≢false (sym h))
discards_is t (Discarded s) h = ap Discarded (eqb-true s t h)
discards_is t (Trimmed i) h = absurd (true≢false (sym h))

pub prepares_is : (t : ℕ) (m : Mark) → prepares t m ≡ true → (ws : List Row) × (js : List ℕ) × (m ≡ Prepared t ws js)
prepares_is t (Prepared s ws js) h = (ws, js, ap (λ (z : ℕ). Prepared z ws js) (eqb-true s t h))
prepares_is t (Committed s) h = absurd (true≢false (sym h))
prepares_is t (Discarded s) h = absurd (true≢false (sym h))
prepares_is t (Trimmed i) h = absurd (true≢false (sym h))

-- ---- a stamp that is prepared

-- the mark that prepared the stamp
pub record IsPreparedIn (ms : List Mark) (t : ℕ) : Type 0 where
  pub writes : List Row
  pub items : List ℕ
  pub found : find (prepares t) ms ≡ Some (Prepared t writes items)

pub prepared_in : (ms : List Mark) (t : ℕ) → list_any (prepares t) ms ≡ true → IsPreparedIn ms t
prepared_in ms t h =
    let f = any_found (prepares t) ms h in
    let p = prepares_is t f.0 (find_is (prepares t) ms f.0 f.1).1 in
    record { writes = p.0; items = p.1; found = f.1 ∙ ap Some p.2 }

pub prepared_any : (ms : List Mark) (t : ℕ) → IsPreparedIn ms t → list_any (prepares t) ms ≡ true
prepared_any ms t h = let f = find_is (prepares t) ms (Prepared t h.writes h.items) h.found in
    any_in (prepares t) ms f.0 f.1

pub prepared_more : (ms more : List Mark) (t : ℕ) → IsPreparedIn ms t → IsPreparedIn (ms ++ more) t
prepared_more ms more t h =
    record {
      writes = h.writes;
      items = h.items;
      found = find_more (prepares t) ms more (Prepared t h.writes h.items)
          h.found;
    }

-- ---- what was written at a stamp, discarded or not

abbrev pub wrote : List Mark → ℕ → ℕ → Option Value
wrote ms t i = value_in (writes_at ms t) i

pub wrote_is : (ms : List Mark) (t i : ℕ) (ws : List Row) (js : List ℕ)
    → find (prepares t) ms ≡ Some (Prepared t ws js) → wrote ms t i ≡ value_in ws i
wrote_is ms t i ws js e = ap (λ (f : Option Mark). value_in (mark_writes f) i) e

pub record IsWroteBy (ms : List Mark) (t i : ℕ) (v : Value) : Type 0 where
  pub by : IsPreparedIn ms t
  pub value : value_in by.writes i ≡ Some v

pub wrote_by : (ms : List Mark) (t i : ℕ) (v : Value) → wrote ms t i ≡ Some v → IsWroteBy ms t i v
wrote_by ms t i v h = go (find (prepares t) ms) refl h
  where
    go : (f : Option Mark) → find (prepares t) ms ≡ f → value_in (mark_writes f) i ≡ Some v → IsWroteBy ms t i v
    go None e k = none_some k
    go (Some m) e k =
        let p = prepares_is t m (find_is (prepares t) ms m e).1 in
        record {
          by = record { writes = p.0; items = p.1; found = e ∙ ap Some p.2 };
          value = ap
              (λ (z : Mark). value_in (mark_writes (Some z)) i) (sym p.2) ∙ k;
        }

pub wrote_more : (ms more : List Mark) (t i : ℕ) (v : Value) → wrote ms t i ≡ Some v → wrote (ms ++ more) t i ≡ Some v
wrote_more ms more t i v h =
    let r = wrote_by ms t i v h in
    wrote_is (ms ++ more) t i r.by.writes r.by.items
    (find_more (prepares t) ms more (Prepared t r.by.writes r.by.items) r.by.found) ∙ r.value

pub wrote_none : (ms : List Mark) (t i : ℕ) (v : Value) {R : Type 0} → list_any (prepares t) ms ≡ false
    → wrote ms t i ≡ Some v → R
wrote_none ms t i v none h = let r = wrote_by ms t i v h in absurd (true≢false (sym (prepared_any ms t r.by) ∙ none))

-- ---- versions: what was written and is not discarded

pub version_is : (ms : List Mark) (i t : ℕ) → list_any (discards t) ms ≡ false → version ms i t ≡ wrote ms t i
version_is ms i t e = rw e refl

pub version_wrote : (ms : List Mark) (i t : ℕ) (v : Value) → version ms i t ≡ Some v → wrote ms t i ≡ Some v
version_wrote ms i t v h = go (list_any (discards t) ms) h
  where
    go : (b : Bool) → (if b then None else wrote ms t i) ≡ Some v → wrote ms t i ≡ Some v
    go true k = none_some k
    go false k = k

pub some_is : {A : Type 0} (f : Option A) → is_some f ≡ true → (x : A) × (f ≡ Some x)
some_is None h = absurd (true≢false (sym h))
some_is (Some x) h = (x, refl)

pub is_some_of : {A : Type 0} (f : Option A) (x : A) → f ≡ Some x → is_some f ≡ true
is_some_of f x e = ap is_some e

-- ---- the greatest

pub best_least : (test : ℕ → Bool) (ns : List ℕ) (n : ℕ) → In n ns → test n ≡ true → n ≤ best_of test ns
best_least test [] n h t = in_nil h
best_least test (m ∷ ns) n h t = ⊎_elim (λ (e : n ≡ m). first e (test m) refl)
    (λ k. rest (test m) (best_least test ns n k t)) (in_uncons h)
  where
    rest : (b : Bool) → n ≤ best_of test ns → n ≤ (if b then max m (best_of test ns) else best_of test ns)
    rest true l = omega arith
    rest false l = l

    first : n ≡ m → (b : Bool) → test m ≡ b → n ≤ (if b then max m (best_of test ns) else best_of test ns)
    first e true q = omega arith
    first e false q = absurd (true≢false (sym t ∙ ap test e ∙ q))

pub best_is : (test : ℕ → Bool) (ns : List ℕ)
    → (best_of test ns ≡ 0) ⊎ (In (best_of test ns) ns × (test (best_of test ns) ≡ true))
best_is test [] = inl refl
best_is test (m ∷ ns) = go (test m) refl (best_is test ns)
  where
    pick : (a : ℕ) → (a ≡ m) ⊎ (a ≡ best_of test ns) → test m ≡ true
        → (best_of test ns ≡ 0) ⊎ (In (best_of test ns) ns × (test (best_of test ns) ≡ true))
        → (a ≡ 0) ⊎ (In a (m ∷ ns) × (test a ≡ true))
    pick a h e r = ⊎_elim
        (λ (q : a ≡ m). inr (subst (λ (z : ℕ). In z (m ∷ ns)) (sym q) here, ap test q ∙ e))
        (λ (q : a ≡ best_of test ns). ⊎_elim (λ (z : best_of test ns ≡ 0). inl (q ∙ z))
        (λ k. inr (subst (λ (z : ℕ). In z (m ∷ ns)) (sym q) (there k.0), ap test q ∙ k.1)) r)
        h

    max_is : (a b : ℕ) → (max a b ≡ a) ⊎ (max a b ≡ b)
    max_is a b = ⊎_elim (λ h. inr (omega arith)) (λ h. inl (omega arith)) (lt_or_le a b)
      where
        lt_or_le : (c d : ℕ) → (c < d) ⊎ (d ≤ c)
        lt_or_le c d = go (nat_lt c d) refl
          where
            go : (b : Bool) → nat_lt c d ≡ b → (c < d) ⊎ (d ≤ c)
            go true e = inl (ltb-true c d e)
            go false e = inr (ltb-false c d e)

    go : (b : Bool) → test m ≡ b → (best_of test ns ≡ 0) ⊎ (In (best_of test ns) ns × (test (best_of test ns) ≡ true))
        → ((if b then max m (best_of test ns) else best_of test ns) ≡ 0) ⊎
        (In (if b then max m (best_of test ns) else best_of test ns) (m ∷ ns) ×
        (test (if b then max m (best_of test ns) else best_of test ns) ≡ true))
    go true e r = pick (max m (best_of test ns)) (max_is m (best_of test ns)) e r
    go false e r = ⊎_elim inl (λ k. inr (there k.0, k.1)) r

-- ---- the latest

pub committed_in : (ms : List Mark) (t : ℕ) → list_any (commits t) ms ≡ true → In t (committed_stamps ms)
committed_in [] t h = absurd (true≢false (sym h))
committed_in (Prepared s ws js ∷ ms) t h = committed_in ms t h
committed_in (Discarded s ∷ ms) t h = committed_in ms t h
committed_in (Trimmed i ∷ ms) t h = committed_in ms t h
committed_in (Committed s ∷ ms) t h =
    ⊎_elim (λ e. subst (λ (z : ℕ). In t (z ∷ committed_stamps ms)) (sym (eqb-true s t e)) here)
    (λ k. there (committed_in ms t k)) (or_cases (eqb s t) (list_any (commits t) ms) h)

pub in_committed : (ms : List Mark) (t : ℕ) → In t (committed_stamps ms) → list_any (commits t) ms ≡ true
in_committed [] t h = in_nil h
in_committed (Prepared s ws js ∷ ms) t h = in_committed ms t h
in_committed (Discarded s ∷ ms) t h = in_committed ms t h
in_committed (Trimmed i ∷ ms) t h = in_committed ms t h
in_committed (Committed s ∷ ms) t h =
    ⊎_elim (λ (e : t ≡ s). true_or (eqb s t) (list_any (commits t) ms) (eq-eqb s t (sym e)))
    (λ k. or_true (eqb s t) (list_any (commits t) ms) (in_committed ms t k)) (in_uncons h)

pub latest_least : (ms : List Mark) (t i : ℕ) (v : Value) → list_any (commits t) ms ≡ true → version ms i t ≡ Some v
    → t ≤ latest ms i
latest_least ms t i v c e = best_least (has_version ms i) (committed_stamps ms) t (committed_in ms t c)
    (is_some_of (version ms i t) v e)

pub latest_is : (ms : List Mark) (i : ℕ)
    → (latest ms i ≡ 0) ⊎ ((list_any (commits (latest ms i)) ms ≡ true) × (is_some (version ms i (latest ms i)) ≡ true))
latest_is ms i = ⊎_elim inl (λ h. inr (in_committed ms (latest ms i) h.0, h.1))
    (best_is (has_version ms i) (committed_stamps ms))

-- ---- which stamp answers

pub stamp_for_is : (ms : List Mark) (i : ℕ) (ts : List ℕ)
    → (stamp_for ms i ts ≡ 0) ⊎ (is_some (version ms i (stamp_for ms i ts)) ≡ true)
stamp_for_is ms i [] = ⊎_elim inl (λ h. inr h.1) (latest_is ms i)
stamp_for_is ms i (t ∷ ts) = ⊎_elim inl (λ h. inr h.1) (best_is (has_version ms i) (t ∷ ts))

pub stamp_for_best : (ms : List Mark) (i : ℕ) (ts : List ℕ) (t : ℕ) → In t ts
    → stamp_for ms i ts ≡ best_of (has_version ms i) ts
stamp_for_best ms i [] t h = in_nil h
stamp_for_best ms i (s ∷ ts) t h = refl
