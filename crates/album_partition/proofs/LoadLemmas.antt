-- How many stamps are pending, and so how full a history is, as one mark more is made.
use Rattle.std.proofs.Common.{◌≡◌, ℕ, zero, suc, ◌<◌, ◌≤◌, ◌+◌, Bool, true, false, ◌==◌, ◌||◌, cond, List, [], ◌∷◌, ◌++◌, length, filter, Contains, refl, sym, ap, ◌∙◌, subst, arith}
use Rattle.std.specs.List.{list_any}
use Rattle.std.proofs.lemmas.Bool.Decides.{Decides-eqb}
use Rattle.std.proofs.lemmas.List.{length-append}
use Rattle.std.proofs.lemmas.List.Sums.{length-filter, count_by-le-length}
use Rattle.std.proofs.lemmas.List.Elements.{filter-append, filter_map-append, filter_agree}
use Rattle.album_items.specs.Openings.{Row}
use Rattle.album_terminate.specs.declared.deciding.StampState.TheVariants as state
use Rattle.album_partition.specs.declared.marks.Mark.{Mark}
use Rattle.album_partition.specs.declared.marks.Mark.TheVariants.{Prepared, Committed, Discarded, Trimmed}
use Rattle.album_partition.specs.Marks.{is_mark_of, prepares, state_of, is_pending, prepare_in, prepared_stamps, pending_stamps, is_legal}
use Rattle.album_partition.proofs.LegalLemmas.{times, times_none, times_once}
use Rattle.album_partition.proofs.ListLemmas.{turned}
use Rattle.album_partition.proofs.StateLemmas.{state_push_other, unknown_tells, pending_tells, prepared_is_pending, committed_is_committed, discarded_is_discarded}

-- two tests agree on all numbers but one, which passes only the first: the counts differ by how often that one occurs
filter_but : (p q : ℕ → Bool) (t : ℕ) → p t ≡ true → q t ≡ false → ((s : ℕ) → (s == t) ≡ false → p s ≡ q s) → (xs : List ℕ) → length (filter p xs) ≡ length (filter q xs) + times t xs
filter_but p q t there gone alike [] = refl
filter_but p q t there gone alike (x ∷ xs) = go (x == t) refl (filter_but p q t there gone alike xs)
  where
    same : (x == t) ≡ true → x ≡ t
    same e = (Decides-eqb x t).0 e

    test : (b : Bool) → p x ≡ b → q x ≡ b → length (filter p xs) ≡ length (filter q xs) + times t xs → length (cond (p x) (x ∷ filter p xs) (filter p xs)) ≡ length (cond (q x) (x ∷ filter q xs) (filter q xs)) + times t xs
    test true f g h = rw (f, g) (omega arith)
    test false f g h = rw (f, g) h

    go : (b : Bool) → (x == t) ≡ b → length (filter p xs) ≡ length (filter q xs) + times t xs → length (cond (p x) (x ∷ filter p xs) (filter p xs)) ≡ length (cond (q x) (x ∷ filter q xs) (filter q xs)) + length (cond (x == t) (x ∷ filter (λ s. s == t) xs) (filter (λ s. s == t) xs))
    go true e h = rw (e, subst (λ u. p u ≡ true) (sym (same e)) there, subst (λ u. q u ≡ false) (sym (same e)) gone) (omega arith)
    go false e h = rw e (test (q x) (alike x e) refl h)

pending_push : (marks : List Mark) (mark : Mark) → length (pending_stamps (marks ++ mark ∷ [])) ≡ length (filter (λ s. is_pending (state_of (marks ++ mark ∷ []) s)) (prepared_stamps marks)) + length (filter (λ s. is_pending (state_of (marks ++ mark ∷ []) s)) (prepared_stamps (mark ∷ [])))
pending_push marks mark =
    ap (λ (xs : List ℕ). length (filter (λ s. is_pending (state_of (marks ++ mark ∷ []) s)) xs)) (filter_map-append prepare_in marks (mark ∷ []))
    ∙ ap length (filter-append (λ s. is_pending (state_of (marks ++ mark ∷ []) s)) (prepared_stamps marks) (prepared_stamps (mark ∷ [])))
    ∙ length-append (filter (λ s. is_pending (state_of (marks ++ mark ∷ []) s)) (prepared_stamps marks)) (filter (λ s. is_pending (state_of (marks ++ mark ∷ []) s)) (prepared_stamps (mark ∷ [])))

-- the other stamps stay as they are
others_stay : (marks : List Mark) (mark : Mark) (s : ℕ) → is_mark_of s mark ≡ false → is_pending (state_of (marks ++ mark ∷ []) s) ≡ is_pending (state_of marks s)
others_stay marks mark s e = ap is_pending (state_push_other marks mark s e)

-- one pending stamp more
pub prepared_counts : (marks : List Mark) (t : ℕ) (ws : List Row) (is : List ℕ) → state_of marks t ≡ state.Unknown → length (pending_stamps (marks ++ Prepared t ws is ∷ [])) ≡ length (pending_stamps marks) + 1
prepared_counts marks t ws is unknown =
    let told = unknown_tells _ _ _ unknown in
    let now = ap is_pending (prepared_is_pending marks t ws is unknown) in
    let none = times_none t marks told.2 in
    let before = filter_but (λ s. is_pending (state_of (marks ++ Prepared t ws is ∷ []) s)) (λ s. is_pending (state_of marks s)) t now (ap is_pending unknown) (λ s e. others_stay marks (Prepared t ws is) s (turned s t e)) (prepared_stamps marks) in
    let one : length (filter (λ s. is_pending (state_of (marks ++ Prepared t ws is ∷ []) s)) (t ∷ [])) ≡ 1 = rw now refl in
    let pushed = pending_push marks (Prepared t ws is) in
    omega arith

-- one fewer
pub committed_counts : (marks : List Mark) (t : ℕ) → is_legal marks ≡ true → state_of marks t ≡ state.Pending → length (pending_stamps (marks ++ Committed t ∷ [])) + 1 ≡ length (pending_stamps marks)
committed_counts marks t legal pending =
    let told = pending_tells _ _ _ pending in
    let once = times_once t marks legal told.2 in
    let before = filter_but (λ s. is_pending (state_of marks s)) (λ s. is_pending (state_of (marks ++ Committed t ∷ []) s)) t (ap is_pending pending) (ap is_pending (committed_is_committed marks t)) (λ s e. sym (others_stay marks (Committed t) s (turned s t e))) (prepared_stamps marks) in
    let pushed = pending_push marks (Committed t) in
    omega arith

pub discarded_counts : (marks : List Mark) (t : ℕ) → is_legal marks ≡ true → state_of marks t ≡ state.Pending → length (pending_stamps (marks ++ Discarded t ∷ [])) + 1 ≡ length (pending_stamps marks)
discarded_counts marks t legal pending =
    let told = pending_tells _ _ _ pending in
    let once = times_once t marks legal told.2 in
    let before = filter_but (λ s. is_pending (state_of marks s)) (λ s. is_pending (state_of (marks ++ Discarded t ∷ []) s)) t (ap is_pending pending) (ap is_pending (discarded_is_discarded marks t told.0)) (λ s e. sym (others_stay marks (Discarded t) s (turned s t e))) (prepared_stamps marks) in
    let pushed = pending_push marks (Discarded t) in
    omega arith

-- as many
pub refused_counts : (marks : List Mark) (t : ℕ) → state_of marks t ≡ state.Unknown → length (pending_stamps (marks ++ Discarded t ∷ [])) ≡ length (pending_stamps marks)
refused_counts marks t unknown =
    let told = unknown_tells _ _ _ unknown in
    let same = filter_agree (λ s. is_pending (state_of (marks ++ Discarded t ∷ []) s)) (λ s. is_pending (state_of marks s)) alike (prepared_stamps marks) in
    let pushed = pending_push marks (Discarded t) in
    (let counted = ap length same in omega arith)
  where
    at : (s : ℕ) → (b : Bool) → (s == t) ≡ b → is_pending (state_of (marks ++ Discarded t ∷ []) s) ≡ is_pending (state_of marks s)
    at s false e = others_stay marks (Discarded t) s (turned s t e)
    at s true e =
        let is = (Decides-eqb s t).0 e in
        let told = unknown_tells _ _ _ unknown in
        subst (λ u. is_pending (state_of (marks ++ Discarded t ∷ []) u) ≡ is_pending (state_of marks u)) (sym is) (ap is_pending (discarded_is_discarded marks t told.0) ∙ sym (ap is_pending unknown))

    alike : (s : ℕ) → is_pending (state_of (marks ++ Discarded t ∷ []) s) ≡ is_pending (state_of marks s)
    alike s = at s (s == t) refl

-- a trim changes nothing
pub trimmed_counts : (marks : List Mark) (i : ℕ) → length (pending_stamps (marks ++ Trimmed i ∷ [])) ≡ length (pending_stamps marks)
trimmed_counts marks i =
    let same = filter_agree (λ s. is_pending (state_of (marks ++ Trimmed i ∷ []) s)) (λ s. is_pending (state_of marks s)) (λ s. others_stay marks (Trimmed i) s refl) (prepared_stamps marks) in
    let pushed = pending_push marks (Trimmed i) in
    (let counted = ap length same in omega arith)

-- ---- each pending stamp counts

-- what passes is among what is filtered
filter_some : (test : ℕ → Bool) (t : ℕ) → test t ≡ true → (ts : List ℕ) → Contains ts t → 0 < length (filter test ts)
filter_some test t e [] n = absurd (omega (arith, n.1))
filter_some test t e (s ∷ ts) (zero, l, same) = go (test s) (ap test same ∙ e)
  where
    go : (b : Bool) → b ≡ true → 0 < length (cond b (s ∷ filter test ts) (filter test ts))
    go true f = omega arith
    go false f = absurd (cc)
filter_some test t e (s ∷ ts) (suc k, l, same) = go (test s) (filter_some test t e ts (k, omega (arith, l), same))
  where
    go : (b : Bool) → 0 < length (filter test ts) → 0 < length (cond b (s ∷ filter test ts) (filter test ts))
    go true f = omega arith
    go false f = f

later : (s t : ℕ) (ts : List ℕ) → Contains ts t → Contains (s ∷ ts) t
later s t ts n = (suc n.0, omega (arith, n.1), n.2)

pub prepared_there : (t : ℕ) (marks : List Mark) → list_any (prepares t) marks ≡ true → Contains (prepared_stamps marks) t
prepared_there t [] e = absurd (cc)
prepared_there t (Prepared u ws is ∷ marks) e = go (u == t) refl e (λ g. prepared_there t marks g)
  where
    go : (b : Bool) → (u == t) ≡ b → (b || list_any (prepares t) marks) ≡ true
        → (list_any (prepares t) marks ≡ true → Contains (prepared_stamps marks) t) → Contains (u ∷ prepared_stamps marks) t
    go true f g h = (0, omega arith, (Decides-eqb u t).0 f)
    go false f g h = later u t (prepared_stamps marks) (h g)
prepared_there t (Committed u ∷ marks) e = prepared_there t marks e
prepared_there t (Discarded u ∷ marks) e = prepared_there t marks e
prepared_there t (Trimmed i ∷ marks) e = prepared_there t marks e

pub pending_some : (marks : List Mark) (t : ℕ) → state_of marks t ≡ state.Pending → 0 < length (pending_stamps marks)
pending_some marks t e =
    filter_some (λ s. is_pending (state_of marks s)) t (ap is_pending e) (prepared_stamps marks)
    (prepared_there t marks (pending_tells _ _ _ e).2)

-- ---- there are no more pending stamps than marks

prepared_few : (marks : List Mark) → length (prepared_stamps marks) ≤ length marks
prepared_few [] = omega arith
prepared_few (Prepared t ws is ∷ marks) = (let few = prepared_few marks in omega arith)
prepared_few (Committed t ∷ marks) = (let few = prepared_few marks in omega arith)
prepared_few (Discarded t ∷ marks) = (let few = prepared_few marks in omega arith)
prepared_few (Trimmed i ∷ marks) = (let few = prepared_few marks in omega arith)

pub pending_few : (marks : List Mark) → length (pending_stamps marks) ≤ length marks
pending_few marks =
    let few = prepared_few marks in
    let is = length-filter (λ s. is_pending (state_of marks s)) (prepared_stamps marks) in
    let fewer = count_by-le-length (λ s. is_pending (state_of marks s)) (prepared_stamps marks) in
    omega arith
