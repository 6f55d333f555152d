-- How many marks trim, and that one more does where an item is gone that was read before. `EndLemmas` cites the lemmas
-- that are `pub`, `LookLemmas` `trims_stay`.
use Rattle.std.proofs.Common.{◌≡◌, ◌⊎◌, inl, inr, ℕ, zero, suc, ◌+◌, ◌<◌, ◌≤◌, Bool, true, false, cond, ◌==◌, ◌||◌, List, [], ◌∷◌, ◌++◌, length, append-nil, append_assoc, All, Contains, None, is_some, refl, sym, ap, ◌∙◌, subst, arith}
use Rattle.std.specs.List.{list_any, sum_by, count_by}
use Rattle.std.proofs.lemmas.Bool.{cases_lt}
use Rattle.std.proofs.lemmas.List.Elements.{All-contains}
use Rattle.std.proofs.lemmas.List.Sums.{sum_by-append, sum_by-cons, sum_by_push}
use native.Mathlib.Decide.{ℕ_discrete}
use mathlib.Core.Logic.{dite}
use Rattle.album_terminate.specs.declared.deciding.StampState.TheVariants as state
use Rattle.album_versions.proofs.Greatest.{best_of-passes, Contains-best_of}
use Rattle.album_partition.specs.Laws.{IsLatest}
use Rattle.album_partition.specs.Marks.{commits, trims, state_of, version, has_version, committed_stamps, latest, floor, kept_version, is_legal}
use Rattle.album_partition.specs.declared.marks.Mark.{Mark}
use Rattle.album_partition.specs.declared.marks.Mark.TheVariants.{Prepared, Committed, Discarded, Trimmed}
use Rattle.album_partition.proofs.GrowthLemmas.{version_stays}
use Rattle.album_partition.proofs.LegalLemmas.{legal_parts}
use Rattle.album_partition.proofs.ListLemmas.{any_from_contains}
use Rattle.album_partition.proofs.TrimLemmas.{floor_stays, floor_low, kept_high}
use Rattle.album_passes.specs.Cuts.{Cut, marks_at, prefix_at, IsSound, IsPrefix, Extends}
use Rattle.album_grounds.specs.Grounds.{is_trim, trims_in}

-- ---- how many marks trim

more_trims : (before later : List Mark) → count_by is_trim before ≤ count_by is_trim (before ++ later)
more_trims before later = let e = sum_by-append (λ (m : Mark). cond (is_trim m) 1 0) before later in omega arith

pub prefix_trims : (ms ns : List Mark) → IsPrefix ms ns → count_by is_trim ms ≤ count_by is_trim ns
prefix_trims ms ns p = subst (λ (os : List Mark). count_by is_trim ms ≤ count_by is_trim os) p.1 (more_trims ms p.0)

trims_is : (m : Mark) (i : ℕ) → trims i m ≡ true → is_trim m ≡ true
trims_is (Prepared t ws is) i e = absurd (cc)
trims_is (Committed t) i e = absurd (cc)
trims_is (Discarded t) i e = absurd (cc)
trims_is (Trimmed j) i e = refl

-- where the floor of an item has risen, a mark more trims
trim_between : (before later : List Mark) (i : ℕ) → floor before i < floor (before ++ later) i
    → count_by is_trim before < count_by is_trim (before ++ later)
trim_between before [] i less = absurd (let same = ap (λ (ms : List Mark). floor ms i) (append-nil before) in omega arith)
trim_between before (m ∷ later) i less =
    go (trims i m) refl
    (subst (λ (ms : List Mark). floor (before ++ m ∷ []) i < floor ms i → count_by is_trim (before ++ m ∷ []) < count_by is_trim ms)
    (append_assoc before (m ∷ []) later) (trim_between (before ++ m ∷ []) later i))
  where
    one : count_by is_trim (before ++ m ∷ []) ≡ count_by is_trim before + cond (is_trim m) 1 0
    one = sum_by_push (λ (n : Mark). cond (is_trim n) 1 0) before m

    rest : count_by is_trim (before ++ m ∷ []) ≤ count_by is_trim (before ++ m ∷ later)
    rest = subst (λ (ms : List Mark). count_by is_trim (before ++ m ∷ []) ≤ count_by is_trim ms) (append_assoc before (m ∷ []) later)
        (more_trims (before ++ m ∷ []) later)

    go : (b : Bool) → trims i m ≡ b
        → (floor (before ++ m ∷ []) i < floor (before ++ m ∷ later) i → count_by is_trim (before ++ m ∷ []) < count_by is_trim (before ++ m ∷ later))
        → count_by is_trim before < count_by is_trim (before ++ m ∷ later)
    go true e later_on =
        let more : count_by is_trim (before ++ m ∷ []) ≡ count_by is_trim before + 1 = one ∙ ap (λ (b : Bool). count_by is_trim before + cond b 1 0) (trims_is m i e) in
        let grown = rest in
        omega arith
    go false e later_on =
        let same = floor_stays before m i e in
        let found = later_on (omega arith) in
        let first = more_trims before (m ∷ []) in
        omega arith

-- ---- the floor of an item that is gone

committed_is : (marks : List Mark) (t : ℕ) → list_any (λ s. s == t) (committed_stamps marks) ≡ list_any (commits t) marks
committed_is [] t = refl
committed_is (Prepared s ws is ∷ marks) t = committed_is marks t
committed_is (Discarded s ∷ marks) t = committed_is marks t
committed_is (Trimmed i ∷ marks) t = committed_is marks t
committed_is (Committed s ∷ marks) t = ap (λ (b : Bool). (s == t) || b) (committed_is marks t)

state_committed : (marks : List Mark) (t : ℕ) → list_any (commits t) marks ≡ true → state_of marks t ≡ state.Committed
state_committed marks t e = rw e refl

-- a stamp that is the latest is no lower than the result of `latest`
latest_low : (marks : List Mark) (i t : ℕ) → IsLatest marks i t → latest marks i ≤ t
latest_low marks i t is = dite (ℕ_discrete (latest marks i) 0)
    (λ none. omega (arith, none))
    (λ some. is.greatest (latest marks i)
    (state_committed marks (latest marks i)
    (sym (committed_is marks (latest marks i))
    ∙ any_from_contains (committed_stamps marks) (latest marks i) (Contains-best_of (has_version marks i) (committed_stamps marks) some)))
    (best_of-passes (has_version marks i) (committed_stamps marks) some))

-- a version that isn't kept is below the floor
unkept_low : (marks : List Mark) (i t : ℕ) → has_version marks i t ≡ true → kept_version marks i t ≡ None → t < floor marks i
unkept_low marks i t there unkept = go (cases_lt t (floor marks i))
  where
    go : (t < floor marks i) ⊎ (floor marks i ≤ t) → t < floor marks i
    go (inl less) = less
    go (inr high) = absurd (let none : version marks i t ≡ None = sym (kept_high marks i t high) ∙ unkept in let no = ap is_some none in cc)

-- where an item was read at its latest stamp, and is gone later though that stamp is given, its floor has risen
floor_rose : (old new : List Mark) (i t : ℕ) (ts : List ℕ) → IsPrefix old new → is_legal new ≡ true → IsLatest old i t → Contains ts t
    → 0 < floor new i → All (λ s. kept_version new i s ≡ None) ts → floor old i < floor new i
floor_rose old new i t ts p legal is given trimmed unkept =
    let whole : is_legal (old ++ p.0) ≡ true = subst (λ (ms : List Mark). is_legal ms ≡ true) (sym p.1) legal in
    let low = floor_low old i (legal_parts old p.0 whole).0 in
    let most = latest_low old i t is in
    dite (ℕ_discrete t 0)
    (λ zero. omega (arith, zero))
    (λ some.
    let same : version new i t ≡ version old i t = subst (λ (ms : List Mark). version ms i t ≡ version old i t) p.1 (version_stays old p.0 i t whole (is.committed some)) in
    let there : has_version new i t ≡ true = ap is_some same ∙ is.there some in
    let less = unkept_low new i t there (All-contains (λ s. kept_version new i s ≡ None) ts t unkept given) in
    omega arith)

-- and so it was trimmed in between
pub trimmed_since : (old new : List Mark) (i t : ℕ) (ts : List ℕ) → IsPrefix old new → is_legal new ≡ true → IsLatest old i t → Contains ts t
    → 0 < floor new i → All (λ s. kept_version new i s ≡ None) ts → count_by is_trim old < count_by is_trim new
trimmed_since old new i t ts p legal is given trimmed unkept =
    let rose = floor_rose old new i t ts p legal is given trimmed unkept in
    subst (λ (ms : List Mark). count_by is_trim old < count_by is_trim ms) p.1
    (trim_between old p.0 i (subst (λ (ms : List Mark). floor old i < floor ms i) (sym p.1) rose))

-- ---- the trims of a cut

sums_grow : (f : List Mark → ℕ) (hs ks : List (List Mark)) → length hs ≡ length ks
    → ((p : ℕ) → f (marks_at hs p) ≤ f (marks_at ks p)) → sum_by f hs ≤ sum_by f ks
sums_grow f [] [] same each = omega arith
sums_grow f [] (k ∷ ks) same each = absurd (omega arith)
sums_grow f (h ∷ hs) [] same each = absurd (omega arith)
sums_grow f (h ∷ hs) (k ∷ ks) same each =
    let first : f h ≤ f k = each 0 in
    let rest = sums_grow f hs ks (omega arith) (λ p. each (suc p)) in
    let old = sum_by-cons f h hs in
    let new = sum_by-cons f k ks in
    omega arith

sums_rise : (f : List Mark → ℕ) (hs ks : List (List Mark)) (p : ℕ) → length hs ≡ length ks
    → ((q : ℕ) → f (marks_at hs q) ≤ f (marks_at ks q)) → f (marks_at hs p) < f (marks_at ks p) → sum_by f hs < sum_by f ks
sums_rise f [] [] p same each less = absurd (omega arith)
sums_rise f [] (k ∷ ks) p same each less = absurd (omega arith)
sums_rise f (h ∷ hs) [] p same each less = absurd (omega arith)
sums_rise f (h ∷ hs) (k ∷ ks) zero same each less =
    let rest = sums_grow f hs ks (omega arith) (λ q. each (suc q)) in
    let old = sum_by-cons f h hs in
    let new = sum_by-cons f k ks in
    omega arith
sums_rise f (h ∷ hs) (k ∷ ks) (suc p) same each less =
    let first : f h ≤ f k = each 0 in
    let rest = sums_rise f hs ks p (omega arith) (λ q. each (suc q)) less in
    let old = sum_by-cons f h hs in
    let new = sum_by-cons f k ks in
    omega arith

-- a cut that has one more of them at a partition has more
pub trims_rise : (c d : Cut) (p : ℕ) → IsSound c → IsSound d → Extends c d
    → count_by is_trim (prefix_at c p) < count_by is_trim (prefix_at d p) → trims_in c < trims_in d
trims_rise c d p s r x less =
    sums_rise (λ (ms : List Mark). count_by is_trim ms) c.prefixes d.prefixes p (s.wide ∙ sym x.parts ∙ sym r.wide)
    (λ q. prefix_trims (prefix_at c q) (prefix_at d q) (x.prefixes q)) less

-- and none has fewer than one that it extends
pub trims_stay : (c d : Cut) → IsSound c → IsSound d → Extends c d → trims_in c ≤ trims_in d
trims_stay c d s r x =
    sums_grow (λ (ms : List Mark). count_by is_trim ms) c.prefixes d.prefixes (s.wide ∙ sym x.parts ∙ sym r.wide)
    (λ q. prefix_trims (prefix_at c q) (prefix_at d q) (x.prefixes q))
