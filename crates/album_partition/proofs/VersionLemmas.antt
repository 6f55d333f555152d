-- The versions that were written, and the latest stamps, as one mark more is made.
use Rattle.std.proofs.Common.{◌≡◌, ℕ, Bool, true, false, ◌==◌, ◌||◌, max, is_some, List, [], ◌∷◌, ◌++◌, Option, None, refl, ap, ◌∙◌, arith, if◌then◌else◌}
use Rattle.std.specs.List.{list_any, find, filter_map}
use Rattle.std.proofs.lemmas.List.{append-nil}
use Rattle.album_items.specs.Openings.{Row}
use Rattle.album_partition.specs.Marks.{value_in, is_mark_of, prepares, commits, discards, state_of, mark_writes, version, has_version, commit_in, committed_stamps, latest}
use Rattle.album_partition.proofs.ListLemmas.{same_or_not, turned}
use Rattle.album_partition.proofs.StateLemmas.{any_push, any_push_no, find_push_no, find_push_first, prepares_no, discards_no, unknown_tells, same_stamp}
use Rattle.std.proofs.lemmas.List.Elements.{filter_map-append}
use Rattle.album_versions.specs.Best.{best_of}
use Rattle.album_terminate.specs.declared.deciding.StampState.TheVariants as state
use Rattle.album_partition.specs.declared.marks.Mark.{Mark}
use Rattle.album_partition.specs.declared.marks.Mark.TheVariants.{Prepared, Committed, Discarded, Trimmed}

-- ---- the greatest number that passes

max_max : (a b c : ℕ) → max a (max b c) ≡ max (max a b) c
max_max a b c = omega arith

max_zero : (a : ℕ) → max a 0 ≡ max 0 a
max_zero a = omega arith

best_of-push : (passes : ℕ → Bool) (ns : List ℕ) (n : ℕ) → best_of passes (ns ++ n ∷ []) ≡ (if passes n then max (best_of passes ns) n else best_of passes ns)
best_of-push passes [] n = go (passes n)
  where
    go : (b : Bool) → (if b then max n 0 else 0) ≡ (if b then max 0 n else 0)
    go true = max_zero n
    go false = refl
best_of-push passes (m ∷ ns) n = go (passes m) (passes n) (best_of-push passes ns n)
  where
    go : (a b : Bool) → best_of passes (ns ++ n ∷ []) ≡ (if b then max (best_of passes ns) n else best_of passes ns) → (if a then max m (best_of passes (ns ++ n ∷ [])) else best_of passes (ns ++ n ∷ [])) ≡ (if b then max (if a then max m (best_of passes ns) else best_of passes ns) n else (if a then max m (best_of passes ns) else best_of passes ns))
    go true true h = ap (max m) h ∙ max_max m (best_of passes ns) n
    go true false h = ap (max m) h
    go false true h = h
    go false false h = h

-- two tests agree on all numbers but one, and that one is not among the numbers
best_of-but : (p q : ℕ → Bool) (t : ℕ) → ((s : ℕ) → (s == t) ≡ false → p s ≡ q s) → (ns : List ℕ) → list_any (λ s. s == t) ns ≡ false → best_of p ns ≡ best_of q ns
best_of-but p q t alike [] none = refl
best_of-but p q t alike (n ∷ ns) none = go (n == t) refl none (best_of-but p q t alike ns)
  where
    test : (b c : Bool) → b ≡ c → best_of p ns ≡ best_of q ns → (if b then max n (best_of p ns) else best_of p ns) ≡ (if c then max n (best_of q ns) else best_of q ns)
    test b c e h = rw (e, h) refl

    go : (b : Bool) → (n == t) ≡ b → b || list_any (λ s. s == t) ns ≡ false → (list_any (λ s. s == t) ns ≡ false → best_of p ns ≡ best_of q ns) → (if p n then max n (best_of p ns) else best_of p ns) ≡ (if q n then max n (best_of q ns) else best_of q ns)
    go true e f h = absurd (cc)
    go false e f h = test (p n) (q n) (alike n e) (h f)

-- a stamp that no mark commits is none of the committed ones
uncommitted : (t : ℕ) (marks : List Mark) → list_any (commits t) marks ≡ false → list_any (λ s. s == t) (committed_stamps marks) ≡ false
uncommitted t [] e = refl
uncommitted t (Prepared s ws is ∷ marks) e = uncommitted t marks e
uncommitted t (Discarded s ∷ marks) e = uncommitted t marks e
uncommitted t (Trimmed i ∷ marks) e = uncommitted t marks e
uncommitted t (Committed s ∷ marks) e = go (s == t) e (uncommitted t marks)
  where
    go : (b : Bool) → b || list_any (commits t) marks ≡ false → (list_any (commits t) marks ≡ false → list_any (λ s. s == t) (committed_stamps marks) ≡ false) → b || list_any (λ s. s == t) (committed_stamps marks) ≡ false
    go true e h = absurd (cc)
    go false e h = h e

-- ---- versions

version_by : {a b : Bool} {m n : Option Mark} (i : ℕ) → a ≡ b → m ≡ n → (if a then None else value_in (mark_writes m) i) ≡ (if b then None else value_in (mark_writes n) i)
version_by i e f = rw (e, f) refl

-- those of another stamp stay
pub version_push_other : (marks : List Mark) (mark : Mark) (i s : ℕ) → is_mark_of s mark ≡ false → version (marks ++ mark ∷ []) i s ≡ version marks i s
version_push_other marks mark i s apart = version_by i (any_push_no (discards s) marks mark (discards_no mark s apart)) (find_push_no (prepares s) marks mark (prepares_no mark s apart))

pub version_prepared : (marks : List Mark) (t : ℕ) (ws : List Row) (is : List ℕ) → state_of marks t ≡ state.Unknown → (i s : ℕ) → version (marks ++ Prepared t ws is ∷ []) i s ≡ (if s == t then value_in ws i else version marks i s)
version_prepared marks t ws is unknown i s = same_or_not s t here apart
  where
    here : s ≡ t → version (marks ++ Prepared t ws is ∷ []) i s ≡ (if s == t then value_in ws i else version marks i s)
    here e =
        let told = unknown_tells _ _ _ unknown in
        rw (e, same_stamp t) (version_by i (any_push_no (discards t) marks (Prepared t ws is) refl ∙ told.1) (find_push_first (prepares t) marks (Prepared t ws is) told.2 (same_stamp t)))

    apart : (s == t) ≡ false → version (marks ++ Prepared t ws is ∷ []) i s ≡ (if s == t then value_in ws i else version marks i s)
    apart e = rw e (version_push_other marks (Prepared t ws is) i s (turned s t e))

pub version_committed : (marks : List Mark) (t i s : ℕ) → version (marks ++ Committed t ∷ []) i s ≡ version marks i s
version_committed marks t i s = version_by i (any_push_no (discards s) marks (Committed t) refl) (find_push_no (prepares s) marks (Committed t) refl)

pub version_discarded : (marks : List Mark) (t i s : ℕ) → version (marks ++ Discarded t ∷ []) i s ≡ (if s == t then None else version marks i s)
version_discarded marks t i s = same_or_not s t here apart
  where
    gone : (a : Bool) → (a || (t == t)) ≡ true
    gone true = refl
    gone false = same_stamp t

    here : s ≡ t → version (marks ++ Discarded t ∷ []) i s ≡ (if s == t then None else version marks i s)
    here e = rw (e, same_stamp t) (version_by {m = find (prepares t) (marks ++ Discarded t ∷ [])} {n = find (prepares t) (marks ++ Discarded t ∷ [])} i (any_push (discards t) marks (Discarded t) ∙ gone (list_any (discards t) marks)) refl)

    apart : (s == t) ≡ false → version (marks ++ Discarded t ∷ []) i s ≡ (if s == t then None else version marks i s)
    apart e = rw e (version_push_other marks (Discarded t) i s (turned s t e))

-- a trim leaves them
pub version_trimmed : (marks : List Mark) (j i s : ℕ) → version (marks ++ Trimmed j ∷ []) i s ≡ version marks i s
version_trimmed marks j i s = version_push_other marks (Trimmed j) i s refl

-- ---- latest stamps

turned_of : (t s : ℕ) → (s == t) ≡ false → (t == s) ≡ false
turned_of t s e = turned s t e

-- a mark that commits nothing, of a stamp that is not committed
latest_push : (marks : List Mark) (mark : Mark) (t i : ℕ) → ((s : ℕ) → (s == t) ≡ false → is_mark_of s mark ≡ false)
    → commit_in mark ≡ None → list_any (commits t) marks ≡ false → latest (marks ++ mark ∷ []) i ≡ latest marks i
latest_push marks mark t i own other none =
    ap (best_of (has_version (marks ++ mark ∷ []) i)) (filter_map-append commit_in marks (mark ∷ []) ∙ stays)
    ∙ best_of-but (has_version (marks ++ mark ∷ []) i) (has_version marks i) t (λ s e. ap is_some (version_push_other marks mark i s (own s e))) (committed_stamps marks) (uncommitted t marks none)
  where
    stays : committed_stamps marks ++ filter_map commit_in (mark ∷ []) ≡ committed_stamps marks
    stays = rw other (append-nil (committed_stamps marks))

pub latest_prepared : (marks : List Mark) (t : ℕ) (ws : List Row) (is : List ℕ) → state_of marks t ≡ state.Unknown → (i : ℕ) → latest (marks ++ Prepared t ws is ∷ []) i ≡ latest marks i
latest_prepared marks t ws is unknown i = latest_push marks (Prepared t ws is) t i (turned_of t) refl (unknown_tells _ _ _ unknown).0

pub latest_discarded : (marks : List Mark) (t : ℕ) → list_any (commits t) marks ≡ false → (i : ℕ) → latest (marks ++ Discarded t ∷ []) i ≡ latest marks i
latest_discarded marks t none i = latest_push marks (Discarded t) t i (turned_of t) refl none

pub latest_committed : (marks : List Mark) (t i : ℕ) → latest (marks ++ Committed t ∷ []) i ≡ (if has_version marks i t then max (latest marks i) t else latest marks i)
latest_committed marks t i =
    ap (best_of (has_version (marks ++ Committed t ∷ []) i)) (filter_map-append commit_in marks (Committed t ∷ []))
    ∙ same (committed_stamps marks ++ t ∷ [])
    ∙ best_of-push (has_version marks i) (committed_stamps marks) t
  where
    same : (ns : List ℕ) → best_of (has_version (marks ++ Committed t ∷ []) i) ns ≡ best_of (has_version marks i) ns
    same [] = refl
    same (n ∷ ns) = rw (ap is_some (version_committed marks t i n), same ns) refl

pub latest_trimmed : (marks : List Mark) (j i : ℕ) → latest (marks ++ Trimmed j ∷ []) i ≡ latest marks i
latest_trimmed marks j i =
    ap (best_of (has_version (marks ++ Trimmed j ∷ []) i))
    (filter_map-append commit_in marks (Trimmed j ∷ []) ∙ append-nil (committed_stamps marks))
    ∙ same (committed_stamps marks)
  where
    same : (ns : List ℕ) → best_of (has_version (marks ++ Trimmed j ∷ []) i) ns ≡ best_of (has_version marks i) ns
    same [] = refl
    same (n ∷ ns) = rw (ap is_some (version_trimmed marks j i n), same ns) refl
