-- The versions stay those of the marks as one mark is made or refused: first the rows of a Prepare one by one, then
-- versions and latest stamps as one mark more is made, then what `Stored::prepare`, `commit` and `discard` need.
use Rattle.std.proofs.Common.{◌≡◌, ℕ, zero, suc, ◌<◌, ◌≤◌, ◌+◌, ◌⊎◌, inl, inr, Bool, true, false, ◌==◌, ◌&&◌, ◌||◌, not, nat_le, nat_lt, max, is_some, All, List, [], ◌∷◌, ◌++◌, length, take, get_or, Option, Some, None, refl, sym, ap, ◌∙◌, subst, arith, if◌then◌else◌}
use Rattle.std.specs.List.{list_any, find, slice_get}
use Rattle.std.specs.Option.{option_or}
use Rattle.std.proofs.lemmas.List.{take_more}
use Rattle.std.proofs.lemmas.Bool.{and_parts, or_parts, not-true, le-leb, lt-leb, leb-false, ltb-true, ltb-false}
use Rattle.std.proofs.lemmas.Bool.Decides.{Decides-eqb}
use Rattle.album_items.specs.Openings.{Row, same_item, has_single_rows}
use Rattle.album_items.specs.declared.values.Value.{Value}
use Rattle.album_versions.specs.Best.{best_of, unless_gone}
use Rattle.album_versions.specs.Versions.{VersionsState, version_at, latest_of, floor_of, SameVersions, Adds, Commits, DropsOne, Drops, Trims}
use Rattle.album_terminate.specs.declared.deciding.StampState.{StampState}
use Rattle.album_terminate.specs.declared.deciding.StampState.TheVariants as state
use Rattle.album_partition.specs.declared.marks.Mark.{Mark}
use Rattle.album_partition.specs.declared.marks.Mark.TheVariants.{Prepared, Committed, Discarded, Trimmed}
use Rattle.album_partition.specs.History.{IsPreparedAt, is_kept, kept_by, kept_mark}
use Rattle.album_partition.specs.Marks.{value_in, prepares, commits, discards, state_of, mark_writes, writes_at, version, has_version, latest, floor, kept_version, has_kept_version, is_unknown, is_pending, may_follow, is_legal}
use Rattle.album_partition.specs.Partition.{read_at}
use Rattle.album_partition.specs.Stored.{HasAdded, HasCommitted, IsStored}
use Rattle.album_partition.proofs.HistoryLemmas.{at_push}
use Rattle.album_partition.proofs.LegalLemmas.{is_legal-push}
use Rattle.album_partition.proofs.ListLemmas.{same_or_not, turned}
use Rattle.album_partition.proofs.StateLemmas.{or_none, find_push_no, unknown_tells, pending_tells, same_stamp, find_none, is_unknown_tells, is_pending_tells, committed_is_committed}
use Rattle.album_partition.proofs.TrimLemmas.{floor_trimmed, floor_stays, floor_low, kept_high, never_gone, read_kept}
use Rattle.album_partition.proofs.VersionLemmas.{version_prepared, version_committed, version_discarded, version_trimmed, latest_prepared, latest_committed, latest_discarded, latest_trimmed}

-- ---- what rows give an item

pub value_in-push : (rows : List Row) (row : Row) (i : ℕ) → value_in (rows ++ row ∷ []) i ≡ option_or (value_in rows i) (if row.0 == i then Some row.1 else None)
value_in-push [] row i = refl
value_in-push (r ∷ rows) row i = go (r.0 == i) (value_in-push rows row i)
  where
    go : (b : Bool) → value_in (rows ++ row ∷ []) i ≡ option_or (value_in rows i) (if row.0 == i then Some row.1 else None) → (if b then Some r.1 else value_in (rows ++ row ∷ []) i) ≡ option_or (if b then Some r.1 else value_in rows i) (if row.0 == i then Some row.1 else None)
    go true h = refl
    go false h = h

other_at : (n : ℕ) (rows : List Row) (k : ℕ) (d : Row)
    → list_any (λ row. n == row.0) rows ≡ false → k < length rows → (n == (get_or rows k d).0) ≡ false
other_at n [] k d e less = absurd (omega arith)
other_at n (r ∷ rows) zero d e less = (or_parts (n == r.0) (list_any (λ row. n == row.0) rows) e).0
other_at n (r ∷ rows) (suc k) d e less =
    other_at n rows k d (or_parts (n == r.0) (list_any (λ row. n == row.0) rows) e).1 (omega arith)

-- a row more
some_more : (rows : List Row) (row : Row) (i : ℕ) → is_some (value_in (rows ++ row ∷ []) i) ≡ is_some (value_in rows i) || (i == row.0)
some_more rows row i = ap is_some (value_in-push rows row i) ∙ go (value_in rows i) ∙ ap (λ b. is_some (value_in rows i) || b) turn
  where
    turn : (row.0 == i) ≡ (i == row.0)
    turn = same_or_not i row.0 (λ (e : i ≡ row.0). rw e refl) (λ (e : (i == row.0) ≡ false). rw (e, turned i row.0 e) refl)

    one : (b : Bool) → is_some (if b then Some row.1 else None) ≡ b
    one true = refl
    one false = refl

    go : (v : Option _) → is_some (option_or v (if row.0 == i then Some row.1 else None)) ≡ is_some v || (row.0 == i)
    go None = one (row.0 == i)
    go (Some w) = refl

-- what some of the rows have
some_in : (rows : List Row) (k i : ℕ) → is_some (value_in (take k rows) i) ≡ true → is_some (value_in rows i) ≡ true
some_in [] zero i e = e
some_in [] (suc k) i e = e
some_in (r ∷ rows) zero i e = absurd (cc)
some_in (r ∷ rows) (suc k) i e = go (r.0 == i) e (some_in rows k i)
  where
    go : (b : Bool) → is_some (if b then Some r.1 else value_in (take k rows) i) ≡ true
        → (is_some (value_in (take k rows) i) ≡ true → is_some (value_in rows i) ≡ true)
        → is_some (if b then Some r.1 else value_in rows i) ≡ true
    go true e h = refl
    go false e h = h e

-- a row is of an item that none before it is of
pub new_row : (rows : List Row) (k : ℕ) (d : Row)
    → has_single_rows rows ≡ true → k < length rows → value_in (take k rows) (get_or rows k d).0 ≡ None
new_row [] k d once less = absurd (omega arith)
new_row (r ∷ rows) zero d once less = refl
new_row (r ∷ rows) (suc k) d once less =
    let parts = and_parts (not (list_any (same_item r) rows)) (has_single_rows rows) once in
    go (r.0 == (get_or rows k d).0)
    (other_at r.0 rows k d (not-true (list_any (same_item r) rows) parts.0) (omega arith))
    (new_row rows k d parts.1 (omega arith))
  where
    go : (b : Bool) → b ≡ false → value_in (take k rows) (get_or rows k d).0 ≡ None → (if b then Some r.1 else value_in (take k rows) (get_or rows k d).0) ≡ None
    go true e h = absurd (cc)
    go false e h = h

-- ---- one row more

-- it is fresh
pub fresh_row : (old mid : VersionsState) (t : ℕ) (rows : List Row) (k : ℕ) (row d : Row) → has_single_rows rows ≡ true → k < length rows → row ≡ get_or rows k d → HasAdded old mid t (take k rows) → version_at mid row.0 t ≡ None
fresh_row old mid t rows k row d once less at h =
    h.versions row.0 t ∙ rw ((Decides-eqb t t).1 refl, subst (λ (r : Row). value_in (take k rows) r.0 ≡ None) (sym at) (new_row rows k d once less)) (either (nat_le (floor_of old row.0) t))
  where
    either : (b : Bool) → (if b then (let v : Option Value = None in v) else None) ≡ None
    either true = refl
    either false = refl

pub added_more : (old mid new : VersionsState) (t : ℕ) (rows : List Row) (k : ℕ) (row d : Row) → has_single_rows rows ≡ true → k < length rows → row ≡ get_or rows k d → HasAdded old mid t (take k rows) → Adds mid new row.0 t row.1 → HasAdded old new t (take (k + 1) rows)
added_more old mid new t rows k row d once less at h adds =
    subst (HasAdded old new t) (sym (take_more rows k d less ∙ ap (λ (r : Row). take k rows ++ r ∷ []) (sym at)))
    (record {
      versions = λ i s.
          adds.versions i s
          ∙ ap (λ v. if (i == row.0 && s == t) && nat_le (floor_of mid i) s then Some row.1 else v) (h.versions i s)
          ∙ ap (λ n. if (i == row.0 && s == t) && nat_le n s then Some row.1 else before i s) (h.floor i)
          ∙ either i s;
      latest = λ i. adds.latest i ∙ h.latest i;
      floor = λ i. adds.floor i ∙ h.floor i;
    })
  where
    none : value_in (take k rows) row.0 ≡ None
    none = subst (λ (r : Row). value_in (take k rows) r.0 ≡ None) (sym at) (new_row rows k d once less)

    pushed : (i : ℕ) → (if i == row.0 then Some row.1 else value_in (take k rows) i) ≡ value_in (take k rows ++ row ∷ []) i
    pushed i = same_or_not i row.0
        (λ (e : i ≡ row.0). rw e (rw ((Decides-eqb row.0 row.0).1 refl) (sym (value_in-push (take k rows) row row.0 ∙ rw (none, (Decides-eqb row.0 row.0).1 refl) refl))))
        (λ (e : (i == row.0) ≡ false). rw e (sym (value_in-push (take k rows) row i ∙ rw (turned i row.0 e) (or_none (value_in (take k rows) i)))))

    -- the version there before
    before : (i s : ℕ) → Option Value
    before i s = if s == t then (if nat_le (floor_of old i) s then value_in (take k rows) i else None) else version_at old i s

    either : (i s : ℕ)
        → (if (i == row.0 && s == t) && nat_le (floor_of old i) s then Some row.1 else before i s)
        ≡ (if s == t then (if nat_le (floor_of old i) s then value_in (take k rows ++ row ∷ []) i else None) else version_at old i s)
    either i s = go (i == row.0) (s == t) (nat_le (floor_of old i) s) (pushed i)
      where
        go : (a b c : Bool) → (if a then Some row.1 else value_in (take k rows) i) ≡ value_in (take k rows ++ row ∷ []) i
            → (if (a && b) && c then Some row.1 else if b then (if c then value_in (take k rows) i else None) else version_at old i s)
            ≡ (if b then (if c then value_in (take k rows ++ row ∷ []) i else None) else version_at old i s)
        go true true true e = e
        go true true false e = refl
        go true false true e = refl
        go true false false e = refl
        go false true true e = e
        go false true false e = refl
        go false false true e = refl
        go false false false e = refl

pub committed_more : (old mid new : VersionsState) (t : ℕ) (rows : List Row) (k : ℕ) (row d : Row) → k < length rows → row ≡ get_or rows k d → HasCommitted old mid t (take k rows) → Commits mid new row.0 t → HasCommitted old new t (take (k + 1) rows)
committed_more old mid new t rows k row d less at h commits =
    subst (HasCommitted old new t) (sym (take_more rows k d less ∙ ap (λ (r : Row). take k rows ++ r ∷ []) (sym at)))
    (record {
      versions = λ i s. commits.versions i s ∙ h.versions i s;
      latest = λ i. commits.latest i ∙ ap (λ n. if i == row.0 then max n t else n) (h.latest i) ∙ either i;
      floor = λ i. commits.floor i ∙ h.floor i;
    })
  where
    either : (i : ℕ) → (if i == row.0 then max (if is_some (value_in (take k rows) i) then max (latest_of old i) t else latest_of old i) t else if is_some (value_in (take k rows) i) then max (latest_of old i) t else latest_of old i) ≡ (if is_some (value_in (take k rows ++ row ∷ []) i) then max (latest_of old i) t else latest_of old i)
    either i = rw (some_more (take k rows) row i) (go (i == row.0) (is_some (value_in (take k rows) i)))
      where
        twice : (n : ℕ) → max (max n t) t ≡ max n t
        twice n = omega arith

        go : (a b : Bool) → (if a then max (if b then max (latest_of old i) t else latest_of old i) t else if b then max (latest_of old i) t else latest_of old i) ≡ (if b || a then max (latest_of old i) t else latest_of old i)
        go true true = twice (latest_of old i)
        go true false = refl
        go false true = refl
        go false false = refl

-- a version that was there, or was below the floor, is so still
pub commit_next : (old mid : VersionsState) (t : ℕ) (rows : List Row) (k : ℕ) (row d : Row) → k < length rows → row ≡ get_or rows k d
    → HasCommitted old mid t (take k rows)
    → All (λ r. (is_some (version_at old r.0 t) ≡ true) ⊎ (t < floor_of old r.0)) rows
    → (is_some (version_at mid row.0 t) ≡ true) ⊎ (t < floor_of mid row.0)
commit_next old mid t rows k row d less at h all =
    elim (subst (λ (r : Row). (is_some (version_at old r.0 t) ≡ true) ⊎ (t < floor_of old r.0)) (sym at) (all k d less)) [
      | inl there ↦ inl (ap is_some (h.versions row.0 t) ∙ there)
      | inr below ↦ inr (subst (λ (n : ℕ). t < n) (sym (h.floor row.0)) below)
    ]

-- ---- one row less

-- the versions at a stamp of the rows' items are gone, and nothing else changed
pub record HasDropped (old new : VersionsState) (t : ℕ) (rows : List Row) : Type 0 where
  pub versions : (i s : ℕ) → version_at new i s
      ≡ (if s == t && is_some (value_in rows i) then None else version_at old i s)
  pub latest : (i : ℕ) → latest_of new i ≡ latest_of old i
  pub floor : (i : ℕ) → floor_of new i ≡ floor_of old i

pub dropped_more : (old mid new : VersionsState) (t : ℕ) (rows : List Row) (k : ℕ) (row d : Row) → k < length rows → row ≡ get_or rows k d
    → HasDropped old mid t (take k rows) → DropsOne mid new row.0 t → HasDropped old new t (take (k + 1) rows)
dropped_more old mid new t rows k row d less at h drops =
    subst (HasDropped old new t) (sym (take_more rows k d less ∙ ap (λ (r : Row). take k rows ++ r ∷ []) (sym at)))
    (record {
      versions = λ i s. drops.versions i s ∙ ap (λ v. if i == row.0 && s == t then None else v) (h.versions i s) ∙ either i s;
      latest = λ i. drops.latest i ∙ h.latest i;
      floor = λ i. drops.floor i ∙ h.floor i;
    })
  where
    either : (i s : ℕ)
        → (if i == row.0 && s == t then None else if s == t && is_some (value_in (take k rows) i) then None else version_at old i s)
        ≡ (if s == t && is_some (value_in (take k rows ++ row ∷ []) i) then None else version_at old i s)
    either i s = rw (some_more (take k rows) row i) (go (i == row.0) (s == t) (is_some (value_in (take k rows) i)))
      where
        go : (a b c : Bool) → (if a && b then None else if b && c then None else version_at old i s) ≡ (if b && (c || a) then None else version_at old i s)
        go true true true = refl
        go true true false = refl
        go true false c = refl
        go false true true = refl
        go false true false = refl
        go false false c = refl

pub nothing_dropped : (kept : VersionsState) (t : ℕ) → HasDropped kept kept t []
nothing_dropped kept t = record { versions = λ i s. same i s (s == t); latest = λ i. refl; floor = λ i. refl }
  where
    same : (i s : ℕ) (b : Bool) → version_at kept i s ≡ (if b && false then None else version_at kept i s)
    same i s true = refl
    same i s false = refl

-- where no other items had a version at the stamp, none has one now
pub dropped_all : (old new : VersionsState) (t : ℕ) (rows : List Row)
    → ((i : ℕ) → is_some (version_at old i t) ≡ true → is_some (value_in rows i) ≡ true) → HasDropped old new t rows → Drops old new t
dropped_all old new t rows only h =
    record { versions = λ i s. h.versions i s ∙ same_or_not s t (here i s) (apart i s); latest = h.latest; floor = h.floor }
  where
    none : (v : Option Value) (b : Bool) → (is_some v ≡ true → b ≡ true) → (if b then None else v) ≡ None
    none None true e = refl
    none None false e = refl
    none (Some x) true e = refl
    none (Some x) false e = absurd (let wrong : false ≡ true = e refl in cc)

    here : (i s : ℕ) → s ≡ t → (if s == t && is_some (value_in rows i) then None else version_at old i s) ≡ (if s == t then None else version_at old i s)
    here i s e = rw (e, same_stamp t) (none (version_at old i t) (is_some (value_in rows i)) (only i))

    apart : (i s : ℕ) → (s == t) ≡ false → (if s == t && is_some (value_in rows i) then None else version_at old i s) ≡ (if s == t then None else version_at old i s)
    apart i s e = rw e refl

-- what was added at a stamp is of the rows
pub added_only : (old mid : VersionsState) (t : ℕ) (rows : List Row) → HasAdded old mid t rows
    → (i : ℕ) → is_some (version_at mid i t) ≡ true → is_some (value_in rows i) ≡ true
added_only old mid t rows h i some =
    let there : version_at mid i t ≡ (if nat_le (floor_of old i) t then value_in rows i else None) = h.versions i t ∙ rw (same_stamp t) refl in
    go (nat_le (floor_of old i) t) (ap is_some (sym there) ∙ some)
  where
    go : (b : Bool) → is_some (if b then value_in rows i else None) ≡ true → is_some (value_in rows i) ≡ true
    go true e = e
    go false e = absurd (cc)

-- the same of the rows of the mark that prepares them
pub given_only : (old mid : VersionsState) (t : ℕ) (ws : List Row) (is : List ℕ) (mark : Mark) (rows : List Row) → HasAdded old mid t ws
    → mark ≡ Prepared t ws is → rows ≡ mark_writes (Some mark) → (i : ℕ) → is_some (version_at mid i t) ≡ true → is_some (value_in rows i) ≡ true
given_only old mid t ws is mark rows h given told i some =
    subst (λ (rs : List Row). is_some (value_in rs i) ≡ true) (sym (told ∙ ap (λ (m : Mark). mark_writes (Some m)) given)) (added_only old mid t ws h i some)

-- also where the next row was refused
pub refused_only : (old mid new : VersionsState) (t : ℕ) (rows : List Row) (k : ℕ) → HasAdded old mid t (take k rows) → SameVersions mid new
    → (i : ℕ) → is_some (version_at new i t) ≡ true → is_some (value_in rows i) ≡ true
refused_only old mid new t rows k h same i some =
    some_in rows k i (added_only old mid t (take k rows) h i (ap is_some (sym (same.versions i t)) ∙ some))

-- every row's item has a value
pub rows_have : (rows : List Row) → (k : ℕ) (d : Row) → k < length rows → is_some (value_in rows (get_or rows k d).0) ≡ true
rows_have [] k d less = absurd (omega arith)
rows_have (r ∷ rows) zero d less = rw ((Decides-eqb r.0 r.0).1 refl) refl
rows_have (r ∷ rows) (suc k) d less = go (r.0 == (get_or rows k d).0) (rows_have rows k d (omega arith))
  where
    go : (b : Bool) → is_some (value_in rows (get_or rows k d).0) ≡ true → is_some (if b then Some r.1 else value_in rows (get_or rows k d).0) ≡ true
    go true h = refl
    go false h = h

-- ---- what is stored

kept_alike : {m n : ℕ} {v w : Option Value} (s : ℕ) → m ≡ n → v ≡ w → (if nat_le m s then v else None) ≡ (if nat_le n s then w else None)
kept_alike s e f = rw (e, f) refl

pub stored_prepared : (marks : List Mark) (old new : VersionsState) (t : ℕ) (ws : List Row) (is : List ℕ) → IsStored marks old → state_of marks t ≡ state.Unknown → HasAdded old new t ws → IsStored (marks ++ Prepared t ws is ∷ []) new
stored_prepared marks old new t ws is h unknown added =
    record {
      legal = is_legal-push marks (Prepared t ws is) h.legal (rw unknown refl);
      versions = λ i s.
          added.versions i s
          ∙ ap (λ n. if s == t then (if nat_le n s then value_in ws i else None) else version_at old i s) (h.floor i)
          ∙ ap (λ v. if s == t then (if nat_le (floor marks i) s then value_in ws i else None) else v) (h.versions i s)
          ∙ either i s (s == t) (nat_le (floor marks i) s)
          ∙ sym (kept_alike s (floor_stays marks (Prepared t ws is) i refl) (version_prepared marks t ws is unknown i s));
      latest = λ i. added.latest i ∙ h.latest i ∙ sym (latest_prepared marks t ws is unknown i);
      floor = λ i. added.floor i ∙ h.floor i ∙ sym (floor_stays marks (Prepared t ws is) i refl);
    }
  where
    either : (i s : ℕ) (a b : Bool)
        → (if a then (if b then value_in ws i else None) else if b then version marks i s else None)
        ≡ (if b then (if a then value_in ws i else version marks i s) else None)
    either i s true true = refl
    either i s true false = refl
    either i s false true = refl
    either i s false false = refl

pub stored_committed : (marks : List Mark) (old new : VersionsState) (t : ℕ) → IsStored marks old → state_of marks t ≡ state.Pending → HasCommitted old new t (writes_at marks t) → IsStored (marks ++ Committed t ∷ []) new
stored_committed marks old new t h pending done =
    record {
      legal = is_legal-push marks (Committed t) h.legal (rw pending refl);
      versions = λ i s. done.versions i s ∙ h.versions i s ∙ sym (kept_alike s (floor_stays marks (Committed t) i refl) (version_committed marks t i s));
      latest = λ i. done.latest i ∙ raised i ∙ sym (latest_committed marks t i);
      floor = λ i. done.floor i ∙ h.floor i ∙ sym (floor_stays marks (Committed t) i refl);
    }
  where
    there : (i : ℕ) → version marks i t ≡ value_in (writes_at marks t) i
    there i = rw (pending_tells _ _ _ pending).1 refl

    raised : (i : ℕ) → (if is_some (value_in (writes_at marks t) i) then max (latest_of old i) t else latest_of old i) ≡ (if has_version marks i t then max (latest marks i) t else latest marks i)
    raised i = rw (h.latest i, there i) refl

pub stored_discarded : (marks : List Mark) (old new : VersionsState) (t : ℕ) → IsStored marks old → may_follow marks (Discarded t) ≡ true → list_any (commits t) marks ≡ false → Drops old new t → IsStored (marks ++ Discarded t ∷ []) new
stored_discarded marks old new t h may none drops =
    record {
      legal = is_legal-push marks (Discarded t) h.legal may;
      versions = λ i s.
          drops.versions i s
          ∙ ap (λ v. if s == t then None else v) (h.versions i s)
          ∙ either i s (s == t) (nat_le (floor marks i) s)
          ∙ sym (kept_alike s (floor_stays marks (Discarded t) i refl) (version_discarded marks t i s));
      latest = λ i. drops.latest i ∙ h.latest i ∙ sym (latest_discarded marks t none i);
      floor = λ i. drops.floor i ∙ h.floor i ∙ sym (floor_stays marks (Discarded t) i refl);
    }
  where
    either : (i s : ℕ) (a b : Bool)
        → (if a then None else if b then version marks i s else None) ≡ (if b then (if a then None else version marks i s) else None)
    either i s true true = refl
    either i s true false = refl
    either i s false true = refl
    either i s false false = refl

pub stored_trimmed : (marks : List Mark) (old new : VersionsState) (j : ℕ) → IsStored marks old → Trims old new j → IsStored (marks ++ Trimmed j ∷ []) new
stored_trimmed marks old new j h trimmed =
    record {
      legal = is_legal-push marks (Trimmed j) h.legal refl;
      versions = λ i s. same_or_not i j (here i s) (apart i s);
      latest = λ i. trimmed.latest i ∙ h.latest i ∙ sym (latest_trimmed marks j i);
      floor = λ i. same_or_not i j (floor_here i) (floor_apart i);
    }
  where
    new_floor : floor_of new j ≡ latest marks j
    new_floor = trimmed.floor j ∙ rw (same_stamp j) (h.latest j)

    floor_here : (i : ℕ) → i ≡ j → floor_of new i ≡ floor (marks ++ Trimmed j ∷ []) i
    floor_here i e = subst (λ (z : ℕ). floor_of new z ≡ floor (marks ++ Trimmed j ∷ []) z) (sym e) (new_floor ∙ sym (floor_trimmed marks j))

    floor_apart : (i : ℕ) → (i == j) ≡ false → floor_of new i ≡ floor (marks ++ Trimmed j ∷ []) i
    floor_apart i e = trimmed.floor i ∙ rw e (h.floor i) ∙ sym (floor_stays marks (Trimmed j) i (turned i j e))

    at_j : (s : ℕ) → version_at new j s ≡ kept_version (marks ++ Trimmed j ∷ []) j s
    at_j s =
        trimmed.versions j s
        ∙ ap (λ n. if (j == j) && nat_lt s n then None else version_at old j s) (h.latest j)
        ∙ ap (λ b. if b && nat_lt s (latest marks j) then None else version_at old j s) (same_stamp j)
        ∙ ap (λ v. if nat_lt s (latest marks j) then None else v) (h.versions j s)
        ∙ go (nat_lt s (latest marks j)) refl
        ∙ sym (kept_alike s (floor_trimmed marks j) (version_trimmed marks j j s))
      where
        go : (b : Bool) → nat_lt s (latest marks j) ≡ b
            → (if b then None else if nat_le (floor marks j) s then version marks j s else None)
            ≡ (if nat_le (latest marks j) s then version marks j s else None)
        go true e = rw (lt-leb (latest marks j) s (ltb-true s (latest marks j) e)) refl
        go false e =
            let high : latest marks j ≤ s = ltb-false s (latest marks j) e in
            let low : floor marks j ≤ latest marks j = floor_low marks j h.legal in
            let all : floor marks j ≤ s = omega (arith, high, low) in
            rw (le-leb (latest marks j) s high, le-leb (floor marks j) s all) refl

    here : (i s : ℕ) → i ≡ j → version_at new i s ≡ kept_version (marks ++ Trimmed j ∷ []) i s
    here i s e = subst (λ (z : ℕ). version_at new z s ≡ kept_version (marks ++ Trimmed j ∷ []) z s) (sym e) (at_j s)

    apart : (i s : ℕ) → (i == j) ≡ false → version_at new i s ≡ kept_version (marks ++ Trimmed j ∷ []) i s
    apart i s e =
        trimmed.versions i s
        ∙ rw e (h.versions i s)
        ∙ sym (kept_alike s (floor_stays marks (Trimmed j) i (turned i j e)) (version_trimmed marks j i s))

-- ---- what is prepared

unprepared : (marks : List Mark) (t : ℕ) → state_of marks t ≡ state.Unknown → (i : ℕ) → version marks i t ≡ None
unprepared marks t unknown i =
    let told = unknown_tells _ _ _ unknown in
    rw (told.1, find_none (prepares t) marks told.2) refl

pub fresh_stamp : (history marks : List Mark) (kept : VersionsState) (t : ℕ) (ws : List Row) (is : List ℕ) → history ≡ marks → IsStored history kept → may_follow marks (Prepared t ws is) ≡ true → (i : ℕ) → version_at kept i t ≡ None
fresh_stamp history marks kept t ws is seen h may i =
    h.versions i t
    ∙ ap (λ v. if nat_le (floor history i) t then v else None) (unprepared history t (subst (λ (ms : List Mark). state_of ms t ≡ state.Unknown) (sym seen) (is_unknown_tells (state_of marks t) may)) i)
    ∙ either (nat_le (floor history i) t)
  where
    either : (b : Bool) → (if b then (let v : Option Value = None in v) else None) ≡ None
    either true = refl
    either false = refl

pub prepared_kept : (history marks later : List Mark) (old new : VersionsState) (t : ℕ) (ws : List Row) (is : List ℕ) → history ≡ marks → IsStored history old → may_follow marks (Prepared t ws is) ≡ true → HasAdded old new t ws → later ≡ history ++ Prepared t ws is ∷ [] → IsStored later new
prepared_kept history marks later old new t ws is seen h may added made =
    subst (λ (ms : List Mark). IsStored ms new) (sym made)
    (stored_prepared history old new t ws is h (subst (λ (ms : List Mark). state_of ms t ≡ state.Unknown) (sym seen) (is_unknown_tells (state_of marks t) may)) added)

-- what was added and dropped again
pub refused_kept : (history marks later : List Mark) (old mid new : VersionsState) (t : ℕ) (ws : List Row) (is : List ℕ) → history ≡ marks → IsStored history old → may_follow marks (Prepared t ws is) ≡ true → HasAdded old mid t ws → Drops mid new t → later ≡ history → IsStored later new
refused_kept history marks later old mid new t ws is seen h may added drops same =
    subst (λ (ms : List Mark). IsStored ms new) (sym same)
    (record {
      legal = h.legal;
      versions = λ i s. drops.versions i s ∙ ap (λ v. if s == t then None else v) (added.versions i s) ∙ back i s ∙ h.versions i s;
      latest = λ i. drops.latest i ∙ added.latest i ∙ h.latest i;
      floor = λ i. drops.floor i ∙ added.floor i ∙ h.floor i;
    })
  where
    back : (i s : ℕ)
        → (if s == t then None else if s == t then (if nat_le (floor_of old i) s then value_in ws i else None) else version_at old i s)
        ≡ version_at old i s
    back i s = same_or_not s t
        (λ (e : s ≡ t). rw (e, (Decides-eqb t t).1 refl) (sym (fresh_stamp history marks old t ws is seen h may i)))
        (λ (e : (s == t) ≡ false). rw e refl)

-- ---- what is committed

kept_rows : (marks : List Mark) (t : ℕ) (mark : Option Mark) → mark ≡ kept_mark (marks ++ Committed t ∷ []) t → mark_writes mark ≡ writes_at marks t
kept_rows marks t mark is = ap mark_writes (is ∙ ap (λ s. kept_by s (find (prepares t) (marks ++ Committed t ∷ []))) (committed_is_committed marks t) ∙ find_push_no (prepares t) marks (Committed t) refl)

there : (marks : List Mark) (t : ℕ) → state_of marks t ≡ state.Pending → (i : ℕ) → version marks i t ≡ value_in (writes_at marks t) i
there marks t pending i = rw (pending_tells _ _ _ pending).1 refl

pub commit_ready : (history marks later : List Mark) (kept : VersionsState) (t : ℕ) (mark : Option Mark) (rows : List Row) → history ≡ marks → IsStored history kept → may_follow marks (Committed t) ≡ true → later ≡ history ++ Committed t ∷ [] → mark ≡ kept_mark later t → rows ≡ mark_writes mark → All (λ row. (is_some (version_at kept row.0 t) ≡ true) ⊎ (t < floor_of kept row.0)) rows
commit_ready history marks later kept t mark rows seen h may made is told k d less =
    let pending : state_of history t ≡ state.Pending = subst (λ (ms : List Mark). state_of ms t ≡ state.Pending) (sym seen) (is_pending_tells (state_of marks t) may) in
    let same : rows ≡ writes_at history t = told ∙ kept_rows history t mark (is ∙ ap (λ (ms : List Mark). kept_mark ms t) made) in
    let some : is_some (version history (get_or rows k d).0 t) ≡ true =
    ap is_some (there history t pending (get_or rows k d).0)
    ∙ subst (λ (rs : List Row). is_some (value_in rs (get_or rows k d).0) ≡ true) same (rows_have rows k d less) in
    go (get_or rows k d).0 some (nat_le (floor history (get_or rows k d).0) t) refl
  where
    go : (i : ℕ) → is_some (version history i t) ≡ true → (b : Bool) → nat_le (floor history i) t ≡ b
        → (is_some (version_at kept i t) ≡ true) ⊎ (t < floor_of kept i)
    go i some true e = inl (ap is_some (h.versions i t ∙ ap (λ b. if b then version history i t else None) e) ∙ some)
    go i some false e = inr (subst (λ (n : ℕ). t < n) (sym (h.floor i)) (leb-false (floor history i) t e))

pub committed_kept : (history marks later : List Mark) (old new : VersionsState) (t : ℕ) (mark : Option Mark) (rows : List Row) → history ≡ marks → IsStored history old → may_follow marks (Committed t) ≡ true → later ≡ history ++ Committed t ∷ [] → mark ≡ kept_mark later t → rows ≡ mark_writes mark → HasCommitted old new t rows → IsStored later new
committed_kept history marks later old new t mark rows seen h may made is told done =
    let pending : state_of history t ≡ state.Pending = subst (λ (ms : List Mark). state_of ms t ≡ state.Pending) (sym seen) (is_pending_tells (state_of marks t) may) in
    let same : rows ≡ writes_at history t = told ∙ kept_rows history t mark (is ∙ ap (λ (ms : List Mark). kept_mark ms t) made) in
    subst (λ (ms : List Mark). IsStored ms new) (sym made) (stored_committed history old new t h pending (subst (HasCommitted old new t) same done))

pub nothing_committed : (kept : VersionsState) (t : ℕ) → HasCommitted kept kept t []
nothing_committed kept t = record { versions = λ i s. refl; latest = λ i. refl; floor = λ i. refl }

-- ---- what is discarded

pub discarded_kept : (history marks later : List Mark) (old new : VersionsState) (t : ℕ) → history ≡ marks → IsStored history old → may_follow marks (Discarded t) ≡ true → later ≡ history ++ Discarded t ∷ [] → Drops old new t → IsStored later new
discarded_kept history marks later old new t seen h may made drops =
    subst (λ (ms : List Mark). IsStored ms new) (sym made)
    (stored_discarded history old new t h (subst (λ (ms : List Mark). may_follow ms (Discarded t) ≡ true) (sym seen) may) (subst (λ (ms : List Mark). list_any (commits t) ms ≡ false) (sym seen) (uncommitted (state_of marks t) refl may)) drops)
  where
    uncommitted : (s : StampState) → state_of marks t ≡ s → is_unknown s || is_pending s ≡ true → list_any (commits t) marks ≡ false
    uncommitted state.Unknown e g = (unknown_tells _ _ _ e).0
    uncommitted state.Pending e g = (pending_tells _ _ _ e).0
    uncommitted state.Committed e g = absurd (cc)
    uncommitted state.Discarded e g = absurd (cc)

-- what is kept at a stamp is of the rows that are prepared at it
pub dropped_rows : (history later : List Mark) (kept : VersionsState) (t n : ℕ) (found : Option ℕ) (rows : List Row) → IsStored history kept
    → IsPreparedAt history t found → found ≡ Some n → later ≡ history ++ Discarded t ∷ [] → rows ≡ mark_writes (slice_get later n)
    → (i : ℕ) → is_some (version_at kept i t) ≡ true → is_some (value_in rows i) ≡ true
dropped_rows history later kept t n found rows h prepared is made told i some =
    subst (λ (rs : List Row). is_some (value_in rs i) ≡ true) (sym same)
    (go (nat_le (floor history i) t) (list_any (discards t) history) (ap is_some (sym (h.versions i t)) ∙ some))
  where
    here : IsPreparedAt history t (Some n)
    here = subst (IsPreparedAt history t) is prepared

    same : rows ≡ writes_at history t
    same =
        told ∙ ap (λ (ms : List Mark). mark_writes (slice_get ms n)) made
        ∙ ap mark_writes (sym (at_push history (Discarded t) t n refl here.1).there ∙ find_push_no (prepares t) history (Discarded t) refl)

    go : (a b : Bool) → is_some (if a then (if b then None else value_in (writes_at history t) i) else None) ≡ true
        → is_some (value_in (writes_at history t) i) ≡ true
    go true false e = e
    go true true e = absurd (cc)
    go false b e = absurd (cc)

-- a stamp that was unknown has no version
unknown_kept : (history marks later : List Mark) (old : VersionsState) (t : ℕ) → history ≡ marks → IsStored history old → may_follow marks (Discarded t) ≡ true → is_unknown (state_of marks t) ≡ true → later ≡ history ++ Discarded t ∷ [] → IsStored later old
unknown_kept history marks later old t seen h may unknown made =
    discarded_kept history marks later old old t seen h may made (record { versions = none; latest = λ i. refl; floor = λ i. refl })
  where
    none : (i s : ℕ) → version_at old i s ≡ (if s == t then None else version_at old i s)
    none i s = same_or_not s t
        (λ (e : s ≡ t). rw (e, (Decides-eqb t t).1 refl) (fresh_stamp history marks old t [] [] seen h unknown i))
        (λ (e : (s == t) ≡ false). rw e refl)

pub unprepared_kept : (history marks later : List Mark) (old : VersionsState) (t : ℕ) (found : Option ℕ) → history ≡ marks → IsStored history old
    → may_follow marks (Discarded t) ≡ true → IsPreparedAt history t found → found ≡ None → later ≡ history ++ Discarded t ∷ [] → IsStored later old
unprepared_kept history marks later old t found seen h may prepared is made =
    unknown_kept history marks later old t seen h may
    (go (state_of marks t) (subst (λ (ms : List Mark). is_kept (state_of ms t) ≡ false) seen (subst (IsPreparedAt history t) is prepared)) may) made
  where
    go : (s : StampState) → is_kept s ≡ false → is_unknown s || is_pending s ≡ true → is_unknown s ≡ true
    go state.Unknown e f = refl
    go state.Pending e f = absurd (cc)
    go state.Committed e f = absurd (cc)
    go state.Discarded e f = absurd (cc)

-- ---- what is trimmed

pub trimmed_kept : (history later : List Mark) (old new : VersionsState) (i : ℕ) → IsStored history old → later ≡ history ++ Trimmed i ∷ [] → Trims old new i → IsStored later new
trimmed_kept history later old new i h made trims =
    subst (λ (ms : List Mark). IsStored ms new) (sym made) (stored_trimmed history old new i h trims)

-- ---- what is read

best_read : (marks : List Mark) (kept : VersionsState) (i n : ℕ) (ns : List ℕ) → IsStored marks kept
    → unless_gone (best_of (λ t. is_some (version_at kept i t)) (n ∷ ns)) (floor_of kept i) ≡ read_at marks i (n ∷ ns)
best_read marks kept i n ns h =
    ap (λ m. unless_gone (best_of (λ t. is_some (version_at kept i t)) (n ∷ ns)) m) (h.floor i)
    ∙ ap (λ m. unless_gone m (floor marks i)) (same (n ∷ ns))
    ∙ sym (read_kept marks i n ns)
  where
    same : (ms : List ℕ) → best_of (λ t. is_some (version_at kept i t)) ms ≡ best_of (has_kept_version marks i) ms
    same [] = refl
    same (m ∷ ms) = rw (h.versions i m, same ms) refl

-- where no stamps are given, and where some are
pub read_none : (marks : List Mark) (i : ℕ) (ns : List ℕ) → is_legal marks ≡ true → (length ns == 0) ≡ true → Some (latest marks i) ≡ read_at marks i ns
read_none marks i [] h e = sym (never_gone marks i h)
read_none marks i (n ∷ ns) h e = absurd (let none : length (n ∷ ns) ≡ 0 = (Decides-eqb (length (n ∷ ns)) 0).0 e in omega arith)

pub read_some : (marks : List Mark) (kept : VersionsState) (i : ℕ) (ns : List ℕ) → IsStored marks kept → (length ns == 0) ≡ false
    → unless_gone (best_of (λ t. is_some (version_at kept i t)) ns) (floor_of kept i) ≡ read_at marks i ns
read_some marks kept i [] h e = absurd (cc)
read_some marks kept i (n ∷ ns) h e = best_read marks kept i n ns h

pub value_read : (marks : List Mark) (kept : VersionsState) (i t : ℕ) → IsStored marks kept → floor marks i ≤ t → version_at kept i t ≡ version marks i t
value_read marks kept i t h high = h.versions i t ∙ kept_high marks i t high
