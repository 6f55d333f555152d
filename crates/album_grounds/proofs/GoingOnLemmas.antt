-- No read goes back, no update is lost, and reads are stable: the laws `reads_go_on`, `kept_writes_lose_no_update` and
-- `reads_are_stable` cite the lemmas that are `pub`.
use Rattle.std.proofs.Common.{◌≡◌, ◌≢◌, ℕ, zero, suc, ◌<◌, ◌≤◌, Bool, true, false, ◌==◌, cond, List, [], ◌∷◌, ◌++◌, map, length, filter, is_some, Contains, Option, Some, None, if◌then◌else◌, refl, ap, sym, ◌∙◌, subst, ⊎_elim, arith}
use Rattle.std.specs.List.{list_any, find, zip}
use Rattle.std.proofs.lemmas.Bool.{eq-eqb}
use Rattle.std.proofs.lemmas.Bool.Decides.{Decides-eqb}
use Rattle.std.proofs.lemmas.List.{append_assoc}
use Rattle.std.proofs.lemmas.List.Elements.{All-contains}
use native.Mathlib.Decide.{ℕ_discrete}
use mathlib.Core.Logic.{dite}
use Rattle.album_items.specs.ItemIds.{place_of}
use Rattle.album_items.specs.Openings.{Row}
use Rattle.album_items.specs.Places.{rows_placed_at}
use Rattle.album_items.specs.Transactions.{items_written}
use Rattle.album_terminate.specs.declared.deciding.StampState.TheVariants as state
use Rattle.album_partition.specs.Bases.{is_chained, IsMadeOn}
use Rattle.album_partition.specs.Marks.{prepares, commits, mark_writes, writes_at, value_in, state_of, is_legal, latest}
use Rattle.album_partition.specs.declared.marks.Mark.{Mark}
use Rattle.album_partition.specs.declared.marks.Mark.TheVariants.{Prepared}
use Rattle.album_partition.proofs.ChainLemmas.{made_on, base_is_latest}
use Rattle.album_partition.proofs.LegalLemmas.{prepared_once}
use Rattle.album_partition.proofs.ListLemmas.{one_before}
use Rattle.album_passes.specs.Cuts.{Cut, prefix_at, prefix_for, IsSound, Extends}
use Rattle.album_passes.specs.Reads.{IsCommitted, written_value, writes_in_cut}
use Rattle.album_passes.proofs.ClosedLemmas.{never_discarded}
use Rattle.album_passes.proofs.CutLemmas.{extends_trans, prefix_for_more}
use Rattle.album_passes.proofs.PrefixLemmas.{any_more}
use Rattle.album_passes.proofs.ReadLemmas.{same_written}
use Rattle.album_listing.specs.ViewLookups.{stamp_seen}
use Rattle.album_permits.specs.Effects.{effect_of}
use Rattle.album_permits.specs.Permits.{PermitState}
use Rattle.album_reader.specs.Answers.{ReadVersion}
use Rattle.album_reader.specs.Atomic.{IsWrittenBy}
use Rattle.album_items.specs.declared.values.Value.{Value}
use Rattle.album_grounds.specs.Grounds.{IsSeen, AreNoOlder, AreAlike, HasSameMarks, AreFrom, items_of, rows_at, bases_for, IsKept}
use Rattle.album_grounds.proofs.RoundLemmas.{value_placed}
use Rattle.album_writer.proofs.Placing.{participant}

-- ---- what is fresh

-- what was written, of what isn't the opening's
written_there : (b c : Cut) (xs : List ReadVersion) (x : ReadVersion) → IsSeen b c xs → Contains xs x → x.stamp ≢ 0
    → IsCommitted c x.stamp × (written_value c x.item x.stamp ≡ Some x.value)
written_there b c xs x h n nz = ⊎_elim
    (λ z. absurd (nz z.0))
    (λ (w : IsWrittenBy (writes_in_cut c) x). (
      subst (IsCommitted c) w.at w.committed,
      subst (λ (t : ℕ). written_value c x.item t ≡ Some x.value) w.at w.wrote,
    ))
    (h.atomic.written x n)

-- a stamp that was committed to the item as the read began, and that wrote it, isn't above what is read
fresh_at : (b d : Cut) (ys : List ReadVersion) (y : ReadVersion) (t : ℕ) → IsSeen b d ys → Contains ys y → list_any (commits t) (prefix_for b y.item) ≡ true
    → is_some (written_value d y.item t) ≡ true → t ≤ y.stamp
fresh_at b d ys y t h n done wrote =
    h.fresh y n t wrote (any_more (commits t) (prefix_for b y.item) (prefix_for h.at y.item) (prefix_for_more b h.at h.since y.item) done)

pub no_older : (b c l d : Cut) (xs ys : List ReadVersion) → IsSound c → IsSound d → Extends c l → Extends l d → IsSeen b c xs → IsSeen l d ys
    → AreNoOlder xs ys
no_older b c l d xs ys s r x y h k = λ one other n m same. dite (ℕ_discrete one.stamp 0)
    (λ (z : one.stamp ≡ 0). omega (arith, z))
    (λ (nz : one.stamp ≢ 0).
    let settled = All-contains (λ (row : ReadVersion). row.stamp ≢ 0 → list_any (commits row.stamp) (prefix_for c row.item) ≡ true) xs one h.settled n nz in
    let there = any_more (commits one.stamp) (prefix_for c one.item) (prefix_for l one.item) (prefix_for_more c l x one.item) settled in
    let was = written_there b c xs one h n nz in
    let wrote : is_some (written_value d one.item one.stamp) ≡ true =
    ap is_some (same_written c d s r (extends_trans c l d x y) one.stamp was.0 one.item ∙ was.1) in
    fresh_at l d ys other one.stamp k m
    (subst (λ (i : ℕ). list_any (commits one.stamp) (prefix_for l i) ≡ true) (sym same) there)
    (subst (λ (i : ℕ). is_some (written_value d i one.stamp) ≡ true) (sym same) wrote))

-- ---- what is kept

some_left : (test : Mark → Bool) (ms : List Mark) (x : Mark) → Contains ms x → test x ≡ true → 0 < length (filter test ms)
some_left test [] x n e = absurd (omega (arith, n.1))
some_left test (m ∷ ms) x (zero, l, same) e = go (test m) (ap test same ∙ e)
  where
    go : (b : Bool) → b ≡ true → 0 < length (cond b (m ∷ filter test ms) (filter test ms))
    go true f = omega arith
    go false f = absurd (cc)
some_left test (m ∷ ms) x (suc k, l, same) e = go (test m) (some_left test ms x (k, omega (arith, l), same) e)
  where
    go : (b : Bool) → 0 < length (filter test ms) → 0 < length (cond b (m ∷ filter test ms) (filter test ms))
    go true f = omega arith
    go false f = f

-- what is the only one to pass is found
find_only : (test : Mark → Bool) (ms : List Mark) (x : Mark) → Contains ms x → test x ≡ true → length (filter test ms) ≤ 1 → find test ms ≡ Some x
find_only test [] x n e one = absurd (omega (arith, n.1))
find_only test (m ∷ ms) x (zero, l, same) e one = go (test m) (ap test same ∙ e)
  where
    go : (b : Bool) → b ≡ true → cond b (Some m) (find test ms) ≡ Some x
    go true f = ap Some same
    go false f = absurd (cc)
find_only test (m ∷ ms) x (suc k, l, same) e one = go (test m) one (λ few. find_only test ms x (k, omega (arith, l), same) e few)
  where
    there : Contains ms x
    there = (k, omega (arith, l), same)

    go : (b : Bool) → length (cond b (m ∷ filter test ms) (filter test ms)) ≤ 1 → (length (filter test ms) ≤ 1 → find test ms ≡ Some x)
        → cond b (Some m) (find test ms) ≡ Some x
    go true f later = absurd (omega (arith, f, some_left test ms x there e))
    go false f later = later f

value_written : (rows : List Row) (i : ℕ) → Contains (items_written rows) i → is_some (value_in rows i) ≡ true
value_written [] i n = absurd (omega (arith, n.1))
value_written (row ∷ rows) i (zero, l, same) = go (row.0 == i) (eq-eqb row.0 i same)
  where
    go : (b : Bool) → b ≡ true → is_some (cond b (Some row.1) (value_in rows i)) ≡ true
    go true f = refl
    go false f = absurd (cc)
value_written (row ∷ rows) i (suc k, l, same) = go (row.0 == i) (value_written rows i (k, omega (arith, l), same))
  where
    go : (b : Bool) → is_some (value_in rows i) ≡ true → is_some (cond b (Some row.1) (value_in rows i)) ≡ true
    go true f = refl
    go false f = f

pub kept_written : (c : Cut) (permit : PermitState) (t i : ℕ) → IsSound c → 1 ≤ c.parts → IsKept c permit t → Contains (items_of permit t) i
    → (list_any (commits t) (prefix_for c i) ≡ true) × (is_some (written_value c i t) ≡ true)
kept_written c permit t i s low kept n =
    let place = place_of c.parts i in
    let at = kept place ((participant c.parts place (items_of permit t) low).1 (i, n, refl)) in
    let none = never_discarded c place place t s at.committed in
    let own = find_only (prepares t) (prefix_at c place) (Prepared t (rows_placed_at place c.parts (effect_of permit t)) (items_of permit t)) at.prepared
    (eq-eqb t t refl) (prepared_once (prefix_at c place) t (s.legal place)) in (
      at.committed,
      ap (λ (b : Bool). is_some (if b then None else value_in (writes_at (prefix_at c place) t) i)) none
          ∙ (ap (λ (o : Option Mark). is_some (value_in (mark_writes o) i)) own
          ∙ (ap is_some (value_placed (effect_of permit t) place c.parts i refl) ∙ value_written (effect_of permit t) i n)),
    )

pub own_writes : (c l d : Cut) (permit : PermitState) (t : ℕ) (ys : List ReadVersion) → IsSound c → IsSound d → 1 ≤ c.parts → Extends c l → Extends l d
    → IsKept c permit t → IsSeen l d ys → AreFrom t (items_of permit t) ys
own_writes c l d permit t ys s r low x y kept k = λ row n of.
    let w = kept_written c permit t row.item s low kept of in
    let there = any_more (commits t) (prefix_for c row.item) (prefix_for l row.item) (prefix_for_more c l x row.item) w.0 in
    let wrote = ap is_some (same_written c d s r (extends_trans c l d x y) t (place_of c.parts row.item, w.0) row.item) ∙ w.1 in
    fresh_at l d ys row t k n there wrote

-- ---- no update is lost

pub is_committed : (ms : List Mark) (t : ℕ) → list_any (commits t) ms ≡ true → state_of ms t ≡ state.Committed
is_committed ms t e = rw e refl

-- a row of an item, with what is made of it
zipped : (f : Row → ℕ) (rows : List Row) (i : ℕ) → is_some (value_in rows i) ≡ true
    → (row : Row) × Contains (zip rows (map f rows)) (row, f row) × (row.0 ≡ i)
zipped f [] i e = absurd (cc)
zipped f (r ∷ rows) i e = go (r.0 == i) refl e (zipped f rows i)
  where
    go : (b : Bool) → (r.0 == i) ≡ b → is_some (cond b (Some r.1) (value_in rows i)) ≡ true
        → (is_some (value_in rows i) ≡ true → (row : Row) × Contains (zip rows (map f rows)) (row, f row) × (row.0 ≡ i))
        → (row : Row) × Contains (zip (r ∷ rows) (map f (r ∷ rows))) (row, f row) × (row.0 ≡ i)
    go true g h rest = (r, (0, omega arith, refl), (Decides-eqb r.0 i).0 g)
    go false g h rest = let x = rest h in (x.0, one_before (r, f r) (x.0, f x.0) (zip rows (map f rows)) x.1, x.2)

pub kept_made_on : (c : Cut) (permit : PermitState) (t i : ℕ) → IsSound c → c.checked ≡ true → 1 ≤ c.parts → IsKept c permit t → Contains (items_of permit t) i
    → IsMadeOn (prefix_for c i) i t (stamp_seen permit.view.rows i)
kept_made_on c permit t i s on low kept n =
    let place = place_of c.parts i in
    let at = kept place ((participant c.parts place (items_of permit t) low).1 (i, n, refl)) in
    let based = at.based on in
    let rows = rows_at c permit t place in
    let mark : Mark = Prepared t rows (items_of permit t) in
    let is : based.before ++ mark ∷ based.had.0 ≡ prefix_at c place = sym (append_assoc based.before (mark ∷ []) based.had.0) ∙ based.had.1 in
    let there : is_some (value_in rows i) ≡ true = ap is_some (value_placed (effect_of permit t) place c.parts i refl) ∙ value_written (effect_of permit t) i n in
    let made = made_on based.before based.had.0 t rows (items_of permit t) i
    (ap is_legal is ∙ s.legal place) (ap is_chained is ∙ s.chained place on)
    (ap (λ (ms : List Mark). state_of ms t) is ∙ is_committed (prefix_at c place) t at.committed) there in
    let z = zipped (λ (row : Row). stamp_seen permit.view.rows row.0) rows i there in
    let base : latest based.before i ≡ stamp_seen permit.view.rows i =
    subst (λ (j : ℕ). latest based.before j ≡ stamp_seen permit.view.rows j) z.2
    (sym (base_is_latest based.before t rows (bases_for permit rows) (z.0, stamp_seen permit.view.rows z.0.0) based.based z.1)) in
    subst (λ (x : List Mark × ℕ). IsMadeOn x.0 i t x.1) (λ k. (is k, base k)) made

-- ---- where no mark is made

-- the earlier read isn't older either
no_newer : (b c l d : Cut) (xs ys : List ReadVersion) → IsSound c → IsSound d → Extends b c → Extends c l → Extends l d → HasSameMarks b d
    → IsSeen b c xs → IsSeen l d ys → (one other : ReadVersion) → Contains xs one → Contains ys other → other.item ≡ one.item → other.stamp ≢ 0
    → other.stamp ≤ one.stamp
no_newer b c l d xs ys s r w x y marks h k one other n m same nz =
    let on = extends_trans c l d x y in
    let whole = extends_trans b c d w on in
    let i = other.item in
    let t = other.stamp in
    let own : prefix_for d i ≡ prefix_for b i = marks (place_of d.parts i) ∙ ap (λ (p : ℕ). prefix_at b (place_of p i)) whole.parts in
    let settled = All-contains (λ (row : ReadVersion). row.stamp ≢ 0 → list_any (commits row.stamp) (prefix_for d row.item) ≡ true) ys other k.settled m nz in
    let done : list_any (commits t) (prefix_for b i) ≡ true = subst (λ (ms : List Mark). list_any (commits t) ms ≡ true) own settled in
    let there : IsCommitted c t = (place_of b.parts i, any_more (commits t) (prefix_for b i) (prefix_at c (place_of b.parts i)) (w.prefixes (place_of b.parts i)) done) in
    let wrote : is_some (written_value c i t) ≡ true =
    ap is_some (sym (same_written c d s r on t there i) ∙ (written_there l d ys other k m nz).1) in
    fresh_at b c xs one t h n
    (subst (λ (j : ℕ). list_any (commits t) (prefix_for b j) ≡ true) same done)
    (subst (λ (j : ℕ). is_some (written_value c j t) ≡ true) same wrote)

same_value : (u v : Value) → Some u ≡ Some v → u ≡ v
same_value u v e = cc (e)

pub stable : (b c l d : Cut) (xs ys : List ReadVersion) → IsSound c → IsSound d → Extends b c → Extends c l → Extends l d → HasSameMarks b d
    → IsSeen b c xs → IsSeen l d ys → AreAlike xs ys
stable b c l d xs ys s r w x y marks h k = λ one other n m same.
    let low : one.stamp ≤ other.stamp = no_older b c l d xs ys s r x y h k one other n m same in
    let stamps : other.stamp ≡ one.stamp = dite (ℕ_discrete other.stamp 0)
    (λ (z : other.stamp ≡ 0). omega (arith, z, low))
    (λ (nz : other.stamp ≢ 0). omega (arith, low, no_newer b c l d xs ys s r w x y marks h k one other n m same nz)) in (
      stamps,
      λ nz.
          let mine = written_there b c xs one h n nz in
          let theirs = written_there l d ys other k m (λ z. nz (sym stamps ∙ z)) in
          same_value other.value one.value
          (sym theirs.1
          ∙ (ap (λ (j : ℕ). written_value d j other.stamp) same
          ∙ (ap (λ (t : ℕ). written_value d one.item t) stamps
          ∙ (same_written c d s r (extends_trans c l d x y) one.stamp mine.0 one.item ∙ mine.1)))),
    )
