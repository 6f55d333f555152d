-- What is found mark by mark: the steps of the loops of `folds`.
use Rattle.std.proofs.Common.{◌≡◌, ℕ, ◌<◌, ◌+◌, Bool, true, false, ◌==◌, ◌||◌, nat_lt, cond, List, [], ◌∷◌, ◌++◌, length, get_or, take, Some, None, Option, if◌then◌else◌, refl, ap, sym, ◌∙◌, subst, arith, lt-ltb, le-ltb, option_map}
use Rattle.std.specs.BTreeMap.{is_at}
use Rattle.std.specs.BTreeSet as set
use Rattle.std.specs.BTreeSet.{BTreeSet}
use Rattle.std.specs.List.{list_any}
use Rattle.std.specs.Option.{option_or}
use Rattle.std.specs.Ordering.{nat_cmp}
use Rattle.std.proofs.lemmas.Bool.Decides.{Decides-eqb}
use Rattle.std.proofs.lemmas.List.Folds.{list_any_more}
use Rattle.std.proofs.lemmas.List.{take_more}
use Rattle.album_items.specs.ItemIds.{place_of}
use Rattle.album_items.specs.Openings.{Row}
use Rattle.album_items.specs.declared.values.Value.{Value}
use Rattle.album_partition.specs.declared.marks.Mark.{Mark}
use Rattle.album_partition.specs.declared.marks.Mark.TheVariants.{Prepared, Committed, Discarded, Trimmed}
use Rattle.album_partition.specs.Marks.{prepares, prepare_in, value_in}
use Rattle.album_partition.proofs.HistoryLemmas.{key_tells}
use Rattle.album_epochs.specs.Folding.{Kept, stamp_kept, first_kept, raised, raised_by, newest, newest_of, ArePrepared}

-- ---- one item is raised

pub raise_step : (old new : ℕ → Option Kept) (i t : ℕ) (v : Value) → stamp_kept (old i) < t
    → ((q : ℕ) → new q ≡ cond (is_at (nat_cmp i) q) (Some (t, v)) (old q))
    → (q : ℕ) → new q ≡ (if i == q then raised (old q) t (Some v) else old q)
raise_step old new i t v low up q = up q ∙ (ap (λ (b : Bool). cond b (Some (t, v)) (old q)) (key_tells i q) ∙ go (i == q) refl)
  where
    go : (b : Bool) → (i == q) ≡ b → cond b (Some (t, v)) (old q) ≡ (if b then raised (old q) t (Some v) else old q)
    go true e =
        let low_q : stamp_kept (old q) < t = subst (λ (j : ℕ). stamp_kept (old j) < t) ((Decides-eqb i q).0 e) low in
        sym (ap (λ (b : Bool). if b then Some (t, v) else old q) (lt-ltb (stamp_kept (old q)) t low_q))
    go false e = refl

-- ---- the stamps that are prepared

own_stamp : (m : Mark) (s t : ℕ) → prepare_in m ≡ Some s → prepares t m ≡ (s == t)
own_stamp (Prepared u ws is) s t e = ap (λ (x : ℕ). x == t) (cc (e))
own_stamp (Committed u) s t e = absurd (cc (e))
own_stamp (Discarded u) s t e = absurd (cc (e))
own_stamp (Trimmed i) s t e = absurd (cc (e))

no_stamp : (m : Mark) (t : ℕ) → prepare_in m ≡ None → prepares t m ≡ false
no_stamp (Prepared u ws is) t e = absurd (cc (e))
no_stamp (Committed u) t e = refl
no_stamp (Discarded u) t e = refl
no_stamp (Trimmed i) t e = refl

pub stamp_more : (ms : List Mark) (k s : ℕ) (m : Mark) (old new : BTreeSet ℕ) → k < length ms → m ≡ get_or ms k m
    → prepare_in m ≡ Some s
    → ((q : ℕ) → set.contains nat_cmp new q ≡ cond (is_at (nat_cmp s) q) true (set.contains nat_cmp old q))
    → ArePrepared (take k ms) old → ArePrepared (take (k + 1) ms) new
stamp_more ms k s m old new l at is up h t =
    up t ∙ (ap (λ (b : Bool). cond b true (set.contains nat_cmp old t)) (key_tells s t)
    ∙ (go (s == t) ∙ (ap (λ (b : Bool). set.contains nat_cmp old t || b) (sym (own_stamp m s t is))
    ∙ (ap (λ (b : Bool). b || prepares t m) (h t)
    ∙ (ap (λ (x : Mark). list_any (prepares t) (take k ms) || prepares t x) at ∙ sym (list_any_more (prepares t) ms k m l))))))
  where
    go : (b : Bool) → cond b true (set.contains nat_cmp old t) ≡ set.contains nat_cmp old t || b
    go true = or_true (set.contains nat_cmp old t)
      where
        or_true : (a : Bool) → true ≡ a || true
        or_true true = refl
        or_true false = refl
    go false = or_false (set.contains nat_cmp old t)
      where
        or_false : (a : Bool) → a ≡ a || false
        or_false true = refl
        or_false false = refl

pub stamp_same : (ms : List Mark) (k : ℕ) (m : Mark) (old : BTreeSet ℕ) → k < length ms → m ≡ get_or ms k m
    → prepare_in m ≡ None → ArePrepared (take k ms) old → ArePrepared (take (k + 1) ms) old
stamp_same ms k m old l at is h t =
    h t ∙ (or_false (list_any (prepares t) (take k ms)) ∙ (ap (λ (b : Bool). list_any (prepares t) (take k ms) || b) (sym (no_stamp m t is))
    ∙ (ap (λ (x : Mark). list_any (prepares t) (take k ms) || prepares t x) at ∙ sym (list_any_more (prepares t) ms k m l))))
  where
    or_false : (a : Bool) → a ≡ a || false
    or_false true = refl
    or_false false = refl

-- ---- the first values

pub value_in-push : (ws : List Row) (w : Row) (q : ℕ) → value_in (ws ++ w ∷ []) q ≡ (if w.0 == q then option_or (value_in ws q) (Some w.1) else value_in ws q)
value_in-push [] w q = refl
value_in-push (x ∷ ws) w q = go (x.0 == q) (w.0 == q) (value_in-push ws w q)
  where
    go : (a b : Bool) → value_in (ws ++ w ∷ []) q ≡ (if b then option_or (value_in ws q) (Some w.1) else value_in ws q)
        → cond a (Some x.1) (value_in (ws ++ w ∷ []) q) ≡ (if b then option_or (cond a (Some x.1) (value_in ws q)) (Some w.1) else cond a (Some x.1) (value_in ws q))
    go true true h = refl
    go true false h = refl
    go false true h = h
    go false false h = h

value_in-more : (ws : List Row) (k : ℕ) (w : Row) (q : ℕ) → k < length ws → w ≡ get_or ws k w
    → value_in (take (k + 1) ws) q ≡ (if w.0 == q then option_or (value_in (take k ws) q) (Some w.1) else value_in (take k ws) q)
value_in-more ws k w q l at =
    ap (λ (rows : List Row). value_in rows q) (take_more ws k w l ∙ ap (λ (x : Row). take k ws ++ x ∷ []) (sym at)) ∙ value_in-push (take k ws) w q

abbrev at_first : Value → Kept
at_first v = (0, v)

pub first_more : (old new : ℕ → Option Kept) (ws : List Row) (k : ℕ) (w : Row) → k < length ws → w ≡ get_or ws k w
    → ((q : ℕ) → old q ≡ first_kept (take k ws) q)
    → ((q : ℕ) → new q ≡ (if w.0 == q then option_or (old q) (Some (0, w.1)) else old q))
    → (q : ℕ) → new q ≡ first_kept (take (k + 1) ws) q
first_more old new ws k w l at h up q =
    up q ∙ (ap (λ (o : Option Kept). if w.0 == q then option_or o (Some (at_first w.1)) else o) (h q)
    ∙ (go (w.0 == q) (value_in (take k ws) q) ∙ ap (λ (o : Option Value). option_map at_first o) (sym (value_in-more ws k w q l at))))
  where
    go : (b : Bool) (o : Option Value) → (if b then option_or (option_map at_first o) (Some (at_first w.1)) else option_map at_first o)
        ≡ option_map at_first (if b then option_or o (Some w.1) else o)
    go true None = refl
    go true (Some v) = refl
    go false o = refl

-- ---- the writes of a mark

-- each item that is placed at the partition is raised by what these rows give it
abbrev pub EachRaised : ℕ → ℕ → ℕ → (ℕ → Option Kept) → List Row → (ℕ → Option Kept) → Type 0
EachRaised parts part t first ws found =
    (q : ℕ) → found q ≡ (if place_of parts q == part then raised (first q) t (value_in ws q) else first q)

raised_twice : (k : Option Kept) (t : ℕ) (o : Option Value) (v : Value) → raised (raised k t o) t (Some v) ≡ raised k t (option_or o (Some v))
raised_twice k t None v = refl
raised_twice k t (Some u) v = go (nat_lt (stamp_kept k) t) refl
  where
    go : (b : Bool) → nat_lt (stamp_kept k) t ≡ b
        → raised (if b then Some (t, u) else k) t (Some v) ≡ (if b then Some (t, u) else k)
    go true e = ap (λ (b : Bool). if b then Some (t, v) else Some (t, u)) (le-ltb t t (omega arith))
    go false e = ap (λ (b : Bool). if b then Some (t, v) else k) e

pub each_more : (parts part t : ℕ) (first old new : ℕ → Option Kept) (ws : List Row) (k : ℕ) (w : Row) → k < length ws → w ≡ get_or ws k w
    → place_of parts w.0 ≡ part
    → EachRaised parts part t first (take k ws) old
    → ((q : ℕ) → new q ≡ (if w.0 == q then raised (old q) t (Some w.1) else old q))
    → EachRaised parts part t first (take (k + 1) ws) new
each_more parts part t first old new ws k w l at here h up q =
    up q ∙ (ap (λ (o : Option Kept). if w.0 == q then raised o t (Some w.1) else o) (h q)
    ∙ (go (w.0 == q) refl ∙ ap (λ (o : Option Value). if place_of parts q == part then raised (first q) t o else first q) (sym (value_in-more ws k w q l at))))
  where
    go : (b : Bool) → (w.0 == q) ≡ b
        → (if b then raised (if place_of parts q == part then raised (first q) t (value_in (take k ws) q) else first q) t (Some w.1)
        else (if place_of parts q == part then raised (first q) t (value_in (take k ws) q) else first q))
        ≡ (if place_of parts q == part then raised (first q) t (if b then option_or (value_in (take k ws) q) (Some w.1) else value_in (take k ws) q) else first q)
    go true e =
        let is : (place_of parts q == part) ≡ true = (Decides-eqb (place_of parts q) part).1 (ap (place_of parts) (sym ((Decides-eqb w.0 q).0 e)) ∙ here) in
        rw is (raised_twice (first q) t (value_in (take k ws) q) w.1)
    go false e = refl

pub each_other : (parts part t : ℕ) (first old : ℕ → Option Kept) (ws : List Row) (k : ℕ) (w : Row) → k < length ws → w ≡ get_or ws k w
    → (place_of parts w.0 == part) ≡ false
    → EachRaised parts part t first (take k ws) old → EachRaised parts part t first (take (k + 1) ws) old
each_other parts part t first old ws k w l at away h q =
    h q ∙ (go (w.0 == q) refl ∙ ap (λ (o : Option Value). if place_of parts q == part then raised (first q) t o else first q) (sym (value_in-more ws k w q l at)))
  where
    go : (b : Bool) → (w.0 == q) ≡ b
        → (if place_of parts q == part then raised (first q) t (value_in (take k ws) q) else first q)
        ≡ (if place_of parts q == part then raised (first q) t (if b then option_or (value_in (take k ws) q) (Some w.1) else value_in (take k ws) q) else first q)
    go true e =
        let is : (place_of parts q == part) ≡ false = ap (λ (j : ℕ). place_of parts j == part) (sym ((Decides-eqb w.0 q).0 e)) ∙ away in
        rw is refl
    go false e = refl

-- ---- the marks of a partition

newest-push : (hs : List (List Mark)) (i : ℕ) (k : Option Kept) (ms : List Mark) (m : Mark) → newest hs i k (ms ++ m ∷ []) ≡ raised_by hs i (newest hs i k ms) m
newest-push hs i k [] m = refl
newest-push hs i k (x ∷ ms) m = newest-push hs i (raised_by hs i k x) ms m

abbrev pub AllNewest : List (List Mark) → ℕ → (ℕ → Option Kept) → List Mark → (ℕ → Option Kept) → Type 0
AllNewest hs part first ms found =
    (q : ℕ) → found q ≡ (if place_of (length hs) q == part then newest hs q (first q) ms else first q)

pub newest_more : (hs : List (List Mark)) (part : ℕ) (first old new : ℕ → Option Kept) (ms : List Mark) (k : ℕ) (m : Mark) → k < length ms → m ≡ get_or ms k m
    → AllNewest hs part first (take k ms) old
    → ((q : ℕ) → new q ≡ (if place_of (length hs) q == part then raised_by hs q (old q) m else old q))
    → AllNewest hs part first (take (k + 1) ms) new
newest_more hs part first old new ms k m l at h up q =
    up q ∙ (ap (λ (o : Option Kept). if place_of (length hs) q == part then raised_by hs q o m else o) (h q) ∙ go (place_of (length hs) q == part))
  where
    same : take (k + 1) ms ≡ take k ms ++ m ∷ []
    same = take_more ms k m l ∙ ap (λ (x : Mark). take k ms ++ x ∷ []) (sym at)

    go : (b : Bool) → (if b then raised_by hs q (if b then newest hs q (first q) (take k ms) else first q) m else (if b then newest hs q (first q) (take k ms) else first q))
        ≡ (if b then newest hs q (first q) (take (k + 1) ms) else first q)
    go true = sym (newest-push hs q (first q) (take k ms) m) ∙ ap (newest hs q (first q)) (sym same)
    go false = refl

-- ---- all partitions

-- those before this one are taken in
abbrev pub BeforeTaken : List (List Mark) → (ℕ → Option Kept) → ℕ → (ℕ → Option Kept) → Type 0
BeforeTaken hs first part found =
    (q : ℕ) → found q ≡ (if nat_lt (place_of (length hs) q) part then newest_of hs first q else first q)
