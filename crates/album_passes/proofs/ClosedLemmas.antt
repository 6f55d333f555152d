-- What a closed cut has of each stamp, and the least cut that extends two. The laws of closed cuts cite the
-- lemmas that are `pub`.
use Rattle.std.proofs.Common.{rules, ◌≡◌, ℕ, zero, suc, ◌<◌, ◌+◌, Bool, true, false, not, ◌&&◌, ◌||◌, cond, List, [], ◌∷◌, length, get_or, All, Contains, IsSome, Some, None, Option, option_map, refl, ap, sym, ◌∙◌, subst, ⊎_elim, arith, ne_eqb}
use Rattle.std.specs.List.{list_any, find, range_with_len}
use Rattle.std.proofs.lemmas.Bool.Decides.{Decides-eqb}
use Rattle.std.proofs.lemmas.List.Elements.{All-contains, All-contains_itself}
use Rattle.std.proofs.lemmas.List.Folds.{Any-from_list_any, list_any-from_Any}
use Rattle.std.proofs.Math.Nat.{mod-lt}
use native.Mathlib.Decide.{ℕ_discrete}
use mathlib.Core.Logic.{dite}
use Rattle.album_items.specs.ItemIds.{kind_of, number_of, place_of}
use Rattle.album_items.specs.Openings.{Row}
use Rattle.album_items.specs.Transactions.{items_written}
use Rattle.album_partition.specs.declared.marks.Mark.{Mark}
use Rattle.album_partition.specs.declared.marks.Mark.TheVariants.{Prepared, Committed, Discarded, Trimmed}
use Rattle.album_partition.specs.Marks.{is_mark_of, prepares, commits, discards, mark_items, items_at}
use Rattle.album_items.specs.Places.{is_placed, lies_at, is_other, others_of}
use Rattle.album_partition.proofs.GrowthLemmas.{promised_unprepared}
use Rattle.album_partition.proofs.ListLemmas.{kept_out}
use Rattle.album_passes.specs.Cuts.{Cut, Announced, prefix_at, prefix_for, announced_for, items_announced, dependencies_of, IsPreparedFor, IsNamed, IsPreparedThroughout, IsPromisedSomewhere, IsBacked, IsClosedCut, IsSound, IsPrefix, Extends}
use Rattle.album_passes.specs.Changes.{merged, marked_cut}
use Rattle.album_passes.proofs.PrefixLemmas.{longer_cases}
use Rattle.album_passes.proofs.AnnouncedLemmas.{listed_each}
use Rattle.album_passes.proofs.CutLemmas.{longer_at, mark_here}

-- ---- the mark that a test finds

pub found : (test : Mark → Bool) (ms : List Mark) → list_any test ms ≡ true → (m : Mark) × (find test ms ≡ Some m)
found test [] e = absurd (cc (e))
found test (m ∷ ms) e = go (test m) e (found test ms)
  where
    go : (b : Bool) → b || list_any test ms ≡ true → (list_any test ms ≡ true → (x : Mark) × (find test ms ≡ Some x)) → (x : Mark) × (cond b (Some m) (find test ms) ≡ Some x)
    go true f h = (m, refl)
    go false f h = h f

pub found_in : (test : Mark → Bool) (ms : List Mark) (x : Mark) → find test ms ≡ Some x → Contains ms x × (test x ≡ true)
found_in test [] x e = absurd (cc (e))
found_in test (m ∷ ms) x e = go (test m) refl e (found_in test ms x)
  where
    go : (b : Bool) → test m ≡ b → cond b (Some m) (find test ms) ≡ Some x → (find test ms ≡ Some x → Contains ms x × (test x ≡ true)) → Contains (m ∷ ms) x × (test x ≡ true)
    go true f g h = let same : m ≡ x = cc (g) in ((0, omega arith, same), subst (λ (y : Mark). test y ≡ true) same f)
    go false f g h = let r = h g in ((suc r.0.0, omega (arith, r.0.1), r.0.2), r.1)

pub any_found : (test : Mark → Bool) (ms : List Mark) (x : Mark) → find test ms ≡ Some x → list_any test ms ≡ true
any_found test [] x e = absurd (cc (e))
any_found test (m ∷ ms) x e = go (test m) e (any_found test ms x)
  where
    go : (b : Bool) → cond b (Some m) (find test ms) ≡ Some x → (find test ms ≡ Some x → list_any test ms ≡ true) → b || list_any test ms ≡ true
    go true g h = refl
    go false g h = h g

marked : (test : Mark → Bool) (ms : List Mark) → list_any test ms ≡ true → (m : Mark) × Contains ms m × (test m ≡ true)
marked test ms e = let x = Any-from_list_any test ms e in (x.1, (x.0, x.2, x.3), x.4)

pub prepares_is : (t : ℕ) (m : Mark) → prepares t m ≡ true → (ws : List Row) × (is : List ℕ) × (m ≡ Prepared t ws is)
prepares_is t (Prepared u ws is) e = (ws, is, ap (λ (x : ℕ). Prepared x ws is) ((Decides-eqb u t).0 e))
prepares_is t (Committed u) e = absurd (cc (e))
prepares_is t (Discarded u) e = absurd (cc (e))
prepares_is t (Trimmed i) e = absurd (cc (e))

commits_is : (t : ℕ) (m : Mark) → commits t m ≡ true → m ≡ Committed t
commits_is t (Prepared u ws is) e = absurd (cc (e))
commits_is t (Committed u) e = ap Committed ((Decides-eqb u t).0 e)
commits_is t (Discarded u) e = absurd (cc (e))
commits_is t (Trimmed i) e = absurd (cc (e))

discards_is : (t : ℕ) (m : Mark) → discards t m ≡ true → m ≡ Discarded t
discards_is t (Prepared u ws is) e = absurd (cc (e))
discards_is t (Committed u) e = absurd (cc (e))
discards_is t (Discarded u) e = ap Discarded ((Decides-eqb u t).0 e)
discards_is t (Trimmed i) e = absurd (cc (e))

-- ---- what a closed cut has

pub backed_there : (c : Cut) (p : ℕ) (m : Mark) → IsClosedCut c → Contains (prefix_at c p) m → IsBacked c m
backed_there c p m closed n = All-contains (IsBacked c) (prefix_at c p) m (closed p) n

pub committed_tells : (c : Cut) (p t : ℕ) → IsClosedCut c → list_any (commits t) (prefix_at c p) ≡ true → IsPreparedThroughout c t
committed_tells c p t closed e =
    let x = marked (commits t) (prefix_at c p) e in
    subst (IsBacked c) (commits_is t x.0 x.2) (backed_there c p x.0 closed x.1)

pub discarded_tells : (c : Cut) (p t : ℕ) → IsClosedCut c → list_any (discards t) (prefix_at c p) ≡ true → IsPromisedSomewhere c t
discarded_tells c p t closed e =
    let x = marked (discards t) (prefix_at c p) e in
    subst (IsBacked c) (discards_is t x.0 x.2) (backed_there c p x.0 closed x.1)

-- where the items are announced, the writes are
pub announced_some : (c : Cut) (t : ℕ) (is : List ℕ) → items_announced c t ≡ Some is
    → (a : Announced) × (announced_for c t ≡ Some a) × (items_written a.writes ≡ is)
announced_some c t is e = go (announced_for c t) refl e
  where
    go : (o : Option Announced) → announced_for c t ≡ o → option_map (λ (a : Announced). items_written a.writes) o ≡ Some is
        → (a : Announced) × (announced_for c t ≡ Some a) × (items_written a.writes ≡ is)
    go (Some a) f g = (a, f, cc (g))
    go None f g = absurd (cc (g))

pub items_of_named : (c : Cut) (t : ℕ) (ws : List Row) (is : List ℕ) → IsNamed c t ws is → items_announced c t ≡ Some is
items_of_named c t ws is n =
    ap (option_map (λ (a : Announced). items_written a.writes)) n.announced ∙ ap (λ (js : List ℕ). Some js) (sym n.items_are)

-- the items of a mark's stamp
listed_for : (c : Cut) (t : ℕ) (m : Mark) → is_mark_of t m ≡ true → IsBacked c m → (is : List ℕ) × (items_announced c t ≡ Some is)
listed_for c t (Prepared u ws is) e b = (is, subst (λ (x : ℕ). items_announced c x ≡ Some is) ((Decides-eqb u t).0 e) (items_of_named c u ws is b.named))
listed_for c t (Committed u) e b = (b.items, subst (λ (x : ℕ). items_announced c x ≡ Some b.items) ((Decides-eqb u t).0 e) b.announced)
listed_for c t (Discarded u) e b = (b.items, subst (λ (x : ℕ). items_announced c x ≡ Some b.items) ((Decides-eqb u t).0 e) b.announced)
listed_for c t (Trimmed i) e b = absurd (cc (e))

pub announced_tells : (c : Cut) (p t : ℕ) → IsClosedCut c → list_any (is_mark_of t) (prefix_at c p) ≡ true → IsSome (announced_for c t)
announced_tells c p t closed e =
    let x = marked (is_mark_of t) (prefix_at c p) e in
    let l = listed_for c t x.0 x.2 (backed_there c p x.0 closed x.1) in
    let a = announced_some c t l.0 l.1 in
    subst (λ (o : Option Announced). IsSome o) (sym a.1) (search rules)

pub same_list : (c : Cut) (t : ℕ) (is js : List ℕ) → items_announced c t ≡ Some is → items_announced c t ≡ Some js → is ≡ js
same_list c t is js e f = cc (e, f)

pub never_discarded : (c : Cut) (p q t : ℕ) → IsSound c → list_any (commits t) (prefix_at c p) ≡ true → list_any (discards t) (prefix_at c q) ≡ false
never_discarded c p q t s done = go (list_any (discards t) (prefix_at c q)) refl
  where
    go : (b : Bool) → list_any (discards t) (prefix_at c q) ≡ b → b ≡ false
    go false e = refl
    go true e =
        let w = committed_tells c p t s.closed done in
        let r = discarded_tells c q t s.closed e in
        let on : Contains w.items r.item = subst (λ (is : List ℕ). Contains is r.item) (same_list c t r.items w.items r.announced w.announced) r.listed in
        let had : IsPreparedFor c t r.item = All-contains (IsPreparedFor c t) w.items r.item w.prepared on in
        let none = promised_unprepared (prefix_for c r.item) t (s.legal (place_of c.parts r.item)) r.promised in
        absurd (cc (had, none))

-- ---- what backs a mark

-- a Discarded of a stamp that is unknown backs itself, where the stamp's list has an item that is placed here
pub discarded_backs : (c : Cut) (p t : ℕ) (is : List ℕ) (i : ℕ) → p < length c.prefixes → items_announced c t ≡ Some is → Contains is i
    → place_of c.parts i ≡ p → list_any (prepares t) (prefix_at c p) ≡ false
    → IsBacked (marked_cut c p (Discarded t)) (Discarded t)
discarded_backs c p t is i l announced n placed none = record {
  items = is;
  announced = announced;
  item = i;
  listed = n;
  promised = record {
    before = prefix_at c p;
    later = [];
    discarded = ap (λ (q : ℕ). prefix_at (marked_cut c p (Discarded t)) q) placed ∙ mark_here c p (Discarded t) l;
    unprepared = none;
  };
}

-- each number below the count
range_has : (a n q : ℕ) → q < n → Contains (range_with_len a n) (a + q)
range_has a zero q l = absurd (omega arith)
range_has a (suc n) zero l = (0, omega arith, omega arith)
range_has a (suc n) (suc q) l =
    let h = range_has (a + 1) n q (omega arith) in
    let e : a + 1 + q ≡ a + suc q = omega arith in
    let r : Contains (range_with_len (a + 1) n) (a + suc q) = subst (λ (x : ℕ). Contains (range_with_len (a + 1) n) x) e h in
    (suc r.0, omega (arith, r.1), r.2)

-- where the stamp is prepared at a partition, and at each other one of its items
pub votes_back : (c : Cut) (p t : ℕ) → IsSound c → p < c.parts → list_any (prepares t) (prefix_at c p) ≡ true
    → All (λ (q : ℕ). list_any (prepares t) (prefix_at c q) ≡ true) (others_of p c.parts (items_at (prefix_at c p) t))
    → IsPreparedThroughout c t
votes_back c p t s inside own others =
    let f = found (prepares t) (prefix_at c p) own in
    let r = found_in (prepares t) (prefix_at c p) f.0 f.1 in
    let x = prepares_is t f.0 r.1 in
    let is : List ℕ = x.1 in
    let named = backed_there c p (Prepared t x.0 is) s.closed (subst (λ (y : Mark). Contains (prefix_at c p) y) x.2 r.0) in
    let items : items_at (prefix_at c p) t ≡ is = ap mark_items f.1 ∙ ap (λ (y : Mark). mark_items (Some y)) x.2 in
    let had : All (λ (q : ℕ). list_any (prepares t) (prefix_at c q) ≡ true) (others_of p c.parts is) = subst (λ (js : List ℕ). All (λ (q : ℕ). list_any (prepares t) (prefix_at c q) ≡ true) (others_of p c.parts js)) items others in
    record {
      items = is;
      announced = items_of_named c t x.0 is named.named;
      prepared = λ k i l. at is had (get_or is k i) (All-contains_itself is k i l);
    }
  where
    at : (is : List ℕ) → All (λ (q : ℕ). list_any (prepares t) (prefix_at c q) ≡ true) (others_of p c.parts is) → (i : ℕ) → Contains is i → IsPreparedFor c t i
    at is had i n = dite (ℕ_discrete (place_of c.parts i) p)
        (λ here. subst (λ (q : ℕ). list_any (prepares t) (prefix_at c q) ≡ true) (sym here) own)
        (λ away.
        let q : ℕ = place_of c.parts i in
        let below : q < c.parts = mod-lt (number_of i + kind_of i) (omega arith) in
        let zero_less : 0 + q ≡ q = omega arith in
        let ranged : Contains (range_with_len 0 c.parts) q = subst (λ (y : ℕ). Contains (range_with_len 0 c.parts) y) zero_less (range_has 0 c.parts q below) in
        let lies : lies_at q c.parts is ≡ true = list_any-from_Any (is_placed q c.parts) is (n.0, i, n.1, n.2, (Decides-eqb q q).1 refl) in
        let other : is_other p c.parts is q ≡ true = ap (λ (b : Bool). not b && lies_at q c.parts is) (ne_eqb q p away) ∙ lies in
        All-contains (λ (y : ℕ). list_any (prepares t) (prefix_at c y) ≡ true) (others_of p c.parts is) q had
        (kept_out (is_other p c.parts is) (range_with_len 0 c.parts) q other ranged))

-- ---- the least cut that extends two

pub merged_least : (a b c : Cut) → Extends a c → Extends b c → Extends (merged a b) c
merged_least a b c x y = record {
  opening = x.opening;
  parts = x.parts;
  checked = x.checked;
  prefixes = λ p. subst (λ (ms : List Mark). IsPrefix ms (prefix_at c p)) (sym (longer_at a.prefixes b.prefixes p)) (⊎_elim
      (λ z. subst (λ (ms : List Mark). IsPrefix ms (prefix_at c p)) (sym z.1) (y.prefixes p))
      (λ z. subst (λ (ms : List Mark). IsPrefix ms (prefix_at c p)) (sym z.1) (x.prefixes p))
      (longer_cases (prefix_at a p) (prefix_at b p)));
  announced = listed_each (λ t is. announced_for c t ≡ Some is) a.announced b.announced x.announced y.announced;
  depended = listed_each (λ t ls. dependencies_of c t ≡ Some ls) a.depended b.depended x.depended y.depended;
}
