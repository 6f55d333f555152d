-- The steps on the first word keep the rule. `new_key` needs `draws_moves`, and `Writer::add` needs `adds_moves`.
use Rattle.std.proofs.Common.{◌≡◌, ℕ, zero, suc, ◌<◌, ◌==◌, Bool, true, false, List, [], ◌∷◌, ◌++◌, length, slice_set, refl, ap, sym, ◌∙◌, subst, arith, inl, None, length-append}
use Rattle.std.proofs.lemmas.Bool.Decides.{nat_tests}
use Rattle.std.proofs.lemmas.List.{get_or-set_same, length-set, append-nil}
use prog.Atomic.{either}
use Rattle.logbook.specs.Pages.{Cell, cell, gives, adds, no_nib, Nib, nib, may_write, step, Moves}
use Rattle.album_board.specs.Entries.{Entry, passes_from, key_after}
use Rattle.album_board.specs.Rule.{AreGivenUp, IsKept, Draws, Adds}
use Rattle.album_board.proofs.EntryLemmas.{passes_from-append, key_after-append}

abbrev pub shown : List Entry → List Entry
shown log = []

abbrev pub moved : List Entry → List Entry → ℕ → Type 0
moved xs ys n = Unit {0}

-- ---- cells that stay at home

set_home : (cs : List Cell) (j n k : ℕ) → (cell cs k).1 ≡ true → (cell (slice_set cs j (n, true)) k).1 ≡ true
set_home [] j n k h = absurd (cc h)
set_home (c ∷ cs) zero n zero h = refl
set_home (c ∷ cs) zero n (suc k) h = h
set_home (c ∷ cs) (suc j) n zero h = h
set_home (c ∷ cs) (suc j) n (suc k) h = set_home cs j n k h

push_home : (cs : List Cell) (c : Cell) (k : ℕ) → (cell cs k).1 ≡ true → (cell (cs ++ c ∷ []) k).1 ≡ true
push_home [] c k h = absurd (cc h)
push_home (d ∷ cs) c zero h = h
push_home (d ∷ cs) c (suc k) h = push_home cs c k h

set_here : (cs : List Cell) (j n : ℕ) → j < length cs → (cell (slice_set cs j (n, true)) j).1 ≡ true
set_here cs j n l = ap (λ (c : Cell). c.1) (get_or-set_same cs j (n, true) (0, false) l)

given_on : (cs ds : List Cell) → ((k : ℕ) → (cell cs k).1 ≡ true → (cell ds k).1 ≡ true) → (log : List Entry)
    → AreGivenUp cs log → AreGivenUp ds log
given_on cs ds on [] g = g
given_on cs ds on (e ∷ log) g = (on e.key g.0, given_on cs ds on log g.1)

given_push : (cs : List Cell) (log : List Entry) (e : Entry) → AreGivenUp cs log → (cell cs e.key).1 ≡ true
    → AreGivenUp cs (log ++ e ∷ [])
given_push cs [] e g h = (h, tt)
given_push cs (d ∷ log) e g h = (g.0, given_push cs log e g.1 h)

given_back : (cs : List Cell) (xs ys : List Entry) → AreGivenUp cs (xs ++ ys) → AreGivenUp cs ys
given_back cs [] ys g = g
given_back cs (x ∷ xs) ys g = given_back cs xs ys g.1

-- ---- what was added without the writer

-- while a key is not at home, nothing is published by who holds it
others : (cs : List Cell) (key : ℕ) (more : List Entry) → (cell cs key).1 ≡ false → AreGivenUp cs more
    → (passes_from key more ≡ []) × (key_after key more ≡ key)
others cs key [] away g = (refl, refl)
others cs key (e ∷ es) away g = by (e.key == key) refl (others cs key es away g.1)
  where
    by : (b : Bool) → (e.key == key) ≡ b → (passes_from key es ≡ []) × (key_after key es ≡ key)
        → (passes_from key (e ∷ es) ≡ []) × (key_after key (e ∷ es) ≡ key)
    by true is rest =
        let same : e.key ≡ key = grind (arith, nat_tests) in
        absurd (cc (sym g.0 ∙ (ap (λ (k : ℕ). (cell cs k).1) same ∙ away)))
    by false is rest = rw is rest

-- the writer that held the entry's key has published its pass after all from before, and holds the next key
added : (first : ℕ) (v rest : List Entry) (e : Entry) → key_after first v ≡ e.key
    → passes_from e.key rest ≡ [] → key_after e.key rest ≡ e.key
    → (passes_from first ((v ++ rest) ++ e ∷ []) ≡ passes_from first v ++ e.pass ∷ [])
    × (key_after first ((v ++ rest) ++ e ∷ []) ≡ e.next)
added first v rest e at none same =
    let own : (e.key == e.key) ≡ true = grind (arith, nat_tests) in
    let both = key_after-append first v rest in
    let key : key_after first (v ++ rest) ≡ e.key = both ∙ (ap (λ k. key_after k rest) at ∙ same) in
    let one : passes_from e.key (e ∷ []) ≡ e.pass ∷ [] = rw own refl in
    let next : key_after e.key (e ∷ []) ≡ e.next = rw own refl in
    let before : passes_from first (v ++ rest) ≡ passes_from first v =
    passes_from-append first v rest
    ∙ (ap (λ k. passes_from first v ++ passes_from k rest) at
    ∙ (ap (λ ps. passes_from first v ++ ps) none ∙ append-nil (passes_from first v))) in (
      passes_from-append first (v ++ rest) (e ∷ [])
          ∙ (ap (λ k. passes_from first (v ++ rest) ++ passes_from k (e ∷ [])) key
          ∙ (ap (λ ps. passes_from first (v ++ rest) ++ ps) one ∙ ap (λ ps. ps ++ e.pass ∷ []) before)),
      key_after-append first (v ++ rest) (e ∷ []) ∙ (ap (λ k. key_after k (e ∷ [])) key ∙ next),
    )

-- ---- the steps

-- whatever the book is, a step can draw a key
pub draws_moves : (v : List Entry) (e : Entry)
    → Moves IsKept shown moved 0 (v, (no_nib, None)) (λ n. either (n == 0) 0 n)
    (Draws (step 0 0 0 e) (v, (no_nib, None)))
draws_moves v e cs log kept pre away =
    let now : List Cell = slice_set cs 0 (either ((cell cs 0).0 == 0) 0 (cell cs 0).0, true) in
    let on : (k : ℕ) → (cell cs k).1 ≡ true → (cell (now ++ (0, false) ∷ []) k).1 ≡ true = λ k h.
    push_home now (0, false) k (set_home cs 0 _ k h) in (
      kept.some,
      kept.home,
      (
        adds,
        [],
        None,
        tt,
        record {
          some = omega (arith, length-append now ((0, false) ∷ []));
          home = on 0 kept.home;
          given_up = subst (AreGivenUp (now ++ (0, false) ∷ [])) (sym (append-nil log))
              (given_on cs _ on log kept.given_up);
        },
        inl (refl, refl),
        refl,
      ),
    )

-- whatever the book is, who holds a key that is not at home can give it up for an entry
adds_at : (v : List Entry) (e : Entry) (n : ℕ)
    → Moves IsKept shown moved 0 (v, (nib may_write e.key n, None)) (λ m. either (m == 0) 0 m)
    (Adds (step 0 0 0 e) (v, (nib may_write e.key n, None)))
adds_at v e n cs log kept pre away =
    let first : List Cell = slice_set cs 0 (either ((cell cs 0).0 == 0) 0 (cell cs 0).0, true) in
    let now : List Cell = slice_set first e.key (n, true) in
    let free = away refl in
    let on : (k : ℕ) → (cell cs k).1 ≡ true → (cell now k).1 ≡ true = λ k h.
    set_home first e.key n k (set_home cs 0 _ k h) in
    let wide : length first ≡ length cs = length-set cs 0 _ in
    let all : length now ≡ length first = length-set first e.key _ in
    let some : 0 < length cs = kept.some in
    let there : e.key < length first = omega (arith, free.0) in
    let whole = subst (AreGivenUp cs) (sym pre.1) kept.given_up in
    let rest = others cs e.key pre.0 free.1 (given_back cs v pre.0 whole) in (
      kept.some,
      kept.home,
      (
        gives,
        e ∷ [],
        None,
        refl,
        record {
          some = omega arith;
          home = on 0 kept.home;
          given_up = given_push now log e (given_on cs now on log kept.given_up) (set_here first e.key n there);
        },
        inl (refl, refl),
        λ root at. subst
            (λ (l : List Entry). (passes_from root (l ++ e ∷ []) ≡ passes_from root v ++ e.pass ∷ [])
            × (key_after root (l ++ e ∷ []) ≡ e.next))
            pre.1 (added root v pre.0 e at rest.0 rest.1),
      ),
    )

pub adds_moves : (v : List Entry) (e : Entry) (p : Nib) → p.right ≡ may_write → p.key ≡ e.key
    → Moves IsKept shown moved 0 (v, (p, None)) (λ m. either (m == 0) 0 m) (Adds (step 0 0 0 e) (v, (p, None)))
adds_moves v e p right at =
    let is : nib may_write e.key p.value ≡ p = λ i. nib (sym right i) (sym at i) p.value in
    subst
    (λ (q : Nib). Moves IsKept shown moved 0 (v, (q, None)) (λ m. either (m == 0) 0 m) (Adds (step 0 0 0 e) (v, (q, None))))
    is (adds_at v e p.value)
