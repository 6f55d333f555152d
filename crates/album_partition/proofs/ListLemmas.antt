-- Small facts of lists and numbers that several of the files here need.
use Rattle.std.proofs.Common.{◌≡◌, ℕ, zero, suc, Bool, true, false, ◌==◌, ◌||◌, not, cond, Contains, List, [], ◌∷◌, ◌++◌, filter, refl, sym, ap, ◌∙◌, subst, arith}
use Rattle.std.specs.List.{list_any, list_all}
use Rattle.std.proofs.Math.Bool.{or-false}
use Rattle.std.proofs.lemmas.Bool.{and_parts, and_from, or_parts, not-true}
use Rattle.std.proofs.lemmas.Bool.Decides.{Decides-eqb}
use Rattle.std.proofs.lemmas.List.Folds.{list_any-append}
use Rattle.album_stamps.specs.Distinct.{no_two}

-- two numbers are the same, or are not
pub same_or_not : {X : Type 0} (s t : ℕ) → (s ≡ t → X) → ((s == t) ≡ false → X) → X
same_or_not {X = X} s t one two = go (s == t) refl
  where
    go : (b : Bool) → (s == t) ≡ b → X
    go true e = one ((Decides-eqb s t).0 e)
    go false e = two e

pub turned : (s t : ℕ) → (s == t) ≡ false → (t == s) ≡ false
turned s t e = go (t == s) refl
  where
    go : (b : Bool) → (t == s) ≡ b → (t == s) ≡ false
    go false f = f
    go true f = absurd (let here : (s == t) ≡ true = (Decides-eqb s t).1 (sym ((Decides-eqb t s).0 f)) in cc)

-- ---- one element more

pub no_two-push : {X : Type 0} (clash : X → X → Bool) (xs : List X) (x : X) → no_two clash xs ≡ true → list_any (λ y. clash y x) xs ≡ false → no_two clash (xs ++ x ∷ []) ≡ true
no_two-push clash [] x single none = refl
no_two-push clash (y ∷ xs) x single none =
    let s = and_parts (not (list_any (clash y) xs)) (no_two clash xs) single in
    let n = or_parts (clash y x) (list_any (λ z. clash z x) xs) none in
    and_from (not (list_any (clash y) (xs ++ x ∷ []))) (no_two clash (xs ++ x ∷ []))
    (ap not (list_any-append (clash y) xs (x ∷ []) ∙ ap (λ (b : Bool). list_any (clash y) xs || b) (or-false (clash y x)) ∙ both (list_any (clash y) xs) (clash y x) (not-true (list_any (clash y) xs) s.0) n.0))
    (no_two-push clash xs x s.1 n.1)
  where
    both : (a b : Bool) → a ≡ false → b ≡ false → a || b ≡ false
    both a b e f = rw (e, f) refl

pub list_all-push : {X : Type 0} (p : X → Bool) (xs : List X) (x : X) → list_all p xs ≡ true → p x ≡ true → list_all p (xs ++ x ∷ []) ≡ true
list_all-push p [] x all e = rw e refl
list_all-push p (y ∷ xs) x all e =
    let parts = and_parts (p y) (list_all p xs) all in
    and_from (p y) (list_all p (xs ++ x ∷ [])) parts.0 (list_all-push p xs x parts.1 e)

pub list_all-weaker : {X : Type 0} (p q : X → Bool) → ((x : X) → p x ≡ true → q x ≡ true) → (xs : List X) → list_all p xs ≡ true → list_all q xs ≡ true
list_all-weaker p q more [] all = refl
list_all-weaker p q more (x ∷ xs) all =
    let parts = and_parts (p x) (list_all p xs) all in
    and_from (q x) (list_all q xs) (more x parts.0) (list_all-weaker p q more xs parts.1)

pub list_all-any : {X : Type 0} (p q : X → Bool) (xs : List X) → list_all p xs ≡ true → list_any q xs ≡ true → (x : X) × (p x ≡ true) × (q x ≡ true)
list_all-any p q [] all e = absurd (cc)
list_all-any {X = X} p q (x ∷ xs) all e =
    let parts = and_parts (p x) (list_all p xs) all in
    go (q x) refl e parts (list_all-any p q xs)
  where
    go : (b : Bool) → q x ≡ b → b || list_any q xs ≡ true → (p x ≡ true) × (list_all p xs ≡ true)
        → (list_all p xs ≡ true → list_any q xs ≡ true → (y : X) × (p y ≡ true) × (q y ≡ true)) → (y : X) × (p y ≡ true) × (q y ≡ true)
    go true f e parts h = (x, parts.0, f)
    go false f e parts h = h parts.1 e

pub list_all-two : {X : Type 0} (p q r : X → Bool) → ((x : X) → p x ≡ true → q x ≡ true → r x ≡ true)
    → (xs : List X) → list_all p xs ≡ true → list_all q xs ≡ true → list_all r xs ≡ true
list_all-two p q r both [] all every = refl
list_all-two p q r both (x ∷ xs) all every =
    let a = and_parts (p x) (list_all p xs) all in
    let b = and_parts (q x) (list_all q xs) every in
    and_from (r x) (list_all r xs) (both x a.0 b.0) (list_all-two p q r both xs a.1 b.1)

-- ---- what a filter leaves

pub list_all-filter : {X : Type 0} (p q test : X → Bool) → ((x : X) → test x ≡ true → p x ≡ true → q x ≡ true)
    → (xs : List X) → list_all p xs ≡ true → list_all q (filter test xs) ≡ true
list_all-filter p q test more [] all = refl
list_all-filter p q test more (x ∷ xs) all =
    let parts = and_parts (p x) (list_all p xs) all in
    go (test x) refl parts.0 (list_all-filter p q test more xs parts.1)
  where
    go : (b : Bool) → test x ≡ b → p x ≡ true → list_all q (filter test xs) ≡ true → list_all q (cond b (x ∷ filter test xs) (filter test xs)) ≡ true
    go true e here h = and_from (q x) (list_all q (filter test xs)) (more x e here) h
    go false e here h = h

none_left : {X : Type 0} (p test : X → Bool) (xs : List X) → list_any p xs ≡ false → list_any p (filter test xs) ≡ false
none_left p test [] e = refl
none_left p test (x ∷ xs) e =
    let parts = or_parts (p x) (list_any p xs) e in
    go (test x) parts.0 (none_left p test xs parts.1)
  where
    go : (b : Bool) → p x ≡ false → list_any p (filter test xs) ≡ false → list_any p (cond b (x ∷ filter test xs) (filter test xs)) ≡ false
    go true f h = rw f h
    go false f h = h

pub any_before : {X : Type 0} (p test : X → Bool) (xs : List X) → list_any p (filter test xs) ≡ true → list_any p xs ≡ true
any_before p test xs e = go (list_any p xs) refl
  where
    go : (b : Bool) → list_any p xs ≡ b → list_any p xs ≡ true
    go true f = f
    go false f = absurd (let none = none_left p test xs f in cc)

pub no_two-filter : {X : Type 0} (clash : X → X → Bool) (test : X → Bool) (xs : List X) → no_two clash xs ≡ true → no_two clash (filter test xs) ≡ true
no_two-filter clash test [] single = refl
no_two-filter clash test (x ∷ xs) single =
    let s = and_parts (not (list_any (clash x) xs)) (no_two clash xs) single in
    go (test x) (none_left (clash x) test xs (not-true (list_any (clash x) xs) s.0)) (no_two-filter clash test xs s.1)
  where
    go : (b : Bool) → list_any (clash x) (filter test xs) ≡ false → no_two clash (filter test xs) ≡ true
        → no_two clash (cond b (x ∷ filter test xs) (filter test xs)) ≡ true
    go true f h = rw f h
    go false f h = h

-- ---- what a list contains

pub list_all-contains : {X : Type 0} (p : X → Bool) (xs : List X) (x : X) → list_all p xs ≡ true → Contains xs x → p x ≡ true
list_all-contains p [] x all (k, less, at) = absurd (omega arith)
list_all-contains {X = X} p (y ∷ xs) x all (zero, less, at) = subst (λ (z : X). p z ≡ true) at (and_parts (p y) (list_all p xs) all).0
list_all-contains p (y ∷ xs) x all (suc k, less, at) = list_all-contains p xs x (and_parts (p y) (list_all p xs) all).1 (k, omega arith, at)

pub any_from_contains : (xs : List ℕ) (t : ℕ) → Contains xs t → list_any (λ x. x == t) xs ≡ true
any_from_contains [] t (k, less, at) = absurd (omega arith)
any_from_contains (x ∷ xs) t (zero, less, at) = rw (at, (Decides-eqb t t).1 refl) refl
any_from_contains (x ∷ xs) t (suc k, less, at) = go (x == t) (any_from_contains xs t (k, omega arith, at))
  where
    go : (b : Bool) → list_any (λ y. y == t) xs ≡ true → b || list_any (λ y. y == t) xs ≡ true
    go true h = refl
    go false h = h

pub contains_from_any : (xs : List ℕ) (t : ℕ) → list_any (λ x. x == t) xs ≡ true → Contains xs t
contains_from_any [] t e = absurd (cc)
contains_from_any (x ∷ xs) t e = go (x == t) refl e (contains_from_any xs t)
  where
    later : Contains xs t → Contains (x ∷ xs) t
    later (k, less, at) = (suc k, omega arith, at)

    go : (b : Bool) → (x == t) ≡ b → b || list_any (λ y. y == t) xs ≡ true → (list_any (λ y. y == t) xs ≡ true → Contains xs t) → Contains (x ∷ xs) t
    go true f e h = (0, omega arith, (Decides-eqb x t).0 f)
    go false f e h = later (h e)

-- ---- what a filter keeps

pub one_before : {X : Type 0} (x t : X) (xs : List X) → Contains xs t → Contains (x ∷ xs) t
one_before x t xs (k, less, at) = (suc k, omega arith, at)

pub kept_in : {X : Type 0} (test : X → Bool) (xs : List X) (t : X) → Contains (filter test xs) t → (test t ≡ true) × Contains xs t
kept_in test [] t (k, less, at) = absurd (omega arith)
kept_in {X = X} test (x ∷ xs) t h = go (test x) refl (kept_in test xs t) h
  where
    go : (b : Bool) → test x ≡ b → (Contains (filter test xs) t → (test t ≡ true) × Contains xs t) → Contains (cond b (x ∷ filter test xs) (filter test xs)) t → (test t ≡ true) × Contains (x ∷ xs) t
    go true e rest (zero, less, at) = (subst (λ (y : X). test y ≡ true) at e, (0, omega arith, at))
    go true e rest (suc k, less, at) = let h = rest (k, omega arith, at) in (h.0, one_before x t xs h.1)
    go false e rest c = let h = rest c in (h.0, one_before x t xs h.1)

pub kept_out : {X : Type 0} (test : X → Bool) (xs : List X) (t : X) → test t ≡ true → Contains xs t → Contains (filter test xs) t
kept_out test [] t passes (k, less, at) = absurd (omega arith)
kept_out {X = X} test (x ∷ xs) t passes (zero, less, at) = rw (subst (λ (y : X). test y ≡ true) (sym at) passes) (0, omega arith, at)
kept_out test (x ∷ xs) t passes (suc k, less, at) = go (test x) (kept_out test xs t passes (k, omega arith, at))
  where
    go : (b : Bool) → Contains (filter test xs) t → Contains (cond b (x ∷ filter test xs) (filter test xs)) t
    go true h = one_before x t (filter test xs) h
    go false h = h
