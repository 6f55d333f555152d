-- What is in lists, and what is found there.
use Rattle.std.proofs.Common.{◌≡◌, ℕ, zero, suc, ◌<◌, ◌≤◌, ◌+◌, Bool, true, false, cond, not, ◌&&◌, ◌||◌, eqb, List, [], ◌∷◌, ◌++◌, map, filter, Option, Some, None, ◌⊎◌, inl, inr, ⊎_elim, sym, ap, ◌∙◌, subst, refl, arith, true≢false, eqb-true, eq-eqb, set, Contains, option_to_list, option_map}
use Rattle.std.proofs.lemmas.Bool.{eqb-false}
use Rattle.std.proofs.lemmas.List.Elements.{Contains-append_right, Contains-append_cases, Contains-push_cases}
use Rattle.std.specs.List.{slice_get, range_with_len, list_any, list_all, find}

-- membership, as a relation whose arguments are found
pub data In {A : Type 0} (x : A) : List A → Type 0 where
  here : {xs : List A} → In x (x ∷ xs)
  there : {y : A} {xs : List A} → In x xs → In x (y ∷ xs)

-- ---- Booleans

pub and_left : (a b : Bool) → a && b ≡ true → a ≡ true
and_left true b h = refl
and_left false b h = h

pub and_right : (a b : Bool) → a && b ≡ true → b ≡ true
and_right true b h = h
and_right false b h = absurd (true≢false (sym h))

pub and_both : (a b : Bool) → a ≡ true → b ≡ true → a && b ≡ true
and_both true b h k = k
and_both false b h k = h

pub or_cases : (a b : Bool) → a || b ≡ true → (a ≡ true) ⊎ (b ≡ true)
or_cases true b h = inl refl
or_cases false b h = inr h

pub true_or : (a b : Bool) → a ≡ true → a || b ≡ true
true_or true b h = refl
true_or false b h = absurd (true≢false (sym h))

pub or_true : (a b : Bool) → b ≡ true → a || b ≡ true
or_true true b h = refl
or_true false b h = h

pub not_true : (b : Bool) → not b ≡ true → b ≡ false
not_true true h = absurd (true≢false (sym h))
not_true false h = refl

pub true_or_false : (b : Bool) → (b ≡ true) ⊎ (b ≡ false)
true_or_false true = inl refl
true_or_false false = inr refl

-- ---- numbers

pub same_or_not : (a b : ℕ) → (a ≡ b) ⊎ (eqb a b ≡ false)
same_or_not a b = go (eqb a b) refl
  where
    go : (t : Bool) → eqb a b ≡ t → (a ≡ b) ⊎ (eqb a b ≡ false)
    go true e = inl (eqb-true a b e)
    go false e = inr e

pub self_eqb : (a : ℕ) → eqb a a ≡ true
self_eqb a = eq-eqb a a refl

pub apart : (a b : ℕ) {R : Type 0} → eqb a b ≡ false → a ≡ b → R
apart a b e q = absurd (true≢false (sym (eq-eqb a b q) ∙ e))

-- ---- membership

pub some_same : {A : Type 0} {x y : A} → Some x ≡ Some y → x ≡ y
some_same e = cc

pub none_some : {A : Type 0} {x : A} {R : Type 0} → None ≡ Some x → R
none_some e = absurd (cc)

pub in_left : {A : Type 0} {x : A} {xs : List A} (ys : List A) → In x xs → In x (xs ++ ys)
in_left ys here = here
in_left ys (there h) = there (in_left ys h)

pub in_right : {A : Type 0} {x : A} (xs : List A) {ys : List A} → In x ys → In x (xs ++ ys)
in_right [] h = h
in_right (x ∷ xs) h = there (in_right xs h)

pub in_uncons : {A : Type 0} {x y : A} {ys : List A} → In x (y ∷ ys) → (x ≡ y) ⊎ In x ys
in_uncons here = inl refl
in_uncons (there h) = inr h

pub in_nil : {A : Type 0} {x : A} {R : Type 0} → In x [] → R
in_nil h = elim h [ ]

-- the same in the words of the definitions
pub contains : {A : Type 0} {x : A} {xs : List A} → In x xs → Contains xs x
contains here = (0, omega arith, refl)
contains {A} {x} (there {y} {xs} h) = Contains-append_right (y ∷ []) xs x (contains h)

pub within : {A : Type 0} {x : A} (xs : List A) → Contains xs x → In x xs
within [] c = absurd (omega (arith, c.1))
within {A} {x} (y ∷ xs) c = elim (Contains-append_cases (y ∷ []) xs x c) [
  | inl h ↦ (elim (Contains-push_cases [] y x h) [
    | inl n ↦ absurd (omega (arith, n.1))
    | inr e ↦ subst
        (λ (z : A). In x (z ∷ xs)) (sym e) here
  ])
  | inr r ↦ there (within xs r)
]

pub in_one : {A : Type 0} {x y : A} → In x (y ∷ []) → x ≡ y
in_one h = ⊎_elim (λ e. e) (λ n. in_nil n) (in_uncons h)

pub in_cases : {A : Type 0} {x : A} (xs ys : List A) → In x (xs ++ ys) → In x xs ⊎ In x ys
in_cases [] ys h = inr h
in_cases {A} {x} (y ∷ xs) ys h =
    ⊎_elim (λ e. inl (subst (λ (z : A). In x (z ∷ xs)) e here))
    (λ k. ⊎_elim (λ a. inl (there a)) inr (in_cases xs ys k)) (in_uncons h)

pub in_option : {A : Type 0} {x : A} (f : Option A) → In x (option_to_list f) → f ≡ Some x
in_option None h = in_nil h
in_option (Some y) h = ap Some (sym (in_one h))

pub option_in : {A : Type 0} {x : A} (f : Option A) → f ≡ Some x → In x (option_to_list f)
option_in None h = none_some h
option_in {A} {x} (Some y) h = subst (λ (z : A). In x (z ∷ [])) (sym (some_same h)) here

-- what is in a map is the image of something
pub in_map : {A B : Type 0} (f : A → B) (xs : List A) {y : B} → In y (map f xs) → (x : A) × In x xs × (y ≡ f x)
in_map f [] h = in_nil h
in_map f (x ∷ xs) h =
    ⊎_elim (λ e. (x, here, e)) (λ k. let r = in_map f xs k in (r.0, there r.1, r.2)) (in_uncons h)

pub map_in : {A B : Type 0} (f : A → B) {x : A} {xs : List A} → In x xs → In (f x) (map f xs)
map_in f here = here
map_in f (there h) = there (map_in f h)

keep_head : {A : Type 0} (b : Bool) (x : A) (xs : List A) → b ≡ true → In x (cond b (x ∷ xs) xs)
keep_head true x xs h = here
keep_head false x xs h = absurd (true≢false (sym h))

keep_tail : {A : Type 0} (b : Bool) (x y : A) (xs : List A) → In x xs → In x (cond b (y ∷ xs) xs)
keep_tail true x y xs h = there h
keep_tail false x y xs h = h

pub filter_in : {A : Type 0} (test : A → Bool) (x : A) (xs : List A) → In x xs → test x ≡ true → In x (filter test xs)
filter_in test x [] h t = in_nil h
filter_in {A} test x (y ∷ xs) h t =
    ⊎_elim
    (λ e. subst (λ (z : A). In x (cond (test z) (z ∷ filter test xs) (filter test xs))) e
    (keep_head (test x) x (filter test xs) t))
    (λ k. keep_tail (test y) x y (filter test xs) (filter_in test x xs k t))
    (in_uncons h)

pub in_filter : {A : Type 0} (test : A → Bool) (x : A) (xs : List A) → In x (filter test xs) → In x xs × (test x ≡ true)
in_filter test x [] h = in_nil h
in_filter {A} test x (y ∷ xs) h = go (test y) refl h (in_filter test x xs)
  where
    go : (b : Bool) → test y ≡ b → In x (cond b (y ∷ filter test xs) (filter test xs))
        → (In x (filter test xs) → In x xs × (test x ≡ true)) → In x (y ∷ xs) × (test x ≡ true)
    go true e k rec = ⊎_elim (λ (q : x ≡ y). (subst (λ (z : A). In z (y ∷ xs)) (sym q) here, ap test q ∙ e))
        (λ l. let r = rec l in (there r.0, r.1)) (in_uncons k)
    go false e k rec = let r = rec k in (there r.0, r.1)

pub any_in : {A : Type 0} (test : A → Bool) {x : A} (xs : List A) → In x xs → test x ≡ true → list_any test xs ≡ true
any_in test [] h t = in_nil h
any_in {A} test {x} (y ∷ xs) h t =
    ⊎_elim (λ (e : x ≡ y). true_or (test y) (list_any test xs) (ap test (sym e) ∙ t))
    (λ k. or_true (test y) (list_any test xs) (any_in test xs k t)) (in_uncons h)

pub in_any : {A : Type 0} (test : A → Bool) (xs : List A) → list_any test xs ≡ true
    → (x : A) × In x xs × (test x ≡ true)
in_any test [] h = absurd (true≢false (sym h))
in_any test (x ∷ xs) h = ⊎_elim (λ e. (x, here, e)) (λ k. let r = in_any test xs k in (r.0, there r.1, r.2))
    (or_cases (test x) (list_any test xs) h)

pub in_all : {A : Type 0} (test : A → Bool) {x : A} (xs : List A) → list_all test xs ≡ true → In x xs → test x ≡ true
in_all test [] h k = in_nil k
in_all {A} test {x} (y ∷ xs) h k =
    ⊎_elim (λ (e : x ≡ y). ap test e ∙ and_left (test y) (list_all test xs) h)
    (λ l. in_all test xs (and_right (test y) (list_all test xs) h) l) (in_uncons k)

pub any_more : {A : Type 0} (test : A → Bool) (xs more : List A) → list_any test xs ≡ true
    → list_any test (xs ++ more) ≡ true
any_more test xs more h = let r = in_any test xs h in any_in test (xs ++ more) (in_left more r.1) r.2

-- ---- what is found first

pub find_more : {A : Type 0} (test : A → Bool) (xs more : List A) (x : A) → find test xs ≡ Some x
    → find test (xs ++ more) ≡ Some x
find_more test [] more x h = none_some h
find_more {A} test (y ∷ xs) more x h = go (test y) h (find_more test xs more x)
  where
    go : (b : Bool) → cond b (Some y) (find test xs) ≡ Some x
        → (find test xs ≡ Some x → find test (xs ++ more) ≡ Some x) → cond b (Some y) (find test (xs ++ more)) ≡ Some x
    go true e rec = e
    go false e rec = rec e

pub find_is : {A : Type 0} (test : A → Bool) (xs : List A) (x : A) → find test xs ≡ Some x → In x xs × (test x ≡ true)
find_is test [] x h = none_some h
find_is {A} test (y ∷ xs) x h = go (test y) refl h (find_is test xs x)
  where
    go : (b : Bool) → test y ≡ b → cond b (Some y) (find test xs) ≡ Some x
        → (find test xs ≡ Some x → In x xs × (test x ≡ true)) → In x (y ∷ xs) × (test x ≡ true)
    go true e k rec = let q : y ≡ x = some_same k in (subst (λ (z : A). In z (y ∷ xs)) q here, ap test (sym q) ∙ e)
    go false e k rec = let r = rec k in (there r.0, r.1)

pub any_found : {A : Type 0} (test : A → Bool) (xs : List A) → list_any test xs ≡ true
    → (x : A) × (find test xs ≡ Some x)
any_found test [] h = absurd (true≢false (sym h))
any_found {A} test (y ∷ xs) h = go (test y) h (any_found test xs)
  where
    go : (b : Bool) → b || list_any test xs ≡ true → (list_any test xs ≡ true → (x : A) × (find test xs ≡ Some x))
        → (x : A) × (cond b (Some y) (find test xs) ≡ Some x)
    go true e rec = (y, refl)
    go false e rec = rec e

-- where one more is there, it is found, or what was found before
pub find_push : {A : Type 0} (test : A → Bool) (xs : List A) (x y : A) → find test (xs ++ x ∷ []) ≡ Some y
    → (find test xs ≡ Some y) ⊎ ((x ≡ y) × (test x ≡ true))
find_push {A} test [] x y h = go (test x) refl h
  where
    go : (b : Bool) → test x ≡ b → cond b (Some x) None ≡ Some y → (None ≡ Some y) ⊎ ((x ≡ y) × (test x ≡ true))
    go true e k = inr (some_same k, e)
    go false e k = none_some k
find_push {A} test (z ∷ xs) x y h = go (test z) h (find_push test xs x y)
  where
    go : (b : Bool) → cond b (Some z) (find test (xs ++ x ∷ [])) ≡ Some y
        → (find test (xs ++ x ∷ []) ≡ Some y → (find test xs ≡ Some y) ⊎ ((x ≡ y) × (test x ≡ true)))
        → (cond b (Some z) (find test xs) ≡ Some y) ⊎ ((x ≡ y) × (test x ≡ true))
    go true e rec = inl e
    go false e rec = rec e

-- ---- places in a list

pub set_same : {A : Type 0} (xs : List A) (p : ℕ) (x y : A) → slice_get xs p ≡ Some x
    → slice_get (set xs p y) p ≡ Some y
set_same [] p x y h = none_some h
set_same (z ∷ xs) zero x y h = refl
set_same (z ∷ xs) (suc p) x y h = set_same xs p x y h

pub set_other : {A : Type 0} (xs : List A) (p q : ℕ) (y : A) → (q ≡ p) ⊎ (slice_get (set xs p y) q ≡ slice_get xs q)
set_other [] p q y = inr refl
set_other (x ∷ xs) zero zero y = inl refl
set_other (x ∷ xs) zero (suc q) y = inr refl
set_other (x ∷ xs) (suc p) zero y = inr refl
set_other (x ∷ xs) (suc p) (suc q) y = ⊎_elim (λ e. inl (ap suc e)) inr (set_other xs p q y)

pub got_in : {A : Type 0} (xs : List A) (p : ℕ) (x : A) → slice_get xs p ≡ Some x → In x xs
got_in [] p x h = none_some h
got_in {A} (y ∷ xs) zero x h = subst (λ (z : A). In z (y ∷ xs)) (some_same h) here
got_in (y ∷ xs) (suc p) x h = there (got_in xs p x h)

pub range_in : (a n k : ℕ) → a ≤ k → k < a + n → In k (range_with_len a n)
range_in a zero k low high = absurd (omega arith)
range_in a (suc n) k low high =
    ⊎_elim
    (λ (e : k ≡ a). subst (λ (z : ℕ). In z (range_with_len a (suc n))) (sym e) here)
    (λ (ne : eqb k a ≡ false). let d : k ≡ a
    → ⊥ = eqb-false k a ne in there (range_in (a + 1) n k (omega arith) (omega arith)))
    (same_or_not k a)

pub range_got : {A : Type 0} (f : ℕ → A) (a n p : ℕ) (x : A) → slice_get (map f (range_with_len a n)) p ≡ Some x
    → (x ≡ f (a + p)) × (p < n)
range_got f a zero p x h = none_some h
range_got f a (suc n) zero x h = (sym (some_same h) ∙ ap f (omega arith), omega arith)
range_got {A} f a (suc n) (suc p) x h = let r = range_got f (a + 1) n p x h in
    (r.0 ∙ ap f (omega arith), omega (arith, r.1))

-- what is in the image of an option is the image of what is there
pub in_mapped : {A B : Type 0} (f : A → B) (o : Option A) {y : B} → In y (option_to_list (option_map f o))
    → (x : A) × (o ≡ Some x) × (y ≡ f x)
in_mapped f None h = in_nil h
in_mapped f (Some x) h = (x, refl, in_one h)

pub mapped_in : {A B : Type 0} (f : A → B) (o : Option A) {x : A} → o ≡ Some x
    → In (f x) (option_to_list (option_map f o))
mapped_in f None h = none_some h
mapped_in {A} {B} f (Some y) {x} h = subst (λ (z : A). In (f z) (f y ∷ [])) (some_same h) here
