-- What is among the keys of a set as keys are inserted, for the names (`Growing`, `Turns`). Nothing is lost
-- (`all-old`), all is taken (`all-new`), and nothing else is (`all-only`). Keys go after those that are there
-- (`all-more`), none occurs twice (`all-single`), and they are no more than what is inserted (`all-few`).
use Rattle.std.proofs.Common.{◌≡◌, ◌<◌, ◌≤◌, ◌+◌, ℕ, zero, suc, Bool, true, false, not, ◌||◌, ◌==◌, List, [], ◌∷◌, ◌++◌, length, get_or, if◌then◌else◌, Contains, inl, inr, ◌⊎◌, refl, sym, ap, subst, ◌∙◌, arith}
use Rattle.std.specs.List.{list_any, flat_map}
use Rattle.std.proofs.lemmas.Bool.{and_parts, and_from, or_parts, or_from, or_left, or_right, not-true, eqb-true, eq-eqb}
use Rattle.std.proofs.lemmas.List.{append_assoc, append-nil, length-append}
use Rattle.std.proofs.lemmas.List.Folds.{list_any-append}
use Rattle.std.proofs.lemmas.Map.Views.{Contains-from_any}
use Rattle.indexmap.specs.IndexSet.{insert_key, insert_all}
use Rattle.album_stamps.specs.Distinct.{are_distinct}
use Rattle.album_reader.proofs.Snapshots.{sameness-sym}

-- ---- members

-- the item is among the items
abbrev pub has : List ℕ → ℕ → Bool
has items item = list_any (◌==◌ item) items

pub has-Contains : (items : List ℕ) (item : ℕ) → has items item ≡ true → Contains items item
has-Contains items item h = Contains-from_any eqb-true item items h

pub Contains-has : (items : List ℕ) (item : ℕ) → Contains items item → has items item ≡ true
Contains-has [] item c = absurd (omega (arith, c.1))
Contains-has (x ∷ xs) item c = go (Contains-has xs item) c.0 c.1 c.2
  where
    go :
        (Contains xs item → has xs item ≡ true)
        → (k : ℕ) → k < length (x ∷ xs) → get_or (x ∷ xs) k item ≡ item → has (x ∷ xs) item ≡ true
    go rest zero l e = or_left (item == x) (has xs item) (eq-eqb item x (sym e))
    go rest (suc k) l e = or_right (item == x) (has xs item) (rest (k, omega (arith, l), e))

-- where one of the two is true, which of them it is
pub one-of : (a b : Bool) → (a || b) ≡ true → (a ≡ true) ⊎ (b ≡ true)
one-of true b e = inl refl
one-of false b e = inr e

pub in-append : (xs ys : List ℕ) (item : ℕ) → has (xs ++ ys) item ≡ true → (has xs item ≡ true) ⊎ (has ys item ≡ true)
in-append xs ys item h = one-of (has xs item) (has ys item) (sym (list_any-append (◌==◌ item) xs ys) ∙ h)

pub in-left : (xs ys : List ℕ) (item : ℕ) → has xs item ≡ true → has (xs ++ ys) item ≡ true
in-left xs ys item h = list_any-append (◌==◌ item) xs ys ∙ or_left (has xs item) (has ys item) h

pub in-right : (xs ys : List ℕ) (item : ℕ) → has ys item ≡ true → has (xs ++ ys) item ≡ true
in-right xs ys item h = list_any-append (◌==◌ item) xs ys ∙ or_right (has xs item) (has ys item) h

pub in-here : (item : ℕ) (xs : List ℕ) → has (item ∷ xs) item ≡ true
in-here item xs = or_left (item == item) (has xs item) (eq-eqb item item refl)

-- an element that passes is in the list
pub in-any : (test : ℕ → Bool) (xs : List ℕ) → list_any test xs ≡ true → (x : ℕ) × (has xs x ≡ true) × (test x ≡ true)
in-any test [] e = absurd (cc)
in-any test (x ∷ xs) e =
    elim (one-of (test x) (list_any test xs) e) [
      | inl h ↦ (x, in-here x xs, h)
      | inr h ↦ (let rest = in-any test xs h in (rest.0, or_right (rest.0 == x) (has xs rest.0) rest.1, rest.2))
    ]

pub any-in : (test : ℕ → Bool) (xs : List ℕ) (x : ℕ) → has xs x ≡ true → test x ≡ true → list_any test xs ≡ true
any-in test [] x h t = absurd (cc)
any-in test (y ∷ xs) x h t =
    elim (one-of (x == y) (has xs x) h) [
      | inl e ↦ or_left (test y) (list_any test xs) (subst (λ z. test z ≡ true) (eqb-true x y e) t)
      | inr r ↦ or_right (test y) (list_any test xs) (any-in test xs x r t)
    ]

pub in-flat_map :
    (f : ℕ → List ℕ) (xs : List ℕ) (item : ℕ)
    → has (flat_map f xs) item ≡ true → (x : ℕ) × (has xs x ≡ true) × (has (f x) item ≡ true)
in-flat_map f [] item h = absurd (cc)
in-flat_map f (x ∷ xs) item h =
    elim (in-append (f x) (flat_map f xs) item h) [
      | inl q ↦ (x, in-here x xs, q)
      | inr q ↦ (let rest = in-flat_map f xs item q in (rest.0, or_right (rest.0 == x) (has xs rest.0) rest.1, rest.2))
    ]

pub flat_map-in :
    (f : ℕ → List ℕ) (xs : List ℕ) (x item : ℕ)
    → has xs x ≡ true → has (f x) item ≡ true → has (flat_map f xs) item ≡ true
flat_map-in f [] x item h q = absurd (cc)
flat_map-in f (y ∷ xs) x item h q =
    elim (one-of (x == y) (has xs x) h) [
      | inl e ↦ in-left (f y) (flat_map f xs) item (subst (λ z. has (f z) item ≡ true) (eqb-true x y e) q)
      | inr r ↦ in-right (f y) (flat_map f xs) item (flat_map-in f xs x item r q)
    ]

-- ---- one key

-- what an insertion leaves, by whether the key was there
key-by :
    (P : List ℕ → Type 0) (keys : List ℕ) (key : ℕ)
    → (has keys key ≡ true → P keys) → (has keys key ≡ false → P (keys ++ key ∷ [])) → P (insert_key ◌==◌ keys key)
key-by P keys key there fresh = go (has keys key) refl
  where
    go : (b : Bool) → has keys key ≡ b → P (if b then keys else keys ++ key ∷ [])
    go true e = there e
    go false e = fresh e

key-old : (keys : List ℕ) (key item : ℕ) → has keys item ≡ true → has (insert_key ◌==◌ keys key) item ≡ true
key-old keys key item h =
    key-by (λ ks. has ks item ≡ true) keys key (λ e. h) (λ e. in-left keys (key ∷ []) item h)

key-new : (keys : List ℕ) (key : ℕ) → has (insert_key ◌==◌ keys key) key ≡ true
key-new keys key =
    key-by (λ ks. has ks key ≡ true) keys key (λ e. e) (λ e. in-right keys (key ∷ []) key (in-here key []))

key-only :
    (keys : List ℕ) (key item : ℕ)
    → has (insert_key ◌==◌ keys key) item ≡ true → (has keys item ≡ true) ⊎ (item ≡ key)
key-only keys key item =
    key-by (λ ks. has ks item ≡ true → (has keys item ≡ true) ⊎ (item ≡ key)) keys key (λ e h. inl h)
    (λ e h. elim (in-append keys (key ∷ []) item h) [
      | inl q ↦ inl q
      | inr q ↦ inr (elim (one-of (item == key) false q) [ inl t ↦ eqb-true item key t | inr f ↦ absurd (cc) ])
    ])

key-more : (keys : List ℕ) (key : ℕ) → (more : List ℕ) × (insert_key ◌==◌ keys key ≡ keys ++ more)
key-more keys key =
    key-by (λ ks. (more : List ℕ) × (ks ≡ keys ++ more)) keys key (λ e. ([], sym (append-nil keys)))
    (λ e. (key ∷ [], refl))

single-push :
    (keys : List ℕ) (key : ℕ) → are_distinct keys ≡ true → has keys key ≡ false → are_distinct (keys ++ key ∷ []) ≡ true
single-push [] key single fresh = refl
single-push (x ∷ xs) key single fresh =
    let parts = and_parts (not (has xs x)) (are_distinct xs) single in
    let apart = or_parts (key == x) (has xs key) fresh in
    let other : has (xs ++ key ∷ []) x ≡ false =
    list_any-append (◌==◌ x) xs (key ∷ [])
    ∙ or_from (has xs x) (x == key || false) (not-true (has xs x) parts.0)
    (or_from (x == key) false (sameness-sym x key ∙ apart.0) refl) in
    and_from (not (has (xs ++ key ∷ []) x)) (are_distinct (xs ++ key ∷ [])) (ap not other) (single-push xs key parts.1 apart.1)

key-single : (keys : List ℕ) (key : ℕ) → are_distinct keys ≡ true → are_distinct (insert_key ◌==◌ keys key) ≡ true
key-single keys key single =
    key-by (λ ks. are_distinct ks ≡ true) keys key (λ e. single) (λ e. single-push keys key single e)

-- ---- all keys

pub all-old :
    (keys items : List ℕ) (item : ℕ) → has keys item ≡ true → has (insert_all ◌==◌ keys items) item ≡ true
all-old keys [] item h = h
all-old keys (x ∷ xs) item h = all-old (insert_key ◌==◌ keys x) xs item (key-old keys x item h)

pub all-new :
    (keys items : List ℕ) (item : ℕ) → has items item ≡ true → has (insert_all ◌==◌ keys items) item ≡ true
all-new keys [] item h = absurd (cc)
all-new keys (x ∷ xs) item h =
    elim (one-of (item == x) (has xs item) h) [
      | inl e ↦ all-old (insert_key ◌==◌ keys x) xs item
          (subst (λ z. has (insert_key ◌==◌ keys x) z ≡ true) (sym (eqb-true item x e)) (key-new keys x))
      | inr r ↦ all-new (insert_key ◌==◌ keys x) xs item r
    ]

pub all-only :
    (keys items : List ℕ) (item : ℕ)
    → has (insert_all ◌==◌ keys items) item ≡ true → (has keys item ≡ true) ⊎ (has items item ≡ true)
all-only keys [] item h = inl h
all-only keys (x ∷ xs) item h =
    elim (all-only (insert_key ◌==◌ keys x) xs item h) [
      | inl q ↦ (elim (key-only keys x item q) [
        | inl r ↦ inl r
        | inr e ↦ inr (or_left (item == x) (has xs item) (eq-eqb item x e))
      ])
      | inr q ↦ inr (or_right (item == x) (has xs item) q)
    ]

pub all-more : (keys items : List ℕ) → (more : List ℕ) × (insert_all ◌==◌ keys items ≡ keys ++ more)
all-more keys [] = ([], sym (append-nil keys))
all-more keys (x ∷ xs) =
    let one = key-more keys x in
    let rest = all-more (insert_key ◌==◌ keys x) xs in
    (one.0 ++ rest.0, rest.1 ∙ ap (λ (ks : List ℕ). ks ++ rest.0) one.1 ∙ append_assoc keys one.0 rest.0)

pub all-single :
    (keys items : List ℕ) → are_distinct keys ≡ true → are_distinct (insert_all ◌==◌ keys items) ≡ true
all-single keys [] single = single
all-single keys (x ∷ xs) single = all-single (insert_key ◌==◌ keys x) xs (key-single keys x single)

key-few : (keys : List ℕ) (key : ℕ) → length (insert_key ◌==◌ keys key) ≤ length keys + 1
key-few keys key =
    key-by (λ ks. length ks ≤ length keys + 1) keys key (λ e. omega arith)
    (λ e. omega (arith, length-append keys (key ∷ [])))

pub all-few : (keys items : List ℕ) → length (insert_all ◌==◌ keys items) ≤ length keys + length items
all-few keys [] = omega arith
all-few keys (x ∷ xs) = omega (arith, all-few (insert_key ◌==◌ keys x) xs, key-few keys x)

-- where no item occurs twice, an item of the second list is none of the first
pub single-apart :
    (xs ys : List ℕ) (item : ℕ) → are_distinct (xs ++ ys) ≡ true → has ys item ≡ true → has xs item ≡ false
single-apart [] ys item single behind = refl
single-apart (x ∷ xs) ys item single behind =
    let parts = and_parts (not (has (xs ++ ys) x)) (are_distinct (xs ++ ys)) single in
    or_from (item == x) (has xs item) (other (item == x) refl (not-true (has (xs ++ ys) x) parts.0))
    (single-apart xs ys item parts.1 behind)
  where
    other : (b : Bool) → (item == x) ≡ b → has (xs ++ ys) x ≡ false → (item == x) ≡ false
    other false e none = e
    other true e none =
        let there = in-right xs ys x (subst (λ z. has ys z ≡ true) (eqb-true item x e) behind) in absurd (cc)
