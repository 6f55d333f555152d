-- What is true of each element of a list, and what is among what is kept, for `NoteVerdicts` and `Granting`.
use Rattle.std.proofs.Common.{◌≡◌, ◌<◌, ◌++◌, ◌==◌, ℕ, zero, suc, length, List, [], ◌∷◌, Bool, true, false, Contains, map, filter, fold, take, refl, ap, subst, sym, ◌∙◌, arith, if◌then◌else◌, cond}
use Rattle.std.specs.List.{slice_index_or}
use Rattle.album_items.specs.declared.values.Value.{Value}
use Rattle.album_permits.specs.Effects.{Write, put}

-- ---- each

-- a fact of each element
abbrev pub Each : {X : Type 0} → (X → Type 0) → List X → Type 0
Each P [] = Unit {0}
Each P (x ∷ xs) = P x × Each P xs

pub each-append : {X : Type 0} (P : X → Type 0) (xs ys : List X) → Each P xs → Each P ys → Each P (xs ++ ys)
each-append P [] ys h l = l
each-append P (x ∷ xs) ys h l = (h.0, each-append P xs ys h.1 l)

pub each-take : {X : Type 0} (P : X → Type 0) (n : ℕ) (xs : List X) → Each P xs → Each P (take n xs)
each-take P zero xs h = tt
each-take P (suc n) [] h = tt
each-take P (suc n) (x ∷ xs) h = (h.0, each-take P n xs h.1)

pub each-one : {X : Type 0} (P : X → Type 0) (xs : List X) (x : X) → Each P xs → Contains xs x → P x
each-one P [] x h c = absurd (omega (arith, c.1))
each-one {X} P (y ∷ xs) x h c = go c.0 c.1 c.2 (λ d. each-one P xs x h.1 d)
  where
    go : (k : ℕ) → k < suc (length xs) → slice_index_or (y ∷ xs) k x ≡ x → (Contains xs x → P x) → P x
    go zero below same rest = subst P same h.0
    go (suc k) below same rest = rest (k, omega (arith, below), same)

pub first : {X : Type 0} (x : X) (xs : List X) → Contains (x ∷ xs) x
first x xs = (0, omega arith, refl)

pub behind : {X : Type 0} (y : X) (xs : List X) (x : X) → Contains xs x → Contains (y ∷ xs) x
behind y xs x c = (suc c.0, omega (arith, c.1), c.2)

-- ---- writes

-- items, each with a value
pub each-mapped :
    (P : Write → Type 0) (f : ℕ → Value) (items : List ℕ) → ((item : ℕ) → Contains items item → P (item, f item))
    → Each P (map (λ item. (item, f item)) items)
each-mapped P f [] all = tt
each-mapped P f (item ∷ items) all =
    (all item (first item items), each-mapped P f items (λ x c. all x (behind item items x c)))

each-put : (P : Write → Type 0) (ws : List Write) (w : Write) → Each P ws → P w → Each P (put ws w)
each-put P [] w h here = (here, tt)
each-put P (e ∷ ws) w h here = go (e.0 == w.0) (each-put P ws w h.1 here)
  where
    go : (b : Bool) → Each P (put ws w) → Each P (if b then w ∷ ws else e ∷ put ws w)
    go true rest = (here, h.1)
    go false rest = (h.0, rest)

-- what is true of each write is true of each that is merged
pub each-fold : (P : Write → Type 0) (so_far ws : List Write) → Each P so_far → Each P ws → Each P (fold put so_far ws)
each-fold P so_far [] h l = h
each-fold P so_far (w ∷ ws) h l = each-fold P (put so_far w) ws (each-put P so_far w h l.0) l.1

-- ---- what a filter keeps

pub kept-was : (p : ℕ → Bool) (xs : List ℕ) (x : ℕ) → Contains (filter p xs) x → Contains xs x
kept-was p [] x c = absurd (omega (arith, c.1))
kept-was p (y ∷ xs) x c = go (p y) c (kept-was p xs x)
  where
    at :
        (k : ℕ) → k < suc (length (filter p xs)) → slice_index_or (y ∷ filter p xs) k x ≡ x
        → (Contains (filter p xs) x → Contains xs x) → Contains (y ∷ xs) x
    at zero below same rest = (0, omega arith, same)
    at (suc k) below same rest = behind y xs x (rest (k, omega (arith, below), same))

    go :
        (b : Bool) → Contains (cond b (y ∷ filter p xs) (filter p xs)) x → (Contains (filter p xs) x → Contains xs x)
        → Contains (y ∷ xs) x
    go true d rest = at d.0 d.1 d.2 rest
    go false d rest = behind y xs x (rest d)

pub was-kept : (p : ℕ → Bool) (xs : List ℕ) (x : ℕ) → p x ≡ true → Contains xs x → Contains (filter p xs) x
was-kept p [] x e c = absurd (omega (arith, c.1))
was-kept p (y ∷ xs) x e c = go c.0 c.1 c.2 (was-kept p xs x e)
  where
    more : (b : Bool) → Contains (filter p xs) x → Contains (cond b (y ∷ filter p xs) (filter p xs)) x
    more true d = behind y (filter p xs) x d
    more false d = d

    go :
        (k : ℕ) → k < suc (length xs) → slice_index_or (y ∷ xs) k x ≡ x → (Contains xs x → Contains (filter p xs) x)
        → Contains (cond (p y) (y ∷ filter p xs) (filter p xs)) x
    go zero below same rest =
        subst (λ (b : Bool). Contains (cond b (y ∷ filter p xs) (filter p xs)) x) (sym (ap p same ∙ e))
        (0, omega arith, same)
    go (suc k) below same rest = more (p y) (rest (k, omega (arith, below), same))
