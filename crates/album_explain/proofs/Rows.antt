-- The rows that a list makes, of its views that pass, for the loop of `bit_rows`: `row_kept` and `row_left_out` are its
-- steps.
use Rattle.std.proofs.Common.{◌≡◌, ◌+◌, ◌<◌, ℕ, suc, List, [], ◌∷◌, ◌++◌, length, drop, get_or, map, filter, Bool, true, false, refl, sym, ap, ◌∙◌, append_assoc, add-one, drop-cons}

abbrev pub made : {A B C : Type 0} → (A → B) → (B → Bool) → (B → C) → List A → List C
made view passes row xs = map row (filter passes (map view xs))

front : {A : Type 0} (xs : List A) (i : ℕ) (x : A) → i < length xs → x ≡ get_or xs i x → drop i xs ≡ x ∷ drop (i + 1) xs
front xs i x within here = rw add-one (drop-cons xs i x within ∙ ap (λ y. y ∷ drop (suc i) xs) (sym here))

made_kept : {A B C : Type 0} (view : A → B) (passes : B → Bool) (row : B → C) (x : A) (xs : List A)
    → passes (view x) ≡ true → made view passes row (x ∷ xs) ≡ row (view x) ∷ made view passes row xs
made_kept view passes row x xs is = rw is refl

made_left_out : {A B C : Type 0} (view : A → B) (passes : B → Bool) (row : B → C) (x : A) (xs : List A)
    → passes (view x) ≡ false → made view passes row (x ∷ xs) ≡ made view passes row xs
made_left_out view passes row x xs is = rw is refl

pub row_kept : {A B C : Type 0} (view : A → B) (passes : B → Bool) (row : B → C)
    → (xs : List A) (i : ℕ) (x : A) (done : List C) (next : C)
    → i < length xs → x ≡ get_or xs i x → passes (view x) ≡ true → next ≡ row (view x)
    → done ++ made view passes row (drop i xs) ≡ made view passes row xs
    → (done ++ next ∷ []) ++ made view passes row (drop (i + 1) xs) ≡ made view passes row xs
row_kept view passes row xs i x done next within here is made_so so =
    let others = made view passes row (drop (i + 1) xs) in
    let all : next ∷ others ≡ made view passes row (drop i xs) =
    ap (λ r. r ∷ others) made_so
    ∙ sym (made_kept view passes row x (drop (i + 1) xs) is)
    ∙ ap (made view passes row) (sym (front xs i x within here)) in
    append_assoc done (next ∷ []) others ∙ ap (λ r. done ++ r) all ∙ so

pub row_left_out : {A B C : Type 0} (view : A → B) (passes : B → Bool) (row : B → C)
    → (xs : List A) (i : ℕ) (x : A) (done : List C)
    → i < length xs → x ≡ get_or xs i x → passes (view x) ≡ false
    → done ++ made view passes row (drop i xs) ≡ made view passes row xs
    → done ++ made view passes row (drop (i + 1) xs) ≡ made view passes row xs
row_left_out view passes row xs i x done within here is so =
    let all : made view passes row (drop (i + 1) xs) ≡ made view passes row (drop i xs) =
    sym (made_left_out view passes row x (drop (i + 1) xs) is)
    ∙ ap (made view passes row) (sym (front xs i x within here)) in
    ap (λ r. done ++ r) all ∙ so
