-- A definition in steps, taken apart: each step has given a value. For the laws of lines; `step_taken` is a step.
use Rattle.std.proofs.Common.{◌≡◌, List, [], ◌∷◌, Bool, true, false, Option, Some, None, Result, Ok, Err, IsSomeAnd, refl, ap, subst}
use Rattle.std.specs.List.{AllZip}
use Rattle.std.specs.Option.{ok_or}
use Rattle.serde_json.specs.Data.{Data, Items, no_items, item}
use Rattle.serde_json.specs.View.{items_of}
use Rattle.album_stamps.specs.declared.refusals.Refusal.{Refusal}
use Rattle.album_stamps.specs.Outcome.{◌>>=◌}
use Rattle.album_lines.specs.Fields.{guard, each}
use Rattle.album_lines.specs.Values.{each_of}

pub step_taken : {A B : Type 0} (x : Result A Refusal) (f : A → Result B Refusal) (b : B)
    → (x >>= f) ≡ Ok b
    → (a : A) × (x ≡ Ok a) × (f a ≡ Ok b)
step_taken (Ok a) f b h = (a, refl, h)
step_taken (Err e) f b h = cc

pub same_value : {A : Type 0} (a b : A) → ◌≡◌ {A = Result A Refusal} (Ok a) (Ok b) → a ≡ b
same_value a b h = cc

pub value_there : {A : Type 0} (o : Option A) (e : Refusal) (a : A) → ok_or o e ≡ Ok a → o ≡ Some a
value_there None e a h = cc
value_there (Some x) e a h = cc

pub test_passed : (test b : Bool) → guard test ≡ Ok b → test ≡ true
test_passed true b h = refl
test_passed false b h = cc

-- what holds of a value that is there
pub there : {A : Type 0} (o : Option A) (a : A) (P : A → Type 0) → o ≡ Some a → P a → IsSomeAnd o P
there o a P e h = rw e h

pub taken : {A : Type 0} (o : Option A) (P : A → Type 0) → IsSomeAnd o P → (a : A) × (o ≡ Some a) × P a
taken None P h = absurd h
taken (Some a) P h = (a, refl, h)

-- ---- lists

-- what is read of the items of a JSON list, one by one
pub each_read : {A : Type 0} (read : Data → Result A Refusal) (items : Items) (xs : List A)
    → each read items ≡ Ok xs
    → (ds : List Data) × (items ≡ items_of ds) × AllZip (λ x d. read d ≡ Ok x) xs ds
each_read read no_items [] h = ([], refl, tt)
each_read read no_items (x ∷ xs) h = cc
each_read {A = A} read (item d items) xs h =
    let first = step_taken (read d) (λ x. each read items >>= λ others. Ok (x ∷ others)) xs h in
    let rest = step_taken (each read items) (λ others. Ok (first.0 ∷ others)) xs first.2 in
    let ds = each_read read items rest.0 rest.1 in
    let all : first.0 ∷ rest.0 ≡ xs = cc in
    let P : List A → Type 0 = λ ys. AllZip (λ x e. read e ≡ Ok x) ys (d ∷ ds.0) in
    (d ∷ ds.0, ap (item d) ds.1, subst P all (first.1, ds.2))

pub read_each : {A : Type 0} (read : Data → Result A Refusal) (xs : List A) (ds : List Data)
    → AllZip (λ x d. read d ≡ Ok x) xs ds
    → each read (items_of ds) ≡ Ok xs
read_each read [] [] h = refl
read_each read [] (d ∷ ds) h = absurd h
read_each read (x ∷ xs) [] h = absurd h
read_each read (x ∷ xs) (d ∷ ds) h = rw (h.0, read_each read xs ds h.1) refl

-- what is read of the elements of a list, one by one
pub each_of_read : {A B : Type 0} (read : A → Result B Refusal) (xs : List A) (ys : List B)
    → each_of read xs ≡ Ok ys
    → AllZip (λ y x. read x ≡ Ok y) ys xs
each_of_read read [] [] h = tt
each_of_read read [] (y ∷ ys) h = cc
each_of_read {A = A} {B = B} read (x ∷ xs) ys h =
    let first = step_taken (read x) (λ y. each_of read xs >>= λ others. Ok (y ∷ others)) ys h in
    let rest = step_taken (each_of read xs) (λ others. Ok (first.0 ∷ others)) ys first.2 in
    let all : first.0 ∷ rest.0 ≡ ys = cc in
    let P : List B → Type 0 = λ zs. AllZip (λ y z. read z ≡ Ok y) zs (x ∷ xs) in
    subst P all (first.1, each_of_read read xs rest.0 rest.1)

pub read_each_of : {A B : Type 0} (read : A → Result B Refusal) (xs : List A) (ys : List B)
    → AllZip (λ y x. read x ≡ Ok y) ys xs
    → each_of read xs ≡ Ok ys
read_each_of read [] [] h = refl
read_each_of read [] (y ∷ ys) h = absurd h
read_each_of read (x ∷ xs) [] h = absurd h
read_each_of read (x ∷ xs) (y ∷ ys) h = rw (h.0, read_each_of read xs ys h.1) refl

-- two readings, one after the other
pub zip_through : {A B C : Type 0} (P : A → B → Type 0) (Q : B → C → Type 0) (R : A → C → Type 0)
    → ((x : A) (y : B) (z : C) → P x y → Q y z → R x z)
    → (xs : List A) (ys : List B) (zs : List C) → AllZip P xs ys → AllZip Q ys zs → AllZip R xs zs
zip_through P Q R both [] [] [] g h = tt
zip_through P Q R both [] [] (z ∷ zs) g h = absurd h
zip_through P Q R both [] (y ∷ ys) zs g h = absurd g
zip_through P Q R both (x ∷ xs) [] zs g h = absurd g
zip_through P Q R both (x ∷ xs) (y ∷ ys) [] g h = absurd h
zip_through P Q R both (x ∷ xs) (y ∷ ys) (z ∷ zs) g h = (both x y z g.0 h.0, zip_through P Q R both xs ys zs g.1 h.1)

-- a list between two lists that are paired
pub zip_between : {A B C : Type 0} (P : A → B → Type 0) (Q : B → C → Type 0) (R : A → C → Type 0)
    → ((x : A) (z : C) → R x z → (y : B) × P x y × Q y z)
    → (xs : List A) (zs : List C) → AllZip R xs zs → (ys : List B) × AllZip P xs ys × AllZip Q ys zs
zip_between P Q R parts [] [] h = ([], tt, tt)
zip_between P Q R parts [] (z ∷ zs) h = absurd h
zip_between P Q R parts (x ∷ xs) [] h = absurd h
zip_between P Q R parts (x ∷ xs) (z ∷ zs) h =
    let first = parts x z h.0 in
    let rest = zip_between P Q R parts xs zs h.1 in
    (first.0 ∷ rest.0, (first.1, rest.1), (first.2, rest.2))

pub zip_weaker : {A B : Type 0} (P Q : A → B → Type 0) → ((x : A) (y : B) → P x y → Q x y)
    → (xs : List A) (ys : List B) → AllZip P xs ys → AllZip Q xs ys
zip_weaker P Q so [] [] h = tt
zip_weaker P Q so [] (y ∷ ys) h = absurd h
zip_weaker P Q so (x ∷ xs) [] h = absurd h
zip_weaker P Q so (x ∷ xs) (y ∷ ys) h = (so x y h.0, zip_weaker P Q so xs ys h.1)
