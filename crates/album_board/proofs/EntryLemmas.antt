-- What one writer has published, as entries are added. `Front::meet` needs `passes_from-prefix`.
use Rattle.std.proofs.Common.{◌≡◌, ℕ, ◌==◌, Bool, true, false, List, [], ◌∷◌, ◌++◌, refl, ap, sym, ◌∙◌}
use mathlib.Core.List.{IsPrefix}
use Rattle.album_board.specs.Entries.{Entry, passes_from, key_after}

pub key_after-append : (key : ℕ) (xs ys : List Entry) → key_after key (xs ++ ys) ≡ key_after (key_after key xs) ys
key_after-append key [] ys = refl
key_after-append key (e ∷ xs) ys = by (e.key == key) refl (λ k. key_after-append k xs ys)
  where
    by : (b : Bool) → (e.key == key) ≡ b → ((k : ℕ) → key_after k (xs ++ ys) ≡ key_after (key_after k xs) ys)
        → key_after key (e ∷ xs ++ ys) ≡ key_after (key_after key (e ∷ xs)) ys
    by true is rest = rw is (rest e.next)
    by false is rest = rw is (rest key)

pub passes_from-append : (key : ℕ) (xs ys : List Entry)
    → passes_from key (xs ++ ys) ≡ passes_from key xs ++ passes_from (key_after key xs) ys
passes_from-append key [] ys = refl
passes_from-append key (e ∷ xs) ys = by (e.key == key) refl (λ k. passes_from-append k xs ys)
  where
    by : (b : Bool) → (e.key == key) ≡ b
        → ((k : ℕ) → passes_from k (xs ++ ys) ≡ passes_from k xs ++ passes_from (key_after k xs) ys)
        → passes_from key (e ∷ xs ++ ys) ≡ passes_from key (e ∷ xs) ++ passes_from (key_after key (e ∷ xs)) ys
    by true is rest = rw is (ap (λ ps. e.pass ∷ ps) (rest e.next))
    by false is rest = rw is (rest key)

-- the passes of a beginning of the entries are a beginning of the passes
pub passes_from-prefix : (key : ℕ) (xs ys : List Entry) → IsPrefix xs ys
    → IsPrefix (passes_from key xs) (passes_from key ys)
passes_from-prefix key xs ys p =
    (passes_from (key_after key xs) p.0, sym (passes_from-append key xs p.0) ∙ ap (passes_from key) p.1)
