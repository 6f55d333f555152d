-- The elements of a beginning of a list, and of the list. Main lemmas: `prefix_get`, `prefix_back`.
use Rattle.std.proofs.Common.{◌≡◌, ℕ, zero, suc, ◌<◌, List, [], ◌∷◌, length, Some, slice_get, arith}
use mathlib.Core.List.{IsPrefix}

-- an element of the beginning is in the list, at the same index
pub prefix_get : {A : Type 0} (xs ys : List A) (k : ℕ) (x : A) → IsPrefix xs ys → slice_get xs k ≡ Some x
    → slice_get ys k ≡ Some x
prefix_get [] ys k x p h = absurd cc
prefix_get (y ∷ xs) [] k x p h = absurd (cc (p.1))
prefix_get (y ∷ xs) (z ∷ ys) zero x p h = cc (p.1, h)
prefix_get (y ∷ xs) (z ∷ ys) (suc k) x p h = prefix_get xs ys k x (p.0, cc (p.1)) h

-- and an element of the list is in the beginning, at the same index, if the beginning is longer than that
pub prefix_back : {A : Type 0} (xs ys : List A) (k : ℕ) (x : A) → IsPrefix xs ys → slice_get ys k ≡ Some x
    → k < length xs → slice_get xs k ≡ Some x
prefix_back [] ys k x p h l = absurd (omega arith)
prefix_back (y ∷ xs) [] k x p h l = absurd (cc (p.1))
prefix_back (y ∷ xs) (z ∷ ys) zero x p h l = cc (p.1, h)
prefix_back (y ∷ xs) (z ∷ ys) (suc k) x p h l = prefix_back xs ys k x (p.0, cc (p.1)) h (omega arith)
