-- A write is put in the place of an earlier one of its item (`put-found`) or else last (`put-last`), for `merging::put`.
use Rattle.std.proofs.Common.{◌≡◌, ◌++◌, ◌==◌, ℕ, zero, suc, List, [], ◌∷◌, Bool, true, false, Some, None, set, length, get_or, ◌<◌, ◌+◌, arith, refl, sym, ◌∙◌, ap, cond}
use Rattle.std.specs.List.{position, position_from}
use Rattle.std.proofs.lemmas.List.Quantifiers.{position-Some}
use Rattle.std.proofs.lemmas.Iterator.Adapters.{position_from-zero}
use Rattle.album_permits.specs.Effects.{Write, put}

abbrev pub is_of : ℕ → Write → Bool
is_of item write = write.0 == item

put-at :
    (vs : List Write) (w : Write) (i : ℕ) (d : Write) → i < length vs → is_of w.0 (get_or vs i d) ≡ true
    → ((k : ℕ) → k < i → is_of w.0 (get_or vs k d) ≡ false) → put vs w ≡ set vs i w
put-at [] w i d l t h = absurd (omega (arith, l))
put-at (x ∷ xs) w zero d l t h = rw t refl
put-at (x ∷ xs) w (suc i) d l t h =
    let other : (x.0 == w.0) ≡ false = h 0 (omega arith) in
    rw other (ap (λ (ws : List Write). x ∷ ws)
    (put-at xs w i d (omega (arith, l)) t (λ k m. h (suc k) (omega (arith, m)))))

put-past : (vs : List Write) (w : Write) (i : ℕ) → position_from (is_of w.0) i vs ≡ None → put vs w ≡ vs ++ w ∷ []
put-past [] w i e = refl
put-past (x ∷ xs) w i e = go (x.0 == w.0) refl e (λ f. put-past xs w (i + 1) f)
  where
    go :
        (b : Bool) → (x.0 == w.0) ≡ b → cond b (Some i) (position_from (is_of w.0) (i + 1) xs) ≡ None
        → (position_from (is_of w.0) (i + 1) xs ≡ None → put xs w ≡ xs ++ w ∷ [])
        → put (x ∷ xs) w ≡ x ∷ (xs ++ w ∷ [])
    go true t f rec = absurd (cc)
    go false t f rec = rw t (ap (λ (ws : List Write). x ∷ ws) (rec f))

pub put-last : (vs : List Write) (w : Write) → position (is_of w.0) vs ≡ None → put vs w ≡ vs ++ w ∷ []
put-last vs w e = put-past vs w 0 (sym (position_from-zero (is_of w.0) vs) ∙ e)

pub put-found : (vs : List Write) (w : Write) (i : ℕ) → position (is_of w.0) vs ≡ Some i → put vs w ≡ set vs i w
put-found vs w i e = let p = position-Some (is_of w.0) vs i w e in put-at vs w i w p.0 p.1 p.2
