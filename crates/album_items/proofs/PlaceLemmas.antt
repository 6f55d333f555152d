-- The partitions that pass a test, one partition more: `places_of` and `others_of` need `filter_range_then` and `_else`.
use Rattle.std.proofs.Common.{◌≡◌, ℕ, zero, suc, ◌+◌, Bool, true, false, List, [], ◌∷◌, ◌++◌, filter, refl, sym, ap, ◌∙◌, arith, add-one}
use Rattle.std.specs.List.{range_with_len}
use Rattle.std.proofs.lemmas.List.{append-nil}
use Rattle.std.proofs.lemmas.List.Elements.{filter-append}

same_sum : (a n : ℕ) → a + 1 + n ≡ a + suc n
same_sum a n = omega arith

range-more : (a n : ℕ) → range_with_len a (suc n) ≡ range_with_len a n ++ (a + n) ∷ []
range-more a zero = ap (λ (m : ℕ). m ∷ []) (sym (plus_zero a))
  where
    plus_zero : (a : ℕ) → a + 0 ≡ a
    plus_zero a = omega arith
range-more a (suc n) =
    ap (λ (ms : List ℕ). a ∷ ms)
    (range-more (a + 1) n ∙ ap (λ (m : ℕ). range_with_len (a + 1) n ++ m ∷ []) (same_sum a n))

zero_plus : (n : ℕ) → 0 + n ≡ n
zero_plus n = omega arith

filter_range-more :
    (p : ℕ → Bool) (n : ℕ)
    → filter p (range_with_len 0 (n + 1)) ≡ filter p (range_with_len 0 n) ++ filter p (n ∷ [])
filter_range-more p n =
    ap (λ (m : ℕ). filter p (range_with_len 0 m)) (add-one n)
    ∙ ap (filter p) (range-more 0 n)
    ∙ filter-append p (range_with_len 0 n) ((0 + n) ∷ [])
    ∙ ap (λ (m : ℕ). filter p (range_with_len 0 n) ++ filter p (m ∷ [])) (zero_plus n)

pub filter_range_then :
    (p : ℕ → Bool) (n : ℕ) (others : List ℕ)
    → others ≡ filter p (range_with_len 0 n) → p n ≡ true
    → others ++ n ∷ [] ≡ filter p (range_with_len 0 (n + 1))
filter_range_then p n others e h = rw (e, filter_range-more p n, h) refl

pub filter_range_else :
    (p : ℕ → Bool) (n : ℕ) (others : List ℕ)
    → others ≡ filter p (range_with_len 0 n) → p n ≡ false
    → others ≡ filter p (range_with_len 0 (n + 1))
filter_range_else p n others e h = rw (e, filter_range-more p n, h) (sym (append-nil (filter p (range_with_len 0 n))))
