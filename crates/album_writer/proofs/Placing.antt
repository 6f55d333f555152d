-- Where writes go, for the law `writes_go_to_their_places`; `begin` needs `some-place`, and
-- `Preparing::count` `few_places`.
use Rattle.std.proofs.Common.{◌≡◌, ◌≢◌, ◌↔◌, ℕ, zero, suc, ◌+◌, ◌<◌, ◌≤◌, Bool, true, false, cond, List, [], ◌∷◌, filter, get_or, length, Contains, AllPairs, refl, sym, ap, ◌∙◌, subst, arith, mod-lt, true≢false}
use Rattle.std.specs.List.{range_with_len}
use Rattle.std.proofs.lemmas.Bool.{eqb-true, eq-eqb}
use Rattle.std.proofs.lemmas.List.Elements.{at_from_Contains}
use Rattle.std.proofs.lemmas.List.Folds.{Any-from_list_any, list_any_at}
use Rattle.std.proofs.lemmas.List.FromFn.{length-range_with_len, get_or-range_with_len}
use Rattle.std.proofs.lemmas.List.Kept.{AllPairs-filter}
use Rattle.album_stamps.specs.declared.limits.TheConstants.{MAX_PARTS}
use Rattle.album_items.specs.ItemIds.{place_of, number_of, kind_of}
use Rattle.album_items.specs.Openings.{Row}
use Rattle.album_items.specs.Places.{is_placed, lies_at, places_of, rows_placed_at}
use Rattle.album_items.specs.Transactions.{are_items}

-- ---- what a filter keeps

module _ {X : Type 0} (p : X → Bool) where
  first : (x k : X) (xs : List X) → k ≡ x → Contains (k ∷ xs) x
  first x k xs same = (0, omega arith, same)

  behind : (x k : X) (xs : List X) → Contains xs x → Contains (k ∷ xs) x
  behind x k xs there = (suc there.0, omega (arith, there.1), there.2)

  pub filter-has : (xs : List X) (x : X) → Contains xs x → p x ≡ true → Contains (filter p xs) x
  filter-has [] x there e = absurd (omega (arith, there.1))
  filter-has (k ∷ xs) x there e = go (p k) refl there.0 there.1 there.2 (λ c. filter-has xs x c e)
    where
      go :
          (b : Bool) → p k ≡ b → (i : ℕ) → i < length (k ∷ xs) → get_or (k ∷ xs) i x ≡ x
          → (Contains xs x → Contains (filter p xs) x)
          → Contains (cond b (k ∷ filter p xs) (filter p xs)) x
      go true f zero l same rec = first x k (filter p xs) same
      go true f (suc i) l same rec = behind x k (filter p xs) (rec (i, omega (arith, l), same))
      go false f zero l same rec = absurd (true≢false (sym e ∙ ap p (sym same) ∙ f))
      go false f (suc i) l same rec = rec (i, omega (arith, l), same)

  pub filter-among : (xs : List X) (x : X) → Contains (filter p xs) x → Contains xs x × (p x ≡ true)
  filter-among [] x there = absurd (omega (arith, there.1))
  filter-among (k ∷ xs) x there = go (p k) refl there (filter-among xs x)
    where
      later : Contains xs x × (p x ≡ true) → Contains (k ∷ xs) x × (p x ≡ true)
      later both = (behind x k xs both.0, both.1)

      at :
          p k ≡ true → (i : ℕ) → i < length (k ∷ filter p xs) → get_or (k ∷ filter p xs) i x ≡ x
          → (Contains (filter p xs) x → Contains xs x × (p x ≡ true)) → Contains (k ∷ xs) x × (p x ≡ true)
      at f zero l same rec = (first x k xs same, ap p (sym same) ∙ f)
      at f (suc i) l same rec = later (rec (i, omega (arith, l), same))

      go :
          (b : Bool) → p k ≡ b → Contains (cond b (k ∷ filter p xs) (filter p xs)) x
          → (Contains (filter p xs) x → Contains xs x × (p x ≡ true)) → Contains (k ∷ xs) x × (p x ≡ true)
      go true f c rec = at f c.0 c.1 c.2 rec
      go false f c rec = later (rec c)

-- ---- the participants

zero_plus : (n : ℕ) → 0 + n ≡ n
zero_plus n = omega arith

range-rises : (a n : ℕ) → AllPairs (λ s t. s < t) (range_with_len a n)
range-rises a n i j d l inside =
    let below : j < n = subst (λ (k : ℕ). j < k) (length-range_with_len a n) inside in
    omega (arith, l, get_or-range_with_len a n i d (omega (arith, l, below)), get_or-range_with_len a n j d below)

pub places-rise : (parts : ℕ) (items : List ℕ) → AllPairs (λ a b. a < b) (places_of parts items)
places-rise parts items =
    AllPairs-filter (λ a b. a < b) (λ part. lies_at part parts items) (range_with_len 0 parts) (range-rises 0 parts)

few-filter : {X : Type 0} (p : X → Bool) → (xs : List X) → length (filter p xs) ≤ length xs
few-filter p [] = omega arith
few-filter p (x ∷ xs) = go (p x) (few-filter p xs)
  where
    go :
        (b : Bool) → length (filter p xs) ≤ length xs
        → length (cond b (x ∷ filter p xs) (filter p xs)) ≤ length (x ∷ xs)
    go true few = omega (arith, few)
    go false few = omega (arith, few)

-- no more than there are
pub few_places :
    (parts : ℕ) (items : List ℕ) → parts ≤ MAX_PARTS → length (places_of parts items) ≤ MAX_PARTS
few_places parts items few =
    let kept = few-filter (λ part. lies_at part parts items) (range_with_len 0 parts) in
    omega (arith, kept, length-range_with_len 0 parts)

pub participant :
    (parts place : ℕ) (items : List ℕ) → 1 ≤ parts
    → Contains (places_of parts items) place ↔ ((item : ℕ) × Contains items item × (place_of parts item ≡ place))
participant parts place items low = (to, from)
  where
    to : Contains (places_of parts items) place → (item : ℕ) × Contains items item × (place_of parts item ≡ place)
    to there =
        let lies = (filter-among (λ part. lies_at part parts items) (range_with_len 0 parts) place there).1 in
        let (at, item, inside, here, same) = Any-from_list_any (is_placed place parts) items lies in
        (item, (at, inside, here), eqb-true (place_of parts item) place same)

    from : (item : ℕ) × Contains items item × (place_of parts item ≡ place) → Contains (places_of parts items) place
    from (item, there, same) =
        let (at, inside, here) = at_from_Contains items item there in
        let below : place < parts =
        subst (λ (k : ℕ). k < parts) same (mod-lt (number_of item + kind_of item) low)
        in
        let within : place < length (range_with_len 0 parts) =
        subst (λ (k : ℕ). place < k) (sym (length-range_with_len 0 parts)) below
        in
        filter-has (λ part. lies_at part parts items) (range_with_len 0 parts) place
        (place, within, get_or-range_with_len 0 parts place place below ∙ zero_plus place)
        (list_any_at (is_placed place parts) items at 0 inside
        (eq-eqb (place_of parts (get_or items at 0)) place (ap (place_of parts) (here 0) ∙ same)))

pub placed :
    (parts place : ℕ) (writes : List Row) (write : Row)
    → Contains (rows_placed_at place parts writes) write
    ↔ (Contains writes write × (place_of parts write.0 ≡ place))
placed parts place writes write = (
  λ there.
      let both = filter-among (λ (row : Row). is_placed place parts row.0) writes write there in
      (both.0, eqb-true (place_of parts write.0) place both.1),
  λ both.
      filter-has (λ (row : Row). is_placed place parts row.0) writes write both.0
      (eq-eqb (place_of parts write.0) place both.1),
)

-- some partition is a participant
pub some-place :
    (parts : ℕ) (items : List ℕ) → 1 ≤ parts → are_items items ≡ true → places_of parts items ≢ []
some-place parts [] low some = absurd (true≢false (sym some))
some-place parts (item ∷ items) low some =
    λ none.
    let there =
    (participant parts (place_of parts item) (item ∷ items) low).1
    (item, (0, omega arith, refl), refl)
    in
    let there_too = subst (λ (z : List ℕ). Contains z (place_of parts item)) none there in
    absurd (omega (arith, there_too.1))
