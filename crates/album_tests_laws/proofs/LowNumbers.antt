-- The numbers that an opening names are below each stamp that is drawn, for the law of `opening`.
use Rattle.std.proofs.Common.{◌≡◌, ◌<◌, ◌≤◌, ◌+◌, ◌*◌, ℕ, List, [], ◌∷◌, Bool, true, false, ◌&&◌, Contains, Result, Ok, Err, Option, Some, None, refl, ap, subst, arith, cond, nat_lt}
use Rattle.std.specs.List.{list_all}
use Rattle.std.specs.Option.{option_map_or}
use Rattle.std.proofs.lemmas.List.Sums.{AllPass-from_list_all}
use Rattle.std.proofs.lemmas.Bool.{and_parts, leb-true}
use Rattle.album_stamps.specs.Clocks.{ClockState, next_of}
use Rattle.album_stamps.specs.Stamps.{stamp_number}
use Rattle.album_stamps.specs.declared.refusals.Refusal.{Refusal}
use Rattle.album_stamps.specs.declared.refusals.Refusal.TheVariants.{StampsSpent}
use Rattle.album_stamps.specs.declared.limits.TheConstants.{MAX_COUNTER}
use Rattle.album_items.specs.ItemIds.{number_of, album}
use Rattle.album_items.specs.ItemBack.{number_of-item}
use Rattle.album_items.specs.Openings.{Row, is_base_opening, is_low_row, is_low, are_low, has_low_numbers, greatest_number}
use Rattle.album_items.specs.Values.{head_of, home_of, children_of}
use Rattle.album_items.specs.declared.openings.Opening.{Opening}
use Rattle.album_items.specs.declared.values.Head.{Head}
use Rattle.album_items.specs.declared.values.Value.{Value}
use Rattle.album_items.specs.declared.values.Value.TheVariants as value

-- what all of a list pass, each of them passes
pub one-passes : {X : Type 0} (p : X → Bool) (xs : List X) (x : X) → list_all p xs ≡ true → Contains xs x → p x ≡ true
one-passes {X} p xs x h c = subst (λ (z : X). p z ≡ true) c.2 (AllPass-from_list_all p xs h c.0 x c.1)

-- a stamp that is drawn is above the numbers of what an opening may have
abbrev ok-or : Result ℕ Refusal → ℕ → ℕ
ok-or (Ok stamp) other = stamp
ok-or (Err refusal) other = other

drawn-high : (first : ℕ) (clock : ClockState) (stamp : ℕ) → first ≤ clock.counter → next_of clock ≡ Ok stamp
    → greatest_number first < stamp
drawn-high first clock stamp reached e = go (nat_lt clock.counter MAX_COUNTER) e
  where
    go :
        (b : Bool) → cond b (Ok (stamp_number (clock.counter + 1) clock.client)) (Err StampsSpent) ≡ Ok stamp
        → greatest_number first < stamp
    go true same =
        let is : (clock.counter + 1) * 65536 + clock.client ≡ stamp = ap (λ (r : Result ℕ Refusal). ok-or r 0) same in
        omega (arith, is, reached)
    go false same = absurd (cc)

below : (top number stamp : ℕ) → is_low top number ≡ true → top < stamp → number < stamp
below top number stamp low high = omega (arith, leb-true number top low, high)

abbrev head-or : Option Head → Head → Head
head-or None other = other
head-or (Some head) other = head

module _ (opening : Opening) (row : Row) (clock : ClockState) (stamp : ℕ) (opens : is_base_opening opening ≡ true) (here : Contains opening.items row)
    (reached : opening.first ≤ clock.counter) (drawn : next_of clock ≡ Ok stamp) where
  abbrev top : ℕ
  top = greatest_number opening.first

  high : top < stamp
  high = drawn-high opening.first clock stamp reached drawn

  low-row : is_low_row top row ≡ true
  low-row = one-passes (is_low_row top) opening.items row (and_parts _ _ (and_parts _ _ opens).1).1 here

  low-item : is_low top (number_of row.0) ≡ true
  low-item = (and_parts (is_low top (number_of row.0)) (has_low_numbers top row.1) low-row).0

  low-value : has_low_numbers top row.1 ≡ true
  low-value = (and_parts (is_low top (number_of row.0)) (has_low_numbers top row.1) low-row).1

  pub item-below : number_of row.0 < stamp
  item-below = below top (number_of row.0) stamp low-item high

  pub list-below : (head : Head) → head_of row.1 ≡ Some head → head.list < stamp
  list-below head has = below top head.list stamp (go row.1 low-value has) high
    where
      go : (v : Value) → has_low_numbers top v ≡ true → head_of v ≡ Some head → is_low top head.list ≡ true
      go value.Missing low e = absurd (cc)
      go (value.Picture picture) low e =
          subst (λ (h : Head). is_low top h.list ≡ true) (ap (λ (o : Option Head). head-or o head) e)
          (and_parts (is_low top picture.head.list) (is_low top picture.home) low).0
      go (value.Album a) low e =
          subst (λ (h : Head). is_low top h.list ≡ true) (ap (λ (o : Option Head). head-or o head) e)
          (and_parts (is_low top a.head.list) (option_map_or (is_low top) a.home true)
          (and_parts (is_low top a.head.list && option_map_or (is_low top) a.home true) (are_low top a.children) low).0).0
      go (value.List entries) low e = absurd (cc)
      go (value.Group group) low e =
          subst (λ (h : Head). is_low top h.list ≡ true) (ap (λ (o : Option Head). head-or o head) e) low

  pub home-below : (home : ℕ) → Contains (home_of row.1) home → number_of home < stamp
  home-below home has = go row.1 low-value has
    where
      go : (v : Value) → has_low_numbers top v ≡ true → Contains (home_of v) home → number_of home < stamp
      go value.Missing low c = absurd (omega (arith, c.1))
      go (value.Picture picture) low c =
          below top (number_of home) stamp
          (one-passes (λ (h : ℕ). is_low top (number_of h)) (album picture.home ∷ []) home
          (rw (number_of-item 1 picture.home (omega arith)) (rw (and_parts (is_low top picture.head.list) (is_low top picture.home) low).1 refl)) c)
          high
      go (value.Album a) low c = absurd (omega (arith, c.1))
      go (value.List entries) low c = absurd (omega (arith, c.1))
      go (value.Group group) low c = absurd (omega (arith, c.1))

  pub child-below : (child : ℕ) → Contains (children_of row.1) child → number_of child < stamp
  child-below child has = go row.1 low-value has
    where
      go : (v : Value) → has_low_numbers top v ≡ true → Contains (children_of v) child → number_of child < stamp
      go value.Missing low c = absurd (omega (arith, c.1))
      go (value.Picture picture) low c = absurd (omega (arith, c.1))
      go (value.Album a) low c =
          below top (number_of child) stamp
          (one-passes (λ (i : ℕ). is_low top (number_of i)) a.children child
          (and_parts (is_low top a.head.list && option_map_or (is_low top) a.home true) (are_low top a.children) low).1 c)
          high
      go (value.List entries) low c = absurd (omega (arith, c.1))
      go (value.Group group) low c = absurd (omega (arith, c.1))
