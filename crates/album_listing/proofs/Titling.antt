-- The rows that are listed are exactly those that may be shown (`shown-listed`, `listed-shown`), for the law
-- `titles_are_shown_where_granted`.
use Rattle.std.proofs.Common.{◌≡◌, ◌<◌, ◌==◌, ℕ, zero, suc, length, List, [], ◌∷◌, Bool, true, false, Option, Some, None, Contains, option_map, refl, sym, ap, subst, ◌∙◌, arith, if◌then◌else◌}
use Rattle.std.specs.List.{filter_map, cons_option, slice_index_or}
use Rattle.std.specs.Option.{option_map_or}
use Rattle.std.proofs.lemmas.Bool.{eqb-true, eq-eqb}
use Rattle.std.proofs.lemmas.Option.{none-some, same_Some}
use Rattle.album_items.specs.ItemIds.{number_of}
use Rattle.album_items.specs.Values.{children_of}
use Rattle.album_items.specs.declared.values.Value.{Value}
use Rattle.album_items.specs.declared.values.Value.TheVariants as value
use Rattle.album_listing.specs.Basis.{Basis}
use Rattle.album_listing.specs.Listing.{title_in, row_for, listed}
use Rattle.album_listing.specs.Masks.{READ_ATTRIBUTES}
use Rattle.album_listing.specs.Reasons.{is_granted_on}
use Rattle.album_listing.specs.Showing.{IsTitledIn, MayBeShown}
use Rattle.album_listing.specs.declared.rows.Row.{Row}

-- ---- the rows that are made of a list of items

-- the item that the row was made of
abbrev MadeOf : (ℕ → Option Row) → List ℕ → Row → Type 0
MadeOf f xs row = (x : ℕ) × Contains xs x × (f x ≡ Some row)

later : (f : ℕ → Option Row) (x : ℕ) (xs : List ℕ) (row : Row) → MadeOf f xs row → MadeOf f (x ∷ xs) row
later f x xs row made =
    let c = made.1 in (made.0, (suc c.0, omega (arith, c.1), c.2), made.2)

made-of : (f : ℕ → Option Row) (xs : List ℕ) (row : Row) → Contains (filter_map f xs) row → MadeOf f xs row
made-of f [] row c = absurd (omega (arith, c.1))
made-of f (x ∷ xs) row c = go (f x) refl (made-of f xs row) c
  where
    at :
        (r : Row) → f x ≡ Some r → (Contains (filter_map f xs) row → MadeOf f xs row) → (k : ℕ)
        → k < suc (length (filter_map f xs)) → slice_index_or (r ∷ filter_map f xs) k row ≡ row
        → MadeOf f (x ∷ xs) row
    at r e rest zero below same = (x, (0, omega arith, refl), e ∙ ap Some same)
    at r e rest (suc k) below same = later f x xs row (rest (k, omega (arith, below), same))

    go :
        (o : Option Row) → f x ≡ o → (Contains (filter_map f xs) row → MadeOf f xs row)
        → Contains (cons_option o (filter_map f xs)) row → MadeOf f (x ∷ xs) row
    go None e rest d = later f x xs row (rest d)
    go (Some r) e rest d = at r e rest d.0 d.1 d.2

among : (f : ℕ → Option Row) (xs : List ℕ) (x : ℕ) (row : Row) → Contains xs x → f x ≡ Some row → Contains (filter_map f xs) row
among f [] x row c e = absurd (omega (arith, c.1))
among f (y ∷ xs) x row c e = go c.0 c.1 c.2 (λ d. among f xs x row d e)
  where
    behind : (o : Option Row) → Contains (filter_map f xs) row → Contains (cons_option o (filter_map f xs)) row
    behind None d = d
    behind (Some r) d = (suc d.0, omega (arith, d.1), d.2)

    go :
        (k : ℕ) → k < suc (length xs) → slice_index_or (y ∷ xs) k x ≡ x
        → (Contains xs x → Contains (filter_map f xs) row) → Contains (cons_option (f y) (filter_map f xs)) row
    go zero below same rest =
        let here : f y ≡ Some row = ap f same ∙ e in
        subst (λ (o : Option Row). Contains (cons_option o (filter_map f xs)) row) (sym here) (0, omega arith, refl)
    go (suc k) below same rest = behind (f y) (rest (k, omega (arith, below), same))

-- ---- titles

titled-in : (home : ℕ) (v : Value) (title : List ℕ) → title_in home v ≡ Some title → IsTitledIn home title v
titled-in home value.Missing title e = absurd (none-some title e)
titled-in home (value.Picture x) title e = go (x.home == home) refl e
  where
    go :
        (b : Bool) → (x.home == home) ≡ b → (if b then Some x.title else None) ≡ Some title
        → (x.home ≡ home) × (x.title ≡ title)
    go true same e = (eqb-true x.home home same, same_Some x.title title e)
    go false same e = absurd (none-some title e)
titled-in home (value.Album x) title e = go x.home e
  where
    found :
        (number : ℕ) (b : Bool) → (number == home) ≡ b → (if b then Some x.title else None) ≡ Some title
        → (Some number ≡ Some home) × (x.title ≡ title)
    found number true same e = (ap Some (eqb-true number home same), same_Some x.title title e)
    found number false same e = absurd (none-some title e)

    go :
        (o : Option ℕ) → (if option_map_or (λ number. number == home) o false then Some x.title else None) ≡ Some title
        → (o ≡ Some home) × (x.title ≡ title)
    go None e = absurd (none-some title e)
    go (Some number) e = found number (number == home) refl e
titled-in home (value.List x) title e = absurd (none-some title e)
titled-in home (value.Group x) title e = absurd (none-some title e)

in-titled : (home : ℕ) (v : Value) (title : List ℕ) → IsTitledIn home title v → title_in home v ≡ Some title
in-titled home value.Missing title t = absurd t
in-titled home (value.Picture x) title t = rw (eq-eqb x.home home t.0) (ap Some t.1)
in-titled home (value.Album x) title t = rw (t.0, eq-eqb home home refl) (ap Some t.1)
in-titled home (value.List x) title t = absurd t
in-titled home (value.Group x) title t = absurd t

-- ---- the row of one child

row-shown :
    (basis : Basis) (album child : ℕ) (row : Row) → Contains (children_of (basis.seen album)) child
    → row_for basis album child ≡ Some row → MayBeShown basis album row
row-shown basis album child row here e =
    go (is_granted_on basis child READ_ATTRIBUTES) refl (title_in (number_of album) (basis.seen child)) refl e
  where
    go :
        (b : Bool) → is_granted_on basis child READ_ATTRIBUTES ≡ b
        → (o : Option (List ℕ)) → title_in (number_of album) (basis.seen child) ≡ o
        → option_map (λ title. record { item = child; title = title }) (if b then o else None) ≡ Some row
        → MayBeShown basis album row
    go true g None t e = absurd (none-some row e)
    go true g (Some title) t e =
        let same : record { item = child; title = title } ≡ row = same_Some _ row e in
        subst (λ (r : Row). MayBeShown basis album r) same
        (record { child = here; granted = g; titled = titled-in (number_of album) (basis.seen child) title t })
    go false g o t e = absurd (none-some row e)

pub shown-listed : (basis : Basis) (album : ℕ) (row : Row) → Contains (listed basis album) row → MayBeShown basis album row
shown-listed basis album row c =
    let made = made-of (row_for basis album) (children_of (basis.seen album)) row c in
    row-shown basis album made.0 row made.1 made.2

pub listed-shown : (basis : Basis) (album : ℕ) (row : Row) → MayBeShown basis album row → Contains (listed basis album) row
listed-shown basis album row may =
    among (row_for basis album) (children_of (basis.seen album)) row.item row may.child
    (ap
    (λ (b : Bool). option_map (λ title. record { item = row.item; title = title })
    (if b then title_in (number_of album) (basis.seen row.item) else None))
    may.granted
    ∙ ap (option_map (λ title. record { item = row.item; title = title }))
    (in-titled (number_of album) (basis.seen row.item) row.title may.titled))
