-- That each list fits what carries it, tested list by list. For `has_fit_lists` of `pairs`: `row_marked` and
-- `row_plain` are the steps of its first loop, `fit_lists` is the result of its second loop.
use Rattle.std.proofs.Common.{◌≡◌, ◌==◌, ◌&&◌, ◌||◌, ◌<◌, ◌≢◌, ◌+◌, ◌*◌, ◌/◌, ◌%◌, ℕ, List, [], ◌∷◌, length, get_or, set, drop, replicate, Bool, true, false, not, Some, None, Decides, refl, sym, ap, ◌∙◌, arith}
use Rattle.std.specs.List.{list_all, list_any}
use Rattle.std.specs.Option.{option_map, option_map_or}
use Rattle.std.proofs.Math.Bool.{or-true, or-false}
use Rattle.std.proofs.lemmas.List.{get_or-set_same, get_or-set_other}
use Rattle.std.proofs.lemmas.Bool.{and_parts, eqb-true}
use Rattle.std.proofs.lemmas.Bool.Decides.{Decides-eqb, same_from_decides}
use Rattle.album_lists.specs.declared.lists.Holder.TheVariants.{Plain, Folder}
use Rattle.album_items.specs.ItemIds.{list, kind_of, number_of}
use Rattle.album_items.specs.Openings.{Row, has_own_value, is_right_row, holder_of, fits_holder, plain_list, suits, has_fit_lists}
use Rattle.album_items.specs.declared.values.Value.{Value}
use Rattle.album_items.specs.declared.values.Value.TheVariants as value
use Rattle.album_items.specs.Values.{is_of, is_there, head_of}
use Rattle.album_items.proofs.Marked.{is_key, clear, right_at, right_parts, low_list, row_from}

-- ---- lists of tests

all_same : {X : Type 0} (f g : X → Bool) → ((x : X) → f x ≡ g x) → (xs : List X) → list_all f xs ≡ list_all g xs
all_same f g same [] = refl
all_same f g same (x ∷ xs) = rw (same x, all_same f g same xs) refl

all_and : {X : Type 0} (f g : X → Bool) (xs : List X) → list_all (λ x. f x && g x) xs ≡ (list_all f xs && list_all g xs)
all_and f g [] = refl
all_and f g (x ∷ xs) = rw (all_and f g xs) (go (f x) (g x) (list_all f xs) (list_all g xs))
  where
    go : (a b c d : Bool) → (a && b && (c && d)) ≡ (a && c && (b && d))
    go true true c d = refl
    go true false true d = refl
    go true false false d = refl
    go false b c d = refl

-- two tests of all pairs change places
all_swap : {X Y : Type 0} (p : X → Y → Bool) (xs : List X) (ys : List Y) → list_all (λ x. list_all (p x) ys) xs ≡ list_all (λ y. list_all (λ x. p x y) xs) ys
all_swap {X} {Y} p [] ys = sym (always ys)
  where
    always : (zs : List Y) → list_all (λ z. true) zs ≡ true
    always [] = refl
    always (z ∷ zs) = always zs
all_swap p (x ∷ xs) ys = rw (all_swap p xs ys) (sym (all_and (p x) (λ y. list_all (λ z. p z y) xs) ys))

all_unless : {X : Type 0} (p : X → Bool) (f : Bool) (xs : List X) → list_all (λ x. not (p x) || f) xs ≡ (not (list_any p xs) || f)
all_unless p f [] = refl
all_unless p f (x ∷ xs) = rw (all_unless p f xs) (go (p x) (list_any p xs) f)
  where
    go : (a b c : Bool) → ((not a || c) && (not b || c)) ≡ (not (a || b) || c)
    go true b true = or-true (not b)
    go true b false = refl
    go false b c = refl

-- ---- one pair of rows

-- the head of a picture or a group of the row names this list
abbrev pub names_plain : ℕ → Row → Bool
names_plain n row = is_key n (plain_list row.1)

-- the row, if its number is marked, fits
abbrev pub is_fit : List Bool → Row → Bool
is_fit plain row = not (get_or plain (number_of row.0) false) || fits_holder Plain row.1

-- a list is the one of a number, where its own number is this
list_with : (item n : ℕ) → kind_of item ≡ 2 → (item == list n) ≡ (n == number_of item)
list_with item n kind = same_from_decides (item == list n) (n == number_of item) (Decides-eqb item (list n)) back
  where
    same : (item ≡ n * 4 + 2) → n ≡ item / 4
    same e = omega (arith, e)

    other : (n ≡ item / 4) → item % 4 ≡ 2 → item ≡ n * 4 + 2
    other e k = omega (arith, e, k)

    back : Decides (n == number_of item) (item ≡ list n)
    back = (λ e. other ((Decides-eqb n (number_of item)).0 e) kind, λ e. (Decides-eqb n (number_of item)).1 (same e))

-- where the first is plain and names a list
suits_plain : (n : ℕ) (b : Row) → has_own_value b ≡ true
    → (not (b.0 == list n) || fits_holder Plain b.1) ≡ (not (n == number_of b.0) || fits_holder Plain b.1)
suits_plain n b own = go b.1 (and_parts (is_there b.1) (is_of b.1 (kind_of b.0)) own).1
  where
    go : (v : Value) → is_of v (kind_of b.0) ≡ true → (not (b.0 == list n) || fits_holder Plain v) ≡ (not (n == number_of b.0) || fits_holder Plain v)
    go value.Missing is = or-true (not (b.0 == list n)) ∙ sym (or-true (not (n == number_of b.0)))
    go (value.Picture p) is = or-true (not (b.0 == list n)) ∙ sym (or-true (not (n == number_of b.0)))
    go (value.Album a) is = or-true (not (b.0 == list n)) ∙ sym (or-true (not (n == number_of b.0)))
    go (value.List l) is = ap (λ (t : Bool). not t || fits_holder Plain (value.List l)) (list_with b.0 n (eqb-true (kind_of b.0) 2 is))
    go (value.Group g) is = or-true (not (b.0 == list n)) ∙ sym (or-true (not (n == number_of b.0)))

-- an album carries every list
suits_folder : (t : Bool) (v : Value) → (not t || fits_holder Folder v) ≡ true
suits_folder t value.Missing = or-true (not t)
suits_folder t (value.Picture p) = or-true (not t)
suits_folder t (value.Album a) = or-true (not t)
suits_folder t (value.List l) = or-true (not t)
suits_folder t (value.Group g) = or-true (not t)

suits_named : (a b : Row) → has_own_value b ≡ true → suits a b ≡ (not (names_plain (number_of b.0) a) || fits_holder Plain b.1)
suits_named a b own = go a.1
  where
    go : (v : Value) → option_map_or (λ head. not (b.0 == list head.list) || fits_holder (holder_of v) b.1) (head_of v) true
        ≡ (not (is_key (number_of b.0) (plain_list v)) || fits_holder Plain b.1)
    go value.Missing = refl
    go (value.Picture p) = suits_plain p.head.list b own
    go (value.Album l) = suits_folder (b.0 == list l.head.list) b.1
    go (value.List l) = refl
    go (value.Group g) = suits_plain g.head.list b own

-- ---- all pairs

pub fit_lists : (plain : List Bool) (rows : List Row)
    → list_all is_right_row rows ≡ true
    → ((n : ℕ) → get_or plain n false ≡ list_any (names_plain n) rows)
    → list_all (is_fit plain) rows ≡ has_fit_lists rows
fit_lists plain rows right marked = go rows right ∙ sym (all_swap suits rows rows)
  where
    one : (b : Row) → is_right_row b ≡ true → is_fit plain b ≡ list_all (λ a. suits a b) rows
    one b is =
        rw (marked (number_of b.0), all_same (λ a. suits a b) (λ a. not (names_plain (number_of b.0) a) || fits_holder Plain b.1) (λ a. suits_named a b (right_parts b is).0) rows)
        (sym (all_unless (names_plain (number_of b.0)) (fits_holder Plain b.1) rows))

    go : (bs : List Row) → list_all is_right_row bs ≡ true → list_all (is_fit plain) bs ≡ list_all (λ b. list_all (λ a. suits a b) rows) bs
    go [] r = refl
    go (b ∷ bs) r =
        let both = and_parts (is_right_row b) (list_all is_right_row bs) r in
        rw (one b both.0, go bs both.1) refl

-- ---- the first loop

-- what is marked, or named by a row that is still to come
abbrev pub is_told : List Bool → List Row → ℕ → Bool
is_told plain rows n = get_or plain n false || list_any (names_plain n) rows

pub none_told : (m : ℕ) (rows : List Row) (n : ℕ) → is_told (replicate m false) rows n ≡ list_any (names_plain n) rows
none_told m rows n = rw (clear m n) refl

pub all_told : (plain : List Bool) (n : ℕ) → is_told plain [] n ≡ get_or plain n false
all_told plain n = or-false (get_or plain n false)

named_list : (v : Value) (k : ℕ) → plain_list v ≡ Some k → option_map (λ head. head.list) (head_of v) ≡ Some k
named_list value.Missing k e = absurd (cc)
named_list (value.Picture p) k e = e
named_list (value.Album a) k e = absurd (cc)
named_list (value.List l) k e = absurd (cc)
named_list (value.Group g) k e = e

pub row_marked : (plain : List Bool) (rows : List Row) (i : ℕ) (row : Row) (k n : ℕ)
    → list_all is_right_row rows ≡ true
    → i < length rows
    → row ≡ get_or rows i row
    → length plain ≡ 65536
    → plain_list row.1 ≡ Some k
    → is_told (set plain k true) (drop (i + 1) rows) n ≡ is_told plain (drop i rows) n
row_marked plain rows i row k n right below is long names =
    let low = low_list row k (right_at rows i row right below is) (named_list row.1 k names) in
    let within : k < length plain = omega (arith, low, long) in
    rw (row_from rows i row below is, names) (go within (k == n) refl)
  where
    go : k < length plain → (b : Bool) → (k == n) ≡ b
        → (get_or (set plain k true) n false || list_any (names_plain n) (drop (i + 1) rows)) ≡ (get_or plain n false || (b || list_any (names_plain n) (drop (i + 1) rows)))
    go within true e =
        let same : n ≡ k = sym ((Decides-eqb k n).0 e) in
        rw (same, get_or-set_same plain k true false within) (sym (or-true (get_or plain k false)))
    go within false e =
        let other : n ≢ k = λ s. let yes' = (Decides-eqb k n).1 (sym s) in absurd (cc) in
        rw (get_or-set_other plain k n true false other) refl

pub row_plain : (plain : List Bool) (rows : List Row) (i : ℕ) (row : Row) (n : ℕ)
    → i < length rows
    → row ≡ get_or rows i row
    → plain_list row.1 ≡ None
    → is_told plain (drop (i + 1) rows) n ≡ is_told plain (drop i rows) n
row_plain plain rows i row n below is names = rw (row_from rows i row below is, names) refl
