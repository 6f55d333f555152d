-- An item's index in a snapshot is that of its answer, for `Snapshot::at` (`read-at`, `read-absent`), and distinct
-- items are the set of themselves, for `Round::snapshot` (`insert_all-single`).
use Rattle.std.proofs.Common.{◌≡◌, ◌<◌, ◌≤◌, ℕ, suc, ◌+◌, Bool, true, false, not, ◌==◌, cond, List, [], ◌∷◌, ◌++◌, length, Option, Some, None, get_or, find, position, nat_lt, if◌then◌else◌, refl, sym, ap, ◌∙◌, arith}
use Rattle.std.specs.List.{position_or_len, slice_get, list_any}
use Rattle.std.proofs.lemmas.Bool.{and_parts, or_parts, or_from, not-true, eqb-true, eqb-false, ltb-false}
use Rattle.std.proofs.lemmas.List.{append_assoc, append-nil}
use Rattle.std.proofs.lemmas.List.Folds.{find_at, list_any-append}
use Rattle.std.proofs.lemmas.List.Quantifiers.{position-Some}
use Rattle.std.proofs.lemmas.Option.{slice_get-get_or, slice_get_past}
use Rattle.indexmap.specs.IndexSet.{insert_all}
use Rattle.album_stamps.specs.Distinct.{are_distinct}
use Rattle.album_reader.specs.Answers.{ReadVersion}
use Rattle.album_reader.specs.Snapshots.{items_read}

-- ---- by index

-- numbers are the same from both sides
pub sameness-sym : (a b : ℕ) → (a == b) ≡ (b == a)
sameness-sym a b = go (a == b) refl (b == a) refl
  where
    go : (p : Bool) → (a == b) ≡ p → (q : Bool) → (b == a) ≡ q → (a == b) ≡ (b == a)
    go true e true f = e ∙ sym f
    go false e false f = e ∙ sym f
    go true e false f = absurd (eqb-false b a f (sym (eqb-true a b e)))
    go false e true f = absurd (eqb-false a b e (sym (eqb-true b a f)))

position_or_len-items :
    (item : ℕ) (answers : List ReadVersion)
    → position_or_len (λ other. item == other) (items_read answers)
    ≡ position_or_len (λ (answer : ReadVersion). answer.item == item) answers
position_or_len-items item [] = refl
position_or_len-items item (answer ∷ answers) =
    let rest = position_or_len-items item answers in
    ap (λ b. cond (not b) (1 + position_or_len (λ other. item == other) (items_read answers)) 0)
    (sameness-sym item answer.item)
    ∙ ap (λ n. cond (not (answer.item == item)) (1 + n) 0) rest

-- as many items were read as there are answers
pub length-items : (answers : List ReadVersion) → length (items_read answers) ≡ length answers
length-items [] = refl
length-items (answer ∷ answers) = ap suc (length-items answers)

-- the answer of the item is at the item's index
pub read-at :
    (item : ℕ) (answers : List ReadVersion) (i : ℕ) (d : ReadVersion)
    → position (λ other. item == other) (items_read answers) ≡ Some i
    → find (λ (answer : ReadVersion). answer.item == item) answers ≡ Some (get_or answers i d)
read-at item answers i d e =
    let test : ℕ → Bool = λ other. item == other in
    let within : i < length answers = omega (arith, (position-Some test (items_read answers) i 0 e).0, length-items answers) in
    let at : position_or_len test (items_read answers) ≡ i = index_is test (items_read answers) i e in
    find_at (λ (answer : ReadVersion). answer.item == item) answers
    ∙ ap (slice_get answers) (sym (position_or_len-items item answers) ∙ at)
    ∙ slice_get-get_or answers i d within
  where
    some_is : (b : Bool) (n i : ℕ) → cond b (Some n) None ≡ Some i → n ≡ i
    some_is true n i e = ap (λ o. option_else o) e
      where
        option_else : Option ℕ → ℕ
        option_else None = 0
        option_else (Some k) = k
    some_is false n i e = absurd (cc)

    index_is : (test : ℕ → Bool) (keys : List ℕ) (i : ℕ) → position test keys ≡ Some i → position_or_len test keys ≡ i
    index_is test keys i e = some_is (nat_lt (position_or_len test keys) (length keys)) (position_or_len test keys) i e

-- an item without an index has no answer
pub read-absent :
    (item : ℕ) (answers : List ReadVersion)
    → position (λ other. item == other) (items_read answers) ≡ None
    → find (λ (answer : ReadVersion). answer.item == item) answers ≡ None
read-absent item answers e =
    let test : ℕ → Bool = λ other. item == other in
    let past : length answers ≤ position_or_len test (items_read answers) =
    omega (arith, length-items answers, past_end (nat_lt (position_or_len test (items_read answers)) (length (items_read answers))) test refl e) in
    find_at (λ (answer : ReadVersion). answer.item == item) answers
    ∙ ap (slice_get answers) (sym (position_or_len-items item answers))
    ∙ slice_get_past answers (position_or_len test (items_read answers)) past
  where
    past_end :
        (b : Bool) (test : ℕ → Bool)
        → nat_lt (position_or_len test (items_read answers)) (length (items_read answers)) ≡ b
        → cond b (Some (position_or_len test (items_read answers))) None ≡ None
        → length (items_read answers) ≤ position_or_len test (items_read answers)
    past_end true test f e = absurd (cc)
    past_end false test f e = ltb-false _ _ f

-- ---- the items as a set

-- none of the items is among the keys
abbrev AreNew : List ℕ → List ℕ → Type 0
AreNew keys items = list_any (λ item. list_any (λ key. item == key) keys) items ≡ false

-- items that are new are still new once another item is put after the keys
still-new :
    (keys : List ℕ) (item : ℕ) (items : List ℕ)
    → AreNew keys items → list_any (λ other. item == other) items ≡ false → AreNew (keys ++ item ∷ []) items
still-new keys item [] new other = refl
still-new keys item (next ∷ items) new other =
    let old = (or_parts (list_any (λ key. next == key) keys) _ new).0 in
    let last = sameness-sym next item ∙ (or_parts (item == next) _ other).0 in
    or_from _ _
    (list_any-append (λ key. next == key) keys (item ∷ []) ∙ or_from _ _ old (or_from _ _ last refl))
    (still-new keys item items (or_parts (list_any (λ key. next == key) keys) _ new).1 (or_parts (item == next) _ other).1)

all-new : (items : List ℕ) → AreNew [] items
all-new [] = refl
all-new (item ∷ items) = all-new items

insert_all-new :
    (keys items : List ℕ) → AreNew keys items → are_distinct items ≡ true → insert_all ◌==◌ keys items ≡ keys ++ items
insert_all-new keys [] new single = sym (append-nil keys)
insert_all-new keys (item ∷ items) new single =
    let parts = and_parts _ _ single in
    let absent = (or_parts (list_any (λ key. item == key) keys) _ new).0 in
    let rest = (or_parts (list_any (λ key. item == key) keys) _ new).1 in
    ap (λ b. insert_all ◌==◌ (if b then keys else keys ++ item ∷ []) items) absent
    ∙ insert_all-new (keys ++ item ∷ []) items (still-new keys item items rest (not-true _ parts.0)) parts.1
    ∙ append_assoc keys (item ∷ []) items

-- distinct items are the keys of the set of them
pub insert_all-single : (items : List ℕ) → are_distinct items ≡ true → insert_all ◌==◌ [] items ≡ items
insert_all-single items single = insert_all-new [] items (all-new items) single
