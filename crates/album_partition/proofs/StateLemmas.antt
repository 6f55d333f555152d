-- The state of each stamp, and the mark that prepared it, as one mark more is made.
use Rattle.std.proofs.Common.{◌≡◌, ℕ, Bool, true, false, ◌==◌, ◌||◌, cond, List, [], ◌∷◌, ◌++◌, Option, Some, None, refl, ap, ◌∙◌}
use Rattle.std.specs.List.{list_any, find}
use Rattle.std.specs.Option.{option_or}
use Rattle.std.proofs.lemmas.List.Folds.{list_any-append, find-append}
use Rattle.std.proofs.lemmas.Bool.Decides.{Decides-eqb}
use Rattle.std.proofs.Math.Bool.{or-false}
use Rattle.album_terminate.specs.declared.deciding.StampState.{StampState}
use Rattle.album_terminate.specs.declared.deciding.StampState.TheVariants as state
use Rattle.album_items.specs.Openings.{Row}
use Rattle.album_partition.specs.declared.marks.Mark.{Mark}
use Rattle.album_partition.specs.declared.marks.Mark.TheVariants.{Prepared, Committed, Discarded, Trimmed}
use Rattle.album_partition.specs.Marks.{mark_stamp, is_mark_of, prepares, commits, discards, state_by, state_of, is_unknown, is_pending}

pub same_stamp : (t : ℕ) → (t == t) ≡ true
same_stamp t = (Decides-eqb t t).1 refl

-- one element more
pub any_push : {X : Type 0} (f : X → Bool) (xs : List X) (x : X) → list_any f (xs ++ x ∷ []) ≡ list_any f xs || f x
any_push f xs x = list_any-append f xs (x ∷ []) ∙ ap (λ b. list_any f xs || b) (or-false (f x))

-- one that doesn't pass
pub any_push_no : {X : Type 0} (f : X → Bool) (xs : List X) (x : X) → f x ≡ false → list_any f (xs ++ x ∷ []) ≡ list_any f xs
any_push_no f xs x apart = any_push f xs x ∙ ap (λ b. list_any f xs || b) apart ∙ or-false (list_any f xs)

-- a mark does nothing to another stamp
pub prepares_no : (mark : Mark) (t : ℕ) → is_mark_of t mark ≡ false → prepares t mark ≡ false
prepares_no (Prepared s ws is) t apart = apart
prepares_no (Committed s) t apart = refl
prepares_no (Discarded s) t apart = refl
prepares_no (Trimmed i) t apart = refl

pub commits_no : (mark : Mark) (t : ℕ) → is_mark_of t mark ≡ false → commits t mark ≡ false
commits_no (Prepared s ws is) t apart = refl
commits_no (Committed s) t apart = apart
commits_no (Discarded s) t apart = refl
commits_no (Trimmed i) t apart = refl

pub discards_no : (mark : Mark) (t : ℕ) → is_mark_of t mark ≡ false → discards t mark ≡ false
discards_no (Prepared s ws is) t apart = refl
discards_no (Committed s) t apart = refl
discards_no (Discarded s) t apart = apart
discards_no (Trimmed i) t apart = refl

-- a mark is of its own stamp only
pub own_mark : (mark : Mark) (t s : ℕ) → mark_stamp mark ≡ Some t → is_mark_of s mark ≡ (t == s)
own_mark (Prepared u ws is) t s e = let same : u ≡ t = cc in ap (λ (v : ℕ). v == s) same
own_mark (Committed u) t s e = let same : u ≡ t = cc in ap (λ (v : ℕ). v == s) same
own_mark (Discarded u) t s e = let same : u ≡ t = cc in ap (λ (v : ℕ). v == s) same
own_mark (Trimmed i) t s e = absurd (cc)

pub no_mark : (mark : Mark) (s : ℕ) → mark_stamp mark ≡ None → is_mark_of s mark ≡ false
no_mark (Prepared u ws is) s e = absurd (cc)
no_mark (Committed u) s e = absurd (cc)
no_mark (Discarded u) s e = absurd (cc)
no_mark (Trimmed i) s e = refl

state_by_same : {a b c d e f : Bool} → a ≡ d → b ≡ e → c ≡ f → state_by a b c ≡ state_by d e f
state_by_same p q r = rw (p, q, r) refl

-- the state after a mark, by what the mark does
pub state_push : (marks : List Mark) (mark : Mark) (t : ℕ) → state_of (marks ++ mark ∷ []) t ≡ state_by (list_any (commits t) marks || commits t mark) (list_any (discards t) marks || discards t mark) (list_any (prepares t) marks || prepares t mark)
state_push marks mark t = state_by_same (any_push (commits t) marks mark) (any_push (discards t) marks mark) (any_push (prepares t) marks mark)

-- that of another stamp stays
pub state_push_other : (marks : List Mark) (mark : Mark) (t : ℕ) → is_mark_of t mark ≡ false → state_of (marks ++ mark ∷ []) t ≡ state_of marks t
state_push_other marks mark t apart =
    state_by_same (any_push_no (commits t) marks mark (commits_no mark t apart)) (any_push_no (discards t) marks mark (discards_no mark t apart)) (any_push_no (prepares t) marks mark (prepares_no mark t apart))

-- ---- what a state shows

pub unknown_tells : (a b c : Bool) → state_by a b c ≡ state.Unknown → (a ≡ false) × (b ≡ false) × (c ≡ false)
unknown_tells false false false e = (refl, refl, refl)
unknown_tells true b c e = absurd (cc)
unknown_tells false true c e = absurd (cc)
unknown_tells false false true e = absurd (cc)

pub pending_tells : (a b c : Bool) → state_by a b c ≡ state.Pending → (a ≡ false) × (b ≡ false) × (c ≡ true)
pending_tells false false true e = (refl, refl, refl)
pending_tells true b c e = absurd (cc)
pending_tells false true c e = absurd (cc)
pending_tells false false false e = absurd (cc)

pub committed_tells : (a b c : Bool) → state_by a b c ≡ state.Committed → a ≡ true
committed_tells true b c e = refl
committed_tells false true c e = absurd (cc)
committed_tells false false true e = absurd (cc)
committed_tells false false false e = absurd (cc)

pub is_unknown_tells : (s : StampState) → is_unknown s ≡ true → s ≡ state.Unknown
is_unknown_tells state.Unknown e = refl
is_unknown_tells state.Pending e = absurd (cc)
is_unknown_tells state.Committed e = absurd (cc)
is_unknown_tells state.Discarded e = absurd (cc)

pub is_pending_tells : (s : StampState) → is_pending s ≡ true → s ≡ state.Pending
is_pending_tells state.Pending e = refl
is_pending_tells state.Unknown e = absurd (cc)
is_pending_tells state.Committed e = absurd (cc)
is_pending_tells state.Discarded e = absurd (cc)

-- ---- the state of the mark's own stamp

pub prepared_is_pending : (marks : List Mark) (t : ℕ) (ws : List Row) (is : List ℕ) → state_of marks t ≡ state.Unknown → state_of (marks ++ Prepared t ws is ∷ []) t ≡ state.Pending
prepared_is_pending marks t ws is unknown =
    let told = unknown_tells _ _ _ unknown in
    state_push marks (Prepared t ws is) t ∙ rw (told.0, told.1, told.2, (same_stamp t)) refl

pub committed_is_committed : (marks : List Mark) (t : ℕ) → state_of (marks ++ Committed t ∷ []) t ≡ state.Committed
committed_is_committed marks t = state_push marks (Committed t) t ∙ go (list_any (commits t) marks)
  where
    go : (a : Bool) → state_by (a || (t == t)) (list_any (discards t) marks || false) (list_any (prepares t) marks || false) ≡ state.Committed
    go true = refl
    go false = rw ((same_stamp t)) refl

pub discarded_is_discarded : (marks : List Mark) (t : ℕ) → list_any (commits t) marks ≡ false → state_of (marks ++ Discarded t ∷ []) t ≡ state.Discarded
discarded_is_discarded marks t uncommitted = state_push marks (Discarded t) t ∙ rw uncommitted (go (list_any (discards t) marks))
  where
    go : (a : Bool) → state_by false (a || (t == t)) (list_any (prepares t) marks || false) ≡ state.Discarded
    go true = refl
    go false = rw ((same_stamp t)) refl

-- ---- the mark that prepared a stamp

pub or_none : {X : Type 0} (a : Option X) → option_or a None ≡ a
or_none None = refl
or_none (Some x) = refl

find_one_no : {X : Type 0} (f : X → Bool) (x : X) → f x ≡ false → find f (x ∷ []) ≡ None
find_one_no f x apart = rw apart refl

find_one_yes : {X : Type 0} (f : X → Bool) (x : X) → f x ≡ true → find f (x ∷ []) ≡ Some x
find_one_yes f x passes = rw passes refl

-- one element more, which doesn't pass
pub find_push_no : {X : Type 0} (f : X → Bool) (xs : List X) (x : X) → f x ≡ false → find f (xs ++ x ∷ []) ≡ find f xs
find_push_no f xs x apart = find-append f xs (x ∷ []) ∙ ap (λ b. option_or (find f xs) b) (find_one_no f x apart) ∙ or_none (find f xs)

-- none passed before it
pub find_none : {X : Type 0} (f : X → Bool) (xs : List X) → list_any f xs ≡ false → find f xs ≡ None
find_none f [] apart = refl
find_none f (x ∷ xs) apart = go (f x) refl (find_none f xs) apart
  where
    go : (b : Bool) → f x ≡ b → (list_any f xs ≡ false → find f xs ≡ None) → b || list_any f xs ≡ false → cond b (Some x) (find f xs) ≡ None
    go true e rest n = absurd (cc)
    go false e rest n = rest n

pub find_push_first : {X : Type 0} (f : X → Bool) (xs : List X) (x : X) → list_any f xs ≡ false → f x ≡ true → find f (xs ++ x ∷ []) ≡ Some x
find_push_first f xs x none passes = find-append f xs (x ∷ []) ∙ rw (find_none f xs none) (find_one_yes f x passes)
