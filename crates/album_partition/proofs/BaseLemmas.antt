-- Histories of checked Prepares: that they stay such for PartitionLemmas (`is_chained-push`, `asked_extends`), and what
-- the law `no_update_is_lost` says of them.
use Rattle.std.proofs.Common.{◌≡◌, ⊎_elim, ℕ, zero, suc, ◌<◌, ◌≤◌, ◌+◌, Bool, true, false, ◌==◌, ◌&&◌, ◌||◌, is_some, IsTrue, Contains, List, [], ◌∷◌, ◌++◌, length, take, get_or, refl, sym, ap, ◌∙◌, subst, arith}
use Rattle.std.specs.List.{list_any, list_all, zip}
use Rattle.std.proofs.lemmas.List.Folds.{list_all_more, list_all_at}
use Rattle.std.proofs.lemmas.Slice.Zip.{length-zip, get_or-zip}
use Rattle.std.proofs.lemmas.Bool.{and_parts, and_from, false≢true}
use Rattle.std.proofs.lemmas.Bool.Decides.{Decides-eqb}
use Rattle.std.proofs.lemmas.List.{append_assoc, append-nil, take_all}
use Rattle.album_items.specs.ItemIds.{place_of}
use Rattle.album_items.specs.Openings.{Row}
use Rattle.album_calls.specs.declared.messages.Body.{Body}
use Rattle.album_terminate.specs.declared.deciding.StampState.TheVariants as state
use Rattle.album_partition.specs.declared.marks.Mark.{Mark}
use Rattle.album_partition.specs.declared.marks.Mark.TheVariants.{Prepared}
use Rattle.album_partition.specs.Bases.{may_extend, is_base, are_bases, extends, chained_after, is_chained}
use Rattle.album_partition.specs.Laws.{AsksFor, IsBased}
use Rattle.album_partition.specs.Marks.{state_of, is_pending, value_in, latest, prepared_stamps, pending_stamps}
use Rattle.album_partition.specs.Partition.{PartitionState}
use Rattle.album_partition.specs.Proper.{is_proper, is_proper_on}
use Rattle.album_partition.proofs.ListLemmas.{one_before, kept_in, kept_out}
use Rattle.album_partition.proofs.LoadLemmas.{prepared_there}
use Rattle.album_partition.proofs.ProperLemmas.{proper_placed}
use Rattle.album_partition.proofs.StateLemmas.{pending_tells, is_pending_tells}

-- ---- one mark more

chained_after-push : (before marks : List Mark) (mark : Mark) → chained_after before marks ≡ true → extends (before ++ marks) mark ≡ true → chained_after before (marks ++ mark ∷ []) ≡ true
chained_after-push before [] mark h may = and_from (extends before mark) true (subst (λ ms. extends ms mark ≡ true) (append-nil before) may) refl
chained_after-push before (m ∷ marks) mark h may =
    and_from (extends before m) (chained_after (before ++ m ∷ []) (marks ++ mark ∷ []))
    (and_parts (extends before m) (chained_after (before ++ m ∷ []) marks) h).0
    (chained_after-push (before ++ m ∷ []) marks mark (and_parts (extends before m) (chained_after (before ++ m ∷ []) marks) h).1 (subst (λ ms. extends ms mark ≡ true) (sym (append_assoc before (m ∷ []) marks)) may))

pub is_chained-push : (marks : List Mark) (mark : Mark) → is_chained marks ≡ true → extends marks mark ≡ true → is_chained (marks ++ mark ∷ []) ≡ true
is_chained-push marks mark h may = chained_after-push [] marks mark h may

-- ---- an element that passes

pub found_in : {X : Type 0} (test : X → Bool) (xs : List X) → list_any test xs ≡ true → (x : X) × Contains xs x × (test x ≡ true)
found_in test [] e = absurd (cc)
found_in {X = X} test (x ∷ xs) e = go (test x) refl e (found_in test xs)
  where
    go : (b : Bool) → test x ≡ b → b || list_any test xs ≡ true → (list_any test xs ≡ true → (y : X) × Contains xs y × (test y ≡ true))
        → (y : X) × Contains (x ∷ xs) y × (test y ≡ true)
    go true f e h = (x, (0, omega arith, refl), f)
    go false f e h = let g = h e in (g.0, one_before x g.0 xs g.1, g.2)

pub found_out : {X : Type 0} (test : X → Bool) (xs : List X) (t : X) → Contains xs t → test t ≡ true → list_any test xs ≡ true
found_out test [] t (k, less, at) e = absurd (omega arith)
found_out {X = X} test (x ∷ xs) t (zero, less, at) e = rw (subst (λ (y : X). test y ≡ true) (sym at) e) refl
found_out test (x ∷ xs) t (suc k, less, at) e = go (test x) (found_out test xs t (k, omega arith, at) e)
  where
    go : (b : Bool) → list_any test xs ≡ true → b || list_any test xs ≡ true
    go true h = refl
    go false h = h

-- two tests that pass something of one list where they pass it of the other
pub same_answer : (a b : Bool) → (a ≡ true → b ≡ true) → (b ≡ true → a ≡ true) → a ≡ b
same_answer true true f g = refl
same_answer false false f g = refl
same_answer true false f g = sym (f refl)
same_answer false true f g = g refl

-- ---- the versions that are pending

pub pending_there : (marks : List Mark) (t : ℕ) → state_of marks t ≡ state.Pending → Contains (pending_stamps marks) t
pending_there marks t e =
    kept_out (λ s. is_pending (state_of marks s)) (prepared_stamps marks) t (ap is_pending e) (prepared_there t marks (pending_tells _ _ _ e).2)

pub pending_here : (marks : List Mark) (t : ℕ) → Contains (pending_stamps marks) t → state_of marks t ≡ state.Pending
pending_here marks t h = is_pending_tells (state_of marks t) (kept_in (λ s. is_pending (state_of marks s)) (prepared_stamps marks) t h).0

-- ---- pairs, one after another, for `Stored::are_bases`

pub zip_more : (p : Row × ℕ → Bool) (ws : List Row) (bs : List ℕ) (i : ℕ) (w : Row) (b : ℕ) → i < length ws → length bs ≡ length ws
    → w ≡ get_or ws i w → b ≡ get_or bs i b → list_all p (take (i + 1) (zip ws bs)) ≡ (list_all p (take i (zip ws bs)) && p (w, b))
zip_more p ws bs i w b less long at on =
    let inside : i < length (zip ws bs) = (let l = length-zip ws bs in omega arith) in
    list_all_more p (zip ws bs) i (w, b) inside
    ∙ ap (λ (x : Row × ℕ). list_all p (take i (zip ws bs)) && p x)
    (get_or-zip ws bs i (w, b) less (omega arith) ∙ ap (λ (v : Row). (v, get_or bs i b)) (sym at) ∙ ap (λ (c : ℕ). (w, c)) (sym on))

abbrev is_pair : List Mark → ℕ → Row × ℕ → Bool
is_pair marks t pair = is_base marks t pair.0.0 pair.1

and-false : (b : Bool) → b && false ≡ false
and-false true = refl
and-false false = refl

pub one_fails : (marks : List Mark) (t : ℕ) (ws : List Row) (bs : List ℕ) (i : ℕ) (w : Row) (b : ℕ) → i < length ws → length ws ≡ length bs
    → w ≡ get_or ws i w → b ≡ get_or bs i b → is_base marks t w.0 b ≡ false → false ≡ are_bases marks t ws bs
one_fails marks t ws bs i w b less long at on e =
    let inside : i < length (zip ws bs) = (let l = length-zip ws bs in omega arith) in
    let pair = get_or-zip ws bs i (w, b) less (omega arith) ∙ ap (λ (v : Row). (v, get_or bs i b)) (sym at) ∙ ap (λ (c : ℕ). (w, c)) (sym on) in
    sym (ap (λ (x : Bool). (length ws == length bs) && x) (list_all_at (is_pair marks t) (zip ws bs) i (w, b) inside (ap (is_pair marks t) pair ∙ e))
    ∙ and-false (length ws == length bs))

pub all_based : (marks : List Mark) (t : ℕ) (ws : List Row) (bs : List ℕ) (i : ℕ) → length ws ≤ i → length ws ≡ length bs
    → list_all (is_pair marks t) (take i (zip ws bs)) ≡ true → true ≡ are_bases marks t ws bs
all_based marks t ws bs i less long e =
    let whole : take i (zip ws bs) ≡ zip ws bs = take_all i (zip ws bs) (let l = length-zip ws bs in omega arith) in
    sym (and_from (length ws == length bs) (list_all (is_pair marks t) (zip ws bs)) ((Decides-eqb (length ws) (length bs)).1 long)
    (sym (ap (list_all (is_pair marks t)) whole) ∙ e))

pub one_more : (marks : List Mark) (t : ℕ) (ws : List Row) (bs : List ℕ) (i : ℕ) (w : Row) (b : ℕ) → i < length ws → length ws ≡ length bs
    → w ≡ get_or ws i w → b ≡ get_or bs i b → is_base marks t w.0 b ≡ true → list_all (is_pair marks t) (take i (zip ws bs)) ≡ true
    → list_all (is_pair marks t) (take (i + 1) (zip ws bs)) ≡ true
one_more marks t ws bs i w b less long at on e h =
    zip_more (is_pair marks t) ws bs i w b less (sym long) at on ∙ and_from (list_all (is_pair marks t) (take i (zip ws bs))) (is_base marks t w.0 b) h e

-- ---- what bases show

zipped_all : (marks : List Mark) (t : ℕ) (ws : List Row) (bs : List ℕ) → (length ws == length bs) ≡ true
    → list_all (λ (pair : Row × ℕ). is_base marks t pair.0.0 pair.1) (zip ws bs) ≡ true
    → list_all (λ (row : Row). may_extend marks t row.0) ws ≡ true
zipped_all marks t [] bs long e = refl
zipped_all marks t (w ∷ ws) [] long e = absurd (let none : length (w ∷ ws) ≡ 0 = (Decides-eqb (length (w ∷ ws)) 0).0 long in omega arith)
zipped_all marks t (w ∷ ws) (b ∷ bs) long e =
    let both = and_parts (is_base marks t w.0 b) _ e in
    and_from (may_extend marks t w.0) (list_all (λ (row : Row). may_extend marks t row.0) ws)
    (and_parts (latest marks w.0 == b) (may_extend marks t w.0) both.0).1
    (zipped_all marks t ws bs
    ((Decides-eqb (length ws) (length bs)).1 (let same : length (w ∷ ws) ≡ length (b ∷ bs) = (Decides-eqb (length (w ∷ ws)) (length (b ∷ bs))).0 long in omega arith))
    both.1)

pub bases_extend : (marks : List Mark) (t : ℕ) (ws : List Row) (is bs : List ℕ) → are_bases marks t ws bs ≡ true → extends marks (Prepared t ws is) ≡ true
bases_extend marks t ws is bs e =
    let both = and_parts (length ws == length bs) _ e in zipped_all marks t ws bs both.0 both.1

pub asked_extends : (p : PartitionState) (b : Body) (t : ℕ) (ws : List Row) (is : List ℕ) → AsksFor p b t ws is → p.checked ≡ true → extends p.marks (Prepared t ws is) ≡ true
asked_extends p b t ws is asked checked =
    ⊎_elim (λ plain. absurd (false≢true (sym plain.1 ∙ checked)))
    (λ (on : IsBased p b t ws is). bases_extend p.marks t ws is on.bases on.based) asked

-- ---- a Prepare whose bases are not the latest writes something here

pub proper_of : (number parts t : ℕ) (ws : List Row) (is bs : List ℕ) → is_proper_on number parts t ws is bs ≡ true → is_proper number parts t ws is ≡ true
proper_of number parts t ws is bs e = (and_parts (is_proper number parts t ws is) (length ws == length bs) e).0

pub outdated_here : (marks : List Mark) (number parts t : ℕ) (ws : List Row) (is bs : List ℕ) → are_bases marks t ws bs ≡ false
    → is_proper_on number parts t ws is bs ≡ true → (i : ℕ) × Contains is i × (place_of parts i ≡ number)
outdated_here marks number parts t [] is [] e proper = absurd (cc)
outdated_here marks number parts t [] is (b ∷ bs) e proper =
    absurd (let none : 0 ≡ length (b ∷ bs) = (Decides-eqb 0 (length (b ∷ bs))).0 (and_parts (is_proper number parts t [] is) _ proper).1 in omega arith)
outdated_here marks number parts t (w ∷ ws) is bs e proper =
    let placed = (proper_placed number parts t (w ∷ ws) is w.0 (proper_of number parts t (w ∷ ws) is bs proper)).0 wrote in (w.0, placed.0, placed.1)
  where
    wrote : IsTrue (is_some (value_in (w ∷ ws) w.0))
    wrote = rw ((Decides-eqb w.0 w.0).1 refl) refl
