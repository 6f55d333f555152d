-- Texts that answer lines, whichever engine writes them. `left_after` is what the turns rest on: what a fault leaves of
-- the answers to lines, after whole answers and before lines that come later.
use Rattle.std.proofs.Common.{◌≡◌, ◌≢◌, ℕ, List, [], ◌∷◌, ◌++◌, refl, sym, subst, append_assoc}
use Rattle.album_lines.specs.Lines.{Line}
use Rattle.album_judge.specs.declared.fault.Fault.{Fault}
use Rattle.album_judge.specs.declared.fault.Fault.TheVariants.{Reading, Writing, Memory}
use Rattle.album_judge.specs.Writes.{IsPrefixOf, IsLeftBy}

-- which texts answer lines
abbrev pub Answering : Type 1
Answering = List Line → List ℕ → Type 0

-- the answers to some lines, and then those to the next, are answers to both
abbrev pub Joins : Answering → Answering → Answering → Type 0
Joins A N B = (lines next : List Line) (x y : List ℕ) → A lines x → N next y → B (lines ++ next) (x ++ y)

-- answers continue, whatever lines come
abbrev pub GoesOn : Answering → Type 0
GoesOn A = (lines later : List Line) (x : List ℕ) → A lines x → (more : List ℕ) × A (lines ++ later) (x ++ more)

-- what answers lines in the one way does so in the other
abbrev pub Are : Answering → Answering → Type 0
Are A B = (lines : List Line) (x : List ℕ) → A lines x → B lines x

-- a list that is not empty stays so with more after it
pub goes_on : {X : Type 0} (xs ys : List X) → xs ≢ [] → xs ++ ys ≢ []
goes_on [] ys some none = some refl
goes_on (x ∷ xs) ys some none = cc

-- ---- what a fault leaves

-- it is a prefix of answers
pub left_is_prefix : (A : Answering) → GoesOn A → (fault : Fault) (lines : List Line) (text : List ℕ)
    → IsLeftBy fault A lines text
    → IsPrefixOf (A lines) text
left_is_prefix A on Reading lines text h = absurd h
left_is_prefix A on Writing lines text h = (h.0, h.2)
left_is_prefix A on Memory lines text h =
    let all = on h.0 h.1 text h.4 in
    (all.0, subst (λ ls. A ls (text ++ all.0)) (sym h.3) all.1)

-- a prefix of answers, before lines that come later
pub prefix_before : (A : Answering) → GoesOn A → (lines later : List Line) (text : List ℕ)
    → IsPrefixOf (A lines) text
    → IsPrefixOf (A (lines ++ later)) text
prefix_before A on lines later text h =
    let all = on lines later (text ++ h.0) h.1 in
    (h.0 ++ all.0, subst (A (lines ++ later)) (append_assoc text h.0 all.0) all.1)

-- whole answers, and then a prefix of the next
pub prefix_after : (A N All : Answering) → Joins A N All → (lines next : List Line) (x y : List ℕ)
    → A lines x
    → IsPrefixOf (N next) y
    → IsPrefixOf (All (lines ++ next)) (x ++ y)
prefix_after A N All joins lines next x y g h =
    (h.0, subst (All (lines ++ next)) (sym (append_assoc x y h.0)) (joins lines next x (y ++ h.0) g h.1))

-- whole answers, and then what a fault leaves of the next, before lines that come later
pub left_after : (A N All : Answering) → Joins A N All → GoesOn All
    → (fault : Fault) (lines next later : List Line) (x y : List ℕ)
    → A lines x
    → IsLeftBy fault N next y
    → IsLeftBy fault All (lines ++ (next ++ later)) (x ++ y)
left_after A N All joins on Reading lines next later x y g h = absurd h
left_after A N All joins on Writing lines next later x y g h =
    let both = joins lines next x (y ++ h.0) g h.2 in
    let all = on (lines ++ next) later (x ++ (y ++ h.0)) both in
    let text : (x ++ (y ++ h.0)) ++ all.0 ≡ (x ++ y) ++ (h.0 ++ all.0) = simp append_assoc in
    let there = subst (λ ls. All ls ((x ++ (y ++ h.0)) ++ all.0)) (append_assoc lines next later) all.1 in
    (h.0 ++ all.0, goes_on h.0 all.0 h.1, subst (All (lines ++ (next ++ later))) text there)
left_after A N All joins on Memory lines next later x y g h =
    let split : lines ++ (next ++ later) ≡ (lines ++ h.0) ++ (h.1 ++ later) = rw h.3 (simp append_assoc) in
    (lines ++ h.0, h.1 ++ later, goes_on h.1 later h.2, split, joins lines h.0 x y g h.4)
