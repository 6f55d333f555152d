-- Rising stamps: where one more is put, for `add_stamp` (`with_stamp-there`, `with_stamp-insert`), and what those of
-- all answers are, for the law on the second round (`stamps_of-rises`, `stamps_of-Contains`).
use Rattle.std.proofs.Common.{◌≡◌, ℕ, zero, suc, ◌<◌, ◌≤◌, List, [], ◌∷◌, Bool, true, false, ◌||◌, ◌==◌, nat_lt, length, get_or, map, refl, sym, ap, ◌∙◌, All, Contains, if◌then◌else◌, arith}
use Rattle.std.specs.Prelude.{AllPairs, ◌↔◌}
use Rattle.std.specs.Bool.{Decides}
use Rattle.std.specs.List.{list_any, insert}
use Rattle.std.proofs.Math.Bool.{or-false}
use Rattle.std.proofs.lemmas.Bool.Decides.{nat_tests, Decides-eqb, Decides-by_or, Decides-like}
use Rattle.std.proofs.lemmas.List.Elements.{All-nil, All-cons, All-weaker, at_from_Contains}
use Rattle.std.proofs.lemmas.List.Kept.{AllPairs-cons}
use Rattle.album_reader.specs.Answers.{ReadVersion}
use Rattle.album_reader.specs.StampSets.{with_stamp, with_stamps, stamps_of}

-- ---- one more

-- it is among them already
pub with_stamp-there :
    (stamp : ℕ) (stamps : List ℕ) (index : ℕ)
    → index < length stamps → get_or stamps index 0 ≡ stamp → ((k : ℕ) → k < index → get_or stamps k 0 < stamp)
    → with_stamp stamp stamps ≡ stamps
with_stamp-there stamp [] index inside here before = absurd (omega arith)
with_stamp-there stamp (first ∷ stamps) zero inside here before = grind (arith, nat_tests)
with_stamp-there stamp (first ∷ stamps) (suc index) inside here before =
    let below : first < stamp = before 0 (omega arith) in
    let later : with_stamp stamp stamps ≡ stamps =
    with_stamp-there stamp stamps index (omega arith) here (λ k h. before (suc k) (omega arith)) in
    grind (arith, nat_tests, below, later)

-- it comes after the smaller ones and before the greater ones
pub with_stamp-insert :
    (stamp : ℕ) (stamps : List ℕ) (index : ℕ)
    → index ≤ length stamps → ((k : ℕ) → k < index → get_or stamps k 0 < stamp)
    → ((k : ℕ) → index ≤ k → k < length stamps → stamp < get_or stamps k 0)
    → with_stamp stamp stamps ≡ insert stamps index stamp
with_stamp-insert stamp [] zero inside before behind = refl
with_stamp-insert stamp [] (suc index) inside before behind = absurd (omega arith)
with_stamp-insert stamp (first ∷ stamps) zero inside before behind =
    let above : stamp < first = behind 0 (omega arith) (omega arith) in
    grind (arith, nat_tests, above)
with_stamp-insert stamp (first ∷ stamps) (suc index) inside before behind =
    let below : first < stamp = before 0 (omega arith) in
    let later : with_stamp stamp stamps ≡ insert stamps index stamp =
    with_stamp-insert stamp stamps index (omega arith)
    (λ k h. before (suc k) (omega arith)) (λ k h i. behind (suc k) (omega arith) (omega arith)) in
    grind (arith, nat_tests, below, later)

-- what rises doesn't fall
pub AllPairs-le :
    (stamps : List ℕ) → AllPairs (λ s t. s < t) stamps
    → (i j : ℕ) → i ≤ j → j < length stamps → get_or stamps i 0 ≤ get_or stamps j 0
AllPairs-le stamps rise i j below inside = go (nat_lt i j) refl
  where
    go : (b : Bool) → nat_lt i j ≡ b → get_or stamps i 0 ≤ get_or stamps j 0
    go true e =
        let apart : i < j = grind (arith, nat_tests) in
        let less : get_or stamps i 0 < get_or stamps j 0 = rise i j 0 apart inside in
        omega arith
    go false e =
        let same : i ≡ j = grind (arith, nat_tests) in
        let equal : get_or stamps i 0 ≡ get_or stamps j 0 = ap (λ (k : ℕ). get_or stamps k 0) same in
        omega arith

-- ---- rising

AllPairs-tail :
    (first : ℕ) (stamps : List ℕ)
    → AllPairs (λ s t. s < t) (first ∷ stamps)
    → AllPairs (λ s t. s < t) stamps
AllPairs-tail first stamps rise = λ i j d h k. rise (suc i) (suc j) d (omega arith) (omega arith)

AllPairs-first :
    (first : ℕ) (stamps : List ℕ)
    → AllPairs (λ s t. s < t) (first ∷ stamps)
    → All (λ t. first < t) stamps
AllPairs-first first stamps rise = λ k d h. rise 0 (suc k) d (omega arith) (omega arith)

All-with_stamp :
    (P : ℕ → Type 0) (stamp : ℕ) (stamps : List ℕ)
    → P stamp
    → All P stamps
    → All P (with_stamp stamp stamps)
All-with_stamp P stamp [] this all = All-cons P stamp [] this all
All-with_stamp P stamp (first ∷ stamps) this all =
    go (nat_lt stamp first) (stamp == first)
    (All-with_stamp P stamp stamps this (λ k d h. all (suc k) d (omega arith)))
  where
    go :
        (b c : Bool)
        → All P (with_stamp stamp stamps)
        → All P (if b then stamp ∷ first ∷ stamps else if c then first ∷ stamps else first ∷ with_stamp stamp stamps)
    go true c later = All-cons P stamp (first ∷ stamps) this all
    go false true later = all
    go false false later = All-cons P first (with_stamp stamp stamps) (all 0 0 (omega arith)) later

pub with_stamp-rises :
    (stamp : ℕ) (stamps : List ℕ)
    → AllPairs (λ s t. s < t) stamps
    → AllPairs (λ s t. s < t) (with_stamp stamp stamps)
with_stamp-rises stamp [] rise = AllPairs-cons (λ s t. s < t) stamp [] (All-nil (λ t. stamp < t)) rise
with_stamp-rises stamp (first ∷ stamps) rise =
    go (nat_lt stamp first) refl (stamp == first) refl
    (with_stamp-rises stamp stamps (AllPairs-tail first stamps rise))
  where
    go :
        (b : Bool)
        → nat_lt stamp first ≡ b
        → (c : Bool)
        → (stamp == first) ≡ c
        → AllPairs (λ s t. s < t) (with_stamp stamp stamps)
        → AllPairs (λ s t. s < t)
        (if b then stamp ∷ first ∷ stamps else if c then first ∷ stamps else first ∷ with_stamp stamp stamps)
    go true e c f later =
        let below : stamp < first = grind (arith, nat_tests) in
        let later : All (λ t. stamp < t) stamps =
        All-weaker (λ t. first < t) (λ t. stamp < t) (λ t h. omega (arith, below, h)) stamps (AllPairs-first first stamps rise) in
        AllPairs-cons (λ s t. s < t) stamp (first ∷ stamps) (All-cons (λ t. stamp < t) first stamps below later) rise
    go false e true f later = rise
    go false e false f later =
        let above : first < stamp = grind (arith, nat_tests) in
        AllPairs-cons (λ s t. s < t) first (with_stamp stamp stamps)
        (All-with_stamp (λ t. first < t) stamp stamps above (AllPairs-first first stamps rise)) later

with_stamps-rises :
    (stamps : List ℕ) (answers : List ReadVersion)
    → AllPairs (λ s t. s < t) stamps
    → AllPairs (λ s t. s < t) (with_stamps stamps answers)
with_stamps-rises stamps [] rise = rise
with_stamps-rises stamps (answer ∷ answers) rise =
    with_stamps-rises (with_stamp answer.stamp stamps) answers (with_stamp-rises answer.stamp stamps rise)

pub stamps_of-rises : (answers : List ReadVersion) → AllPairs (λ s t. s < t) (stamps_of answers)
stamps_of-rises answers = with_stamps-rises [] answers (λ i j d h k. absurd (omega arith))

-- ---- no others

-- the stamp is one of the stamps
abbrev has_stamp : List ℕ → ℕ → Bool
has_stamp stamps stamp = list_any (λ one. one == stamp) stamps

has_stamp-with_stamp :
    (more : ℕ) (stamps : List ℕ) (stamp : ℕ)
    → has_stamp (with_stamp more stamps) stamp ≡ ((more == stamp) || has_stamp stamps stamp)
has_stamp-with_stamp more [] stamp = refl
has_stamp-with_stamp more (first ∷ stamps) stamp = grind (arith, nat_tests, has_stamp-with_stamp more stamps stamp)

has_stamp-with_stamps :
    (stamps : List ℕ) (answers : List ReadVersion) (stamp : ℕ)
    → has_stamp (with_stamps stamps answers) stamp
    ≡ (has_stamp (map (λ answer. answer.stamp) answers) stamp || has_stamp stamps stamp)
has_stamp-with_stamps stamps [] stamp = refl
has_stamp-with_stamps stamps (answer ∷ answers) stamp =
    has_stamp-with_stamps (with_stamp answer.stamp stamps) answers stamp
    ∙ ap (λ (b : Bool). has_stamp (map (λ f. f.stamp) answers) stamp || b) (has_stamp-with_stamp answer.stamp stamps stamp)
    ∙ turned (has_stamp (map (λ f. f.stamp) answers) stamp) (answer.stamp == stamp) (has_stamp stamps stamp)
  where
    turned : (a b c : Bool) → (a || (b || c)) ≡ ((b || a) || c)
    turned true true c = refl
    turned true false c = refl
    turned false true c = refl
    turned false false c = refl

has_stamp-Decides : (stamps : List ℕ) (stamp : ℕ) → Decides (has_stamp stamps stamp) (Contains stamps stamp)
has_stamp-Decides stamps stamp =
    Decides-like _ (λ h. (h.0, h.1, h.2 stamp)) (at_from_Contains stamps stamp)
    (Decides-by_or (λ one. one == stamp) (λ one. one ≡ stamp) (list_any (λ one. one == stamp)) (λ one. Decides-eqb one stamp) refl (λ _ _. refl) stamps)

pub stamps_of-Contains :
    (answers : List ReadVersion) (stamp : ℕ)
    → Contains (stamps_of answers) stamp ↔ Contains (map (λ answer. answer.stamp) answers) stamp
stamps_of-Contains answers stamp =
    let all = has_stamp-Decides (stamps_of answers) stamp in
    let each = has_stamp-Decides (map (λ (answer : ReadVersion). answer.stamp) answers) stamp in
    let same : has_stamp (stamps_of answers) stamp ≡ has_stamp (map (λ answer. answer.stamp) answers) stamp =
    has_stamp-with_stamps [] answers stamp
    ∙ or-false (has_stamp (map (λ answer. answer.stamp) answers) stamp) in
    ((λ there. each.0 (sym same ∙ all.1 there)), (λ there. all.0 (same ∙ each.1 there)))
