-- The texts that explain lines. For `explain_lines`, and for the turns of `explain`.
use Rattle.std.proofs.Common.{◌≡◌, ◌≢◌, ℕ, ◌+◌, ◌<◌, List, [], ◌∷◌, ◌++◌, length, take, drop, map, get_or, Bool, true, false, MatchBool, refl, sym, ap, ◌∙◌, subst, append_assoc, append-nil, length-drop, arith}
use Rattle.std.proofs.lemmas.List.{length-map}
use Rattle.album_lines.specs.Lines.{Line, is_blank}
use Rattle.album_judge.specs.declared.fault.Fault.TheVariants.{Memory}
use Rattle.album_judge.specs.Writes.{Gains, IsLeftBy}
use Rattle.album_judge.proofs.Texts.{up_to_next, with_others}
use Rattle.album_judge.proofs.Answering.{Are, Joins, GoesOn}
use Rattle.album_explain.specs.declared.explaining.Progress.{Progress}
use Rattle.album_explain.specs.Explain.{Explanation, AlwaysExplains, ExplainsLine, at_start, counted, after, Explains, ExplainsOn}

pub explains_append : {E : Type 0} (IsExplanation : Explanation E) (xs ys : List Line) (p q r : Progress E) (a b : List ℕ)
    → Explains IsExplanation p xs q a → Explains IsExplanation q ys r b → Explains IsExplanation p (xs ++ ys) r (a ++ b)
explains_append {E} IsExplanation [] ys p q r a b g h =
    subst (λ (s : Progress E). Explains IsExplanation s ys r (a ++ b)) g.0
    (subst (Explains IsExplanation q ys r) (ap (λ t. t ++ b) (sym g.1)) h)
explains_append IsExplanation (x ∷ xs) ys p q r a b g h = (
  g.0,
  g.1,
  g.2,
  g.3 ++ b,
  g.4,
  explains_append IsExplanation xs ys (after p g.0 g.2) q r g.3 b g.5 h,
  ap (λ t. t ++ b) g.6 ∙ append_assoc g.1 g.3 b,
)

-- every line has an explanation
explanation_by : {E : Type 0} (IsExplanation : Explanation E) → AlwaysExplains IsExplanation → (b : Bool) (old : E) (number : ℕ) (line : Line)
    → (is_refused : Bool) × (text : List ℕ) × (new : E)
    × MatchBool b ((is_refused ≡ false) × (text ≡ []) × (new ≡ old)) (IsExplanation old number line is_refused text new)
explanation_by IsExplanation always true old number line = (false, [], old, (refl, refl, refl))
explanation_by IsExplanation always false old number line = always old number line

pub explanations_exist : {E : Type 0} (IsExplanation : Explanation E) → AlwaysExplains IsExplanation → (lines : List Line) (p : Progress E)
    → (q : Progress E) × (text : List ℕ) × Explains IsExplanation p lines q text
explanations_exist IsExplanation always [] p = (p, [], (refl, refl))
explanations_exist IsExplanation always (line ∷ lines) p =
    let first = explanation_by IsExplanation always (is_blank line) p.explainer p.next line in
    let rest = explanations_exist IsExplanation always lines (after p first.0 first.2) in
    (rest.0, first.1 ++ rest.1, (first.0, first.1, first.2, rest.1, first.3, rest.2, refl))

-- explanations continue, whatever lines come
pub explanations_go_on : {E : Type 0} (IsExplanation : Explanation E) → AlwaysExplains IsExplanation → (p : Progress E)
    → GoesOn (ExplainsOn IsExplanation p)
explanations_go_on IsExplanation always p lines later text h =
    let more = explanations_exist IsExplanation always later h.0 in
    (more.1, (more.0, explains_append IsExplanation lines later p h.0 more.0 text more.1 h.1 more.2))

-- ---- what joins

-- the explanations from the first line, that come so far
abbrev pub So : {E : Type 0} → Explanation E → E → Progress E → List Line → List ℕ → Type 0
So IsExplanation first q lines text = Explains IsExplanation (at_start first) lines q text

pub are_so : {E : Type 0} (IsExplanation : Explanation E) (first : E) (q : Progress E)
    → Are (So IsExplanation first q) (ExplainsOn IsExplanation (at_start first))
are_so IsExplanation first q lines text h = (q, h)

pub join_so : {E : Type 0} (IsExplanation : Explanation E) (first : E) (q r : Progress E)
    → Joins (So IsExplanation first q) (λ lines text. Explains IsExplanation q lines r text) (So IsExplanation first r)
join_so IsExplanation first q r lines next x y g h = explains_append IsExplanation lines next (at_start first) q r x y g h

pub join_on : {E : Type 0} (IsExplanation : Explanation E) (first : E) (q : Progress E)
    → Joins (So IsExplanation first q) (ExplainsOn IsExplanation q) (ExplainsOn IsExplanation (at_start first))
join_on IsExplanation first q lines next x y g h =
    (h.0, explains_append IsExplanation lines next (at_start first) q h.0 x y g h.1)

-- ---- the loop over lines

-- the next line is explained too
pub next_explained : {E X : Type 0} (IsExplanation : Explanation E) (f : X → Line) (xs : List X) (i : ℕ) (x : X)
    → (p q r : Progress E) (old new : List ℕ)
    → i < length xs → x ≡ get_or xs i x
    → Explains IsExplanation p (map f (take i xs)) q old
    → Gains (Explains IsExplanation q (f x ∷ []) r) old new
    → Explains IsExplanation p (map f (take (i + 1) xs)) r new
next_explained IsExplanation f xs i x p q r old new h e g added =
    let all = explains_append IsExplanation _ _ p q r old added.0 g added.1 in
    let lines : map f (take i xs) ++ f x ∷ [] ≡ map f (take (i + 1) xs) = sym (up_to_next f xs i x h e) in
    subst (λ ls. Explains IsExplanation p ls r new) lines
    (subst (Explains IsExplanation p (map f (take i xs) ++ f x ∷ []) r) (sym added.2) all)

-- there is no memory for the next explanation
pub unexplained_at : {E X : Type 0} (IsExplanation : Explanation E) (f : X → Line) (xs : List X) (i : ℕ) (p q : Progress E)
    → (text : List ℕ)
    → i < length xs
    → Explains IsExplanation p (map f (take i xs)) q text
    → IsLeftBy Memory (ExplainsOn IsExplanation p) (map f xs) text
unexplained_at IsExplanation f xs i p q text h g =
    let later : map f (drop i xs) ≢ [] =
    λ none. absurd (omega (arith, ap length none, length-map (drop i xs) f, length-drop i xs, h)) in
    (map f (take i xs), map f (drop i xs), later, with_others f xs i, (q, g))

-- ---- one line

unexplained : {E : Type 0} (IsExplanation : Explanation E) (old : E) (number : ℕ) (line : Line) (text : List ℕ)
    → true ≡ is_blank line → text ≡ []
    → ExplainsLine IsExplanation old number line false text old
unexplained IsExplanation old number line text blank none =
    subst (λ (b : Bool). MatchBool b ((false ≡ false) × (text ≡ []) × (old ≡ old)) (IsExplanation old number line false text old)) blank (refl, none, refl)

explained : {E : Type 0} (IsExplanation : Explanation E) (old new : E) (number : ℕ) (line : Line) (r : Bool) (text : List ℕ)
    → false ≡ is_blank line
    → IsExplanation old number line r text new
    → ExplainsLine IsExplanation old number line r text new
explained IsExplanation old new number line r text some explanation =
    subst (λ (b : Bool). MatchBool b ((r ≡ false) × (text ≡ []) × (new ≡ old)) (IsExplanation old number line r text new)) some explanation

-- a blank line has no explanation
pub blank_gained : {E : Type 0} (IsExplanation : Explanation E) (p q : Progress E) (line : Line) (old : List ℕ)
    → true ≡ is_blank line → q ≡ counted p false
    → Gains (Explains IsExplanation p (line ∷ []) q) old old
blank_gained IsExplanation p q line old blank on = (
  [],
  (false, [], p.explainer, [], unexplained IsExplanation p.explainer p.next line [] blank refl, (on, refl), refl),
  sym (append-nil old),
)

-- another has one
pub explained_gained : {E : Type 0} (IsExplanation : Explanation E) (p between q : Progress E) (line : Line) (r : Bool) (old new text : List ℕ)
    → false ≡ is_blank line
    → IsExplanation p.explainer p.next line r text between.explainer
    → between ≡ record { next = p.next; has_refused = p.has_refused; explainer = between.explainer }
    → q ≡ counted between r → new ≡ old ++ text
    → Gains (Explains IsExplanation p (line ∷ []) q) old new
explained_gained IsExplanation p between q line r old new text some explanation is on added =
    let far : q ≡ after p r between.explainer = on ∙ ap (λ s. counted s r) is in
    (text, (r, text, between.explainer, [], explained IsExplanation p.explainer between.explainer p.next line r text some explanation, (far, refl), sym (append-nil text)), added)
