-- The explanations of lines, whatever each of them is.
use Rattle.std.specs.Prelude.{◌≡◌, ◌||◌, ◌+◌, ℕ, List, [], ◌∷◌, ◌++◌, min, Bool, false, MatchBool}
use Rattle.album_lines.specs.Lines.{Line, is_blank}
use Rattle.album_explain.specs.declared.explaining.Progress.{Progress}

-- what an explanation of a line that isn't blank is, by explainers of one kind (`Explainer`)
abbrev pub Explanation : Type 0 → Type 1
Explanation E = E → ℕ → Line → Bool → List ℕ → E → Type 0

-- every line has an explanation
abbrev pub AlwaysExplains : {E : Type 0} → Explanation E → Type 0
AlwaysExplains {E} IsExplanation = (old : E) (number : ℕ) (line : Line)
    → (is_refused : Bool) × (text : List ℕ) × (new : E) × IsExplanation old number line is_refused text new

-- Nothing for a blank line, which changes nothing; for another an explanation of it.
abbrev pub ExplainsLine : {E : Type 0} → Explanation E → E → ℕ → Line → Bool → List ℕ → E → Type 0
ExplainsLine IsExplanation old number line is_refused text new =
    MatchBool (is_blank line) ((is_refused ≡ false) × (text ≡ []) × (new ≡ old))
    (IsExplanation old number line is_refused text new)

-- the first line has the number 1
abbrev pub at_start : {E : Type 0} → E → Progress E
at_start explainer = record { next = 1; has_refused = false; explainer = explainer }

-- a line more is counted; its number fits 64 bits
abbrev pub counted : {E : Type 0} → Progress E → Bool → Progress E
counted p is_refused = record {
  next = min (p.next + 1) 18446744073709551615;
  has_refused = p.has_refused || is_refused;
  explainer = p.explainer;
}

-- a line more is counted, and this explains the next
abbrev pub after : {E : Type 0} → Progress E → Bool → E → Progress E
after p is_refused new =
    counted (record { next = p.next; has_refused = p.has_refused; explainer = new }) is_refused

-- the explanations of these lines, in their order, and nothing else: how far they come from here
abbrev pub Explains : {E : Type 0} → Explanation E → Progress E → List Line → Progress E → List ℕ → Type 0
Explains IsExplanation p [] q text = (q ≡ p) × (text ≡ [])
Explains {E} IsExplanation p (line ∷ lines) q text =
    (is_refused : Bool) × (first : List ℕ) × (new : E) × (others : List ℕ)
    × ExplainsLine IsExplanation p.explainer p.next line is_refused first new
    × Explains IsExplanation (after p is_refused new) lines q others
    × (text ≡ first ++ others)

-- the same, however far they come
abbrev pub ExplainsOn : {E : Type 0} → Explanation E → Progress E → List Line → List ℕ → Type 0
ExplainsOn {E} IsExplanation p lines text = (q : Progress E) × Explains IsExplanation p lines q text
