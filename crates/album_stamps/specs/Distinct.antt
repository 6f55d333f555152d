-- Lists in which nothing occurs twice.
use Rattle.std.specs.Prelude.{ℕ, List, [], ◌∷◌, Bool, true, not, ◌&&◌, ◌==◌}
use Rattle.std.specs.List.{list_any}

-- no two elements, at two indexes of the list, clash
abbrev pub no_two : {X : Type 0} → (X → X → Bool) → List X → Bool
no_two clash [] = true
no_two clash (x ∷ xs) = not (list_any (clash x) xs) && no_two clash xs

-- no number occurs twice
abbrev pub are_distinct : List ℕ → Bool
are_distinct numbers = no_two (λ a b. a == b) numbers
