-- Numbers that are flagged.
use Rattle.std.specs.Prelude.{ℕ, ◌+◌, Bool, true, false, List, [], ◌∷◌}

-- the numbers whose flag is set, where the first flag is that of this number
abbrev pub flagged : ℕ → List Bool → List ℕ
flagged number [] = []
flagged number (true ∷ flags) = number ∷ flagged (number + 1) flags
flagged number (false ∷ flags) = flagged (number + 1) flags
