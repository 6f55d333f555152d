-- The bytes of a text that is no JSON.
use Rattle.std.specs.Prelude.{ℕ, Bool, not, ◌==◌, ◌||◌}
use Rattle.json.specs.Word.{is_operator, is_space}
use Rattle.json.specs.Ascii as ascii

-- a number or a word may have this byte
abbrev pub is_in_word : ℕ → Bool
is_in_word byte = not ((byte == ascii.quote) || (is_operator byte || is_space byte))
