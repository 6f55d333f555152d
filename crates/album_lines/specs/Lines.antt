-- The lines of a text that comes in pieces.
use Rattle.std.specs.Prelude.{ℕ, ◌≤◌, List, [], ◌∷◌, ◌++◌, length, Bool, false, ◌||◌, ◌==◌, nat_lt, not, if◌then◌else◌, Option, Some, None}
use Rattle.std.specs.List.{list_all}
use Rattle.std.specs.Option.{ForSome}
use Rattle.album_stamps.specs.declared.limits.TheConstants.{MAX_LINE}
use Rattle.album_lines.specs.declared.lines.LineIn.{LineIn}
use Rattle.album_lines.specs.declared.lines.LineIn.TheVariants.{Text, TooLong}

-- a line without its newline, or None where it is too long
abbrev pub Line : Type 0
Line = Option (List ℕ)

-- the line of these bytes
abbrev pub kept : List ℕ → Line
kept bytes = if nat_lt MAX_LINE (length bytes) then None else Some bytes

-- it has no more bytes than a line may have
abbrev pub IsShort : Line → Type 0
IsShort line = ForSome line (λ bytes. length bytes ≤ MAX_LINE)

-- the line with a byte more
abbrev pub longer : Line → ℕ → Line
longer None byte = None
longer (Some bytes) byte = kept (bytes ++ byte ∷ [])

-- the lines that end in a text, where the first began before it, and the next line as far as it has come
abbrev pub cut : Line → List ℕ → List Line × Line
cut line [] = ([], line)
cut line (byte ∷ text) =
    if byte == 10 then (line ∷ (cut (Some []) text).0, (cut (Some []) text).1)
    else cut (longer line byte) text

-- the lines before, and then those of a cut
abbrev pub continued : List Line → List Line × Line → List Line × Line
continued lines more = (lines ++ more.0, more.1)

-- what follows the last newline is a line where it has a byte
abbrev pub last : Line → List Line
last None = None ∷ []
last (Some []) = []
last (Some (byte ∷ bytes)) = Some (byte ∷ bytes) ∷ []

-- the lines that end in a text from its start, and the next line as far as it has come
abbrev pub ended : List ℕ → List Line
ended text = (cut (Some []) text).0

abbrev pub begun : List ℕ → Line
begun text = (cut (Some []) text).1

-- the lines of a whole text
abbrev pub lines_of : List ℕ → List Line
lines_of text = ended text ++ last (begun text)

-- no byte is a newline
abbrev pub has_no_newline : List ℕ → Bool
has_no_newline bytes = list_all (λ byte. not (byte == 10)) bytes

-- nothing but spaces, tabs and carriage returns
abbrev pub is_blank : Line → Bool
is_blank None = false
is_blank (Some bytes) = list_all (λ byte. byte == 32 || byte == 9 || byte == 13) bytes

-- the line that a `LineIn` holds
abbrev pub said : LineIn → Line
said (Text bytes) = Some bytes.items
said TooLong = None
