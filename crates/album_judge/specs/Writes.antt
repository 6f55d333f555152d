-- What an engine did: which bytes its reader gave, and which text its writer gained for them.
use Rattle.std.specs.Prelude.{◌≡◌, ◌≢◌, ◌≤◌, ◌*◌, ℕ, List, [], ◌++◌, length, Option}
use Rattle.std.specs.Io.KnownBytes.{Appends, Consumes}
use Rattle.album_lines.specs.Lines.{Line, ended, lines_of}
use Rattle.album_judge.specs.declared.engine.TheConstants.{PIECE}
use Rattle.album_judge.specs.declared.fault.Fault.{Fault}
use Rattle.album_judge.specs.declared.fault.Fault.TheVariants.{Reading, Writing, Memory}

-- the reader gave at most so many pieces
abbrev pub HasRead : ℕ → Option (List ℕ) → Option (List ℕ) → Type 0
HasRead turns remaining left = (given : List ℕ) × Consumes remaining left given × (length given ≤ turns * PIECE)

-- the writer gained a text with this property
abbrev pub Writes : (List ℕ → Type 0) → Option (List ℕ) → Option (List ℕ) → Type 0
Writes P old new = (text : List ℕ) × P text × Appends old new text

-- a text with this property follows what was there
abbrev pub Gains : (List ℕ → Type 0) → List ℕ → List ℕ → Type 0
Gains P old new = (text : List ℕ) × P text × (new ≡ old ++ text)

-- the reader gave some bytes, and the writer gained a text that goes with them
abbrev pub Exchanges : (List ℕ → List ℕ → Type 0)
    → Option (List ℕ) → Option (List ℕ) → Option (List ℕ) → Option (List ℕ) → Type 0
Exchanges R remaining left old new =
    (given : List ℕ) × Consumes remaining left given × Writes (R given) old new

-- a prefix of a text with this property
abbrev pub IsPrefixOf : (List ℕ → Type 0) → List ℕ → Type 0
IsPrefixOf P text = (rest : List ℕ) × P (text ++ rest)

-- one that lacks something of it
abbrev pub IsCutShort : (List ℕ → Type 0) → List ℕ → Type 0
IsCutShort P text = (rest : List ℕ) × (rest ≢ []) × P (text ++ rest)

-- What a fault leaves of a text with this property. Writing: it is cut short. Memory: it ends early, if it doesn't end
-- where it should. Writing has no fault of reading.
abbrev pub LeavesOf : Fault → (List ℕ → Type 0) → List ℕ → Type 0
LeavesOf Reading P text = ⊥
LeavesOf Writing P text = IsCutShort P text
LeavesOf Memory P text = IsPrefixOf P text

-- ---- an engine writes what answers its lines: `answers` says which texts answer a list of lines

-- whole answers to the first of these lines, but not to all
abbrev pub AnswersFirst : (List Line → List ℕ → Type 0) → List Line → List ℕ → Type 0
AnswersFirst answers lines text =
    (done : List Line) × (later : List Line) × (later ≢ []) × (lines ≡ done ++ later) × answers done text

-- What a fault leaves of the answers to these lines. Writing: an answer is cut short. Memory: those that are there are
-- whole, and one is not there. Answering has no fault of reading.
abbrev pub IsLeftBy : Fault → (List Line → List ℕ → Type 0) → List Line → List ℕ → Type 0
IsLeftBy Reading answers lines text = ⊥
IsLeftBy Writing answers lines text = IsCutShort (answers lines) text
IsLeftBy Memory answers lines text = AnswersFirst answers lines text

-- What a fault leaves of the answers to what was read. Reading: each line that has ended is answered, and nothing else.
abbrev pub IsEndedBy : Fault → (List Line → List ℕ → Type 0) → List ℕ → List ℕ → Type 0
IsEndedBy Reading answers given text = answers (ended given) text
IsEndedBy Writing answers given text = IsCutShort (answers (lines_of given)) text
IsEndedBy Memory answers given text = AnswersFirst answers (lines_of given) text
