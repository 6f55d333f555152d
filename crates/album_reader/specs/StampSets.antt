-- The stamps of answers, each once and rising.
use Rattle.std.specs.Prelude.{ℕ, List, [], ◌∷◌, nat_lt, ◌==◌, if◌then◌else◌}
use Rattle.album_reader.specs.Answers.{ReadVersion}

-- rising stamps with one more where it belongs, unless it is among them
abbrev pub with_stamp : ℕ → List ℕ → List ℕ
with_stamp stamp [] = stamp ∷ []
with_stamp stamp (first ∷ stamps) =
    (if nat_lt stamp first then stamp ∷ first ∷ stamps
    else if stamp == first then first ∷ stamps
    else first ∷ with_stamp stamp stamps)

-- rising stamps with those of the answers
abbrev pub with_stamps : List ℕ → List ReadVersion → List ℕ
with_stamps stamps [] = stamps
with_stamps stamps (answer ∷ answers) = with_stamps (with_stamp answer.stamp stamps) answers

-- the stamps of the answers, each once and rising
abbrev pub stamps_of : List ReadVersion → List ℕ
stamps_of answers = with_stamps [] answers
