-- The lines that are written: compact JSON and a newline.
use Rattle.std.specs.Prelude.{ℕ, List, [], ◌∷◌, ◌++◌, codes}
use Rattle.serde_json.specs.Data.{Data, number, unsigned, string, object, member, no_members}
use Rattle.serde_json.specs.Written.{compact_text}
use Rattle.album_stamps.specs.declared.refusals.Refusal.{Refusal}
use Rattle.album_stamps.specs.Refusals.{number_of, name_of}
use Rattle.album_eval.specs.declared.verdicts.Verdict.{Verdict}
use Rattle.album_eval.specs.declared.verdicts.Verdict.TheVariants.{Granted, DeniedBy, DeniedAtEnd}

-- the line of a JSON value
abbrev pub line_text : Data → List ℕ
line_text d = compact_text d ++ 10 ∷ []

-- a refusal as a JSON value: its name and its number
abbrev pub refusal_data : Refusal → Data
refusal_data r = object (
    member (codes "name") (string (name_of r)) (
    member (codes "refused") (number (unsigned (number_of r))) no_members))

-- the line of a refusal
unfoldable pub refusal_line : Refusal → List ℕ
refusal_line r = line_text (refusal_data r)

-- a verdict as a JSON value
abbrev pub denied_data : Data → Data
denied_data at = object (
    member (codes "answer") (string (codes "denied")) (
    member (codes "at") at no_members))

abbrev pub verdict_data : Verdict → Data
verdict_data Granted = object (member (codes "answer") (string (codes "granted")) no_members)
verdict_data (DeniedBy index) = denied_data (number (unsigned index))
verdict_data DeniedAtEnd = denied_data (string (codes "end"))

-- the line of a verdict
unfoldable pub verdict_line : Verdict → List ℕ
verdict_line v = line_text (verdict_data v)
