-- The explanations of a whole script.
use Rattle.std.specs.Prelude.{◌≡◌, ◌++◌, ◌||◌, ℕ, List, [], Bool, not, if◌then◌else◌, codes, Some, None}
use Rattle.album_stamps.specs.declared.refusals.Refusal.TheVariants.{BadOpening}
use Rattle.album_lines.specs.Lines.{Line}
use Rattle.album_lines.specs.Output.{line_text}
use Rattle.album_explain.specs.Explain.{at_start, Explains}
use Rattle.album_explain.specs.Explanations.{refused_json}
use Rattle.album_explain.specs.declared.explaining.Progress.{Progress}
use Rattle.album_explain_store.specs.declared.openings.OpeningLines.{OpeningLines}
use Rattle.album_explain_store.specs.declared.openings.OpeningLines.TheVariants.{Unopened}
use Rattle.album_explain_store.specs.Openings.{stage_of, has_begun, ExplainsScriptLine}

-- the line of this number is missing: it would have to be `begin`
abbrev pub missing_line : ℕ → List ℕ
missing_line number = line_text (refused_json number BadOpening (Some (codes "begin", None)))

-- the explanation of the end: that the opening isn't whole, where it isn't
abbrev pub end_text : Progress OpeningLines → List ℕ
end_text end = if has_begun (stage_of end.explainer) then [] else missing_line end.next

abbrev pub has_missed : Progress OpeningLines → Bool
has_missed end = end.has_refused || not (has_begun (stage_of end.explainer))

-- the explanations of the lines of a script, and of its end, and whether anything was refused
pub record ExplainsScript (is_refused : Bool) (lines : List Line) (text : List ℕ) : Type 0 where
  pub end : Progress OpeningLines
  pub front : List ℕ
  pub explained : Explains ExplainsScriptLine (at_start Unopened) lines end front
  pub whole : text ≡ front ++ end_text end
  pub refused : is_refused ≡ has_missed end

-- the same, whether anything was or not
abbrev pub ExplainsSomeScript : List Line → List ℕ → Type 0
ExplainsSomeScript lines text = (is_refused : Bool) × ExplainsScript is_refused lines text
