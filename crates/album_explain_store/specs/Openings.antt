-- The outcomes of the lines of a script: first those of its opening, then the events after it.
use Rattle.std.specs.Prelude.{ℕ, List, Bool, true, false, None, if◌then◌else◌, Result, Ok, Err, refl}
use Rattle.std.proofs.Common.{inr}
use Rattle.album_stamps.specs.declared.refusals.Refusal.{Refusal}
use Rattle.album_stamps.specs.declared.refusals.Refusal.TheVariants.{OutOfMemory, BadRequest, BadOpening}
use Rattle.album_items.specs.Openings.{is_opening}
use Rattle.album_lines.specs.Lines.{Line}
use Rattle.album_lines.specs.Output.{line_text}
use Rattle.album_wire.specs.FirstValues.{ValuesSaid, no_values, with_value, opening_of}
use Rattle.album_wire.specs.OpeningLine.{opening_line_of}
use Rattle.album_wire.specs.declared.opening_line.OpeningLine.{OpeningLine}
use Rattle.album_wire.specs.declared.opening_line.OpeningLine.TheVariants as line
use Rattle.album_wire.specs.declared.opening_shape.Header.{Header}
use Rattle.album_wire.specs.declared.opening_shape.TheConstants.{DEFAULT_LIMIT, DEFAULT_POLICY}
use Rattle.album_explain.specs.Explanations.{refused_json}
use Rattle.album_explain_store.specs.declared.openings.OpeningLines.{OpeningLines}
use Rattle.album_explain_store.specs.declared.openings.OpeningLines.TheVariants as kept
use Rattle.album_explain_store.specs.declared.explanations.Kind.{Kind}
use Rattle.album_explain_store.specs.declared.explanations.Kind.TheVariants as kind
use Rattle.album_explain_store.specs.declared.explanations.Lines.TheVariants as lines
use Rattle.album_explain_store.specs.declared.explanations.Taken.{Taken}
use Rattle.album_explain_store.specs.Readings.{read_by, event_reading}
use Rattle.album_explain_store.specs.Explanations.{Step, ExplainsBy}

-- the script between two lines: no line was read; it is being opened, with these items so far; or all are there
pub data Stage : Type 0 where
  Unopened : Stage
  BeingOpened : Header → ValuesSaid → Stage
  Begun : Stage

abbrev pub stage_of : OpeningLines → Stage
stage_of kept.Unopened = Unopened
stage_of (kept.BeingOpened so_far) = BeingOpened so_far.header so_far.values
stage_of kept.Begun = Begun

abbrev pub has_begun : Stage → Bool
has_begun Unopened = false
has_begun (BeingOpened header values) = false
has_begun Begun = true

abbrev pub taken_opening : Kind → Taken
taken_opening kind = record { lines = lines.Opening; kind = kind }

-- a header that is one, which takes the first line's place where that is refused
abbrev pub any_header : Header
any_header =
    record {
      parts = 1;
      limit = DEFAULT_LIMIT;
      policy = DEFAULT_POLICY;
      checked = false;
      root = None;
      first = 0;
      trace = false;
    }

-- the header that the first line says
abbrev pub header_said : Result OpeningLine Refusal → Result Header Refusal
header_said (Ok (line.Open header)) = Ok header
header_said (Ok (line.Item item stamp value)) = Err BadRequest
header_said (Ok line.Begin) = Err BadRequest
header_said (Err refusal) = Err refusal

-- what the first line is read as, by the header that it says
abbrev pub header_reading : Result Header Refusal → Result Taken Refusal
header_reading (Ok header) = Ok (taken_opening (kind.Open header.checked))
header_reading (Err refusal) = Err refusal

-- the explainer's stage after the first line
abbrev pub opened_by : Result Header Refusal → Stage
opened_by (Ok header) = BeingOpened header no_values
opened_by (Err refusal) = BeingOpened any_header no_values

-- the header comes first
abbrev pub first_step : Result OpeningLine Refusal → Step Stage
first_step said = record { reading = header_reading (header_said said); next = opened_by (header_said said) }

-- the items that were taken are an opening
abbrev pub begin_reading : Header → ValuesSaid → Result Taken Refusal
begin_reading header values =
    if is_opening (opening_of header values) then Ok (taken_opening kind.Begin) else Err BadOpening

-- then come the items, and then that these are all; a line that is refused is left out
abbrev pub later_step : Header → ValuesSaid → Result OpeningLine Refusal → Step Stage
later_step header values (Ok (line.Open other)) = record { reading = Err BadRequest; next = BeingOpened header values }
later_step header values (Ok (line.Item item stamp value)) =
    record { reading = Ok (taken_opening kind.Item); next = BeingOpened header (with_value values item stamp value) }
later_step header values (Ok line.Begin) = record { reading = begin_reading header values; next = Begun }
later_step header values (Err refusal) = record { reading = Err refusal; next = BeingOpened header values }

-- events follow the opening, whether it was one or not
abbrev pub opening_step : Stage → Line → Step Stage
opening_step Unopened line = first_step (read_by opening_line_of line)
opening_step (BeingOpened header values) line = later_step header values (read_by opening_line_of line)
opening_step Begun line = record { reading = event_reading line; next = Begun }

-- the explanation of a line of a script
abbrev pub ExplainsScriptLine : OpeningLines → ℕ → Line → Bool → List ℕ → OpeningLines → Type 0
ExplainsScriptLine old number line is_refused text new =
    ExplainsBy (opening_step (stage_of old) line) (stage_of old) number is_refused text (stage_of new)

-- that memory ran out is an explanation of every line
pub script_line_explanation : (old : OpeningLines) (number : ℕ) (line : Line)
    → (is_refused : Bool) × (text : List ℕ) × (new : OpeningLines)
    × ExplainsScriptLine old number line is_refused text new
script_line_explanation old number line =
    (true, line_text (refused_json number OutOfMemory None), old, inr ((refl, (None, refl)), refl))
