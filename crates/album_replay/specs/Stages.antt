-- The stage of the engine of replays, as the definition of what is printed sees it. That definition also knows the
-- past, which no code keeps.
use Rattle.std.specs.Prelude.{◌≡◌, ◌≢◌, ◌⊎◌, ◌++◌, ℕ, List, [], Bool, true, false, Result, Ok, Err}
use Rattle.album_stamps.specs.declared.refusals.Refusal.{Refusal}
use Rattle.album_stamps.specs.declared.refusals.Refusal.TheVariants.{OutOfMemory}
use Rattle.album_world.specs.Past.{Past}
use Rattle.album_lines.specs.Lines.{Line}
use Rattle.album_replay.specs.Epochs.{running}
use Rattle.album_replay.specs.Replay.{Stage, Unopened, BeingOpened, Over, Step, IsStep, Replays, StopsAmid, EndsAmid, begun, refused, silently, end_text}
use Rattle.album_wire.specs.FirstValues.{opening_of}
use Rattle.album_judge.specs.declared.fault.Fault.{Fault}
use Rattle.album_judge.specs.declared.fault.Fault.TheVariants.{Reading, Writing, Memory}
use Rattle.album_replay.specs.declared.openings.SoFar.{SoFar}
use Rattle.album_replay.specs.declared.openings.SoFar.TheVariants as so_far
use Rattle.album_replay.specs.declared.engine.stages.Stage.{Stage as Kept}
use Rattle.album_replay.specs.declared.engine.stages.Stage.TheVariants as kept
use Rattle.album_judge.specs.Writes.{IsCutShort}

-- the stage of the engine
abbrev pub stage_of : Kept → Past → Stage
stage_of kept.Unopened past = Unopened
stage_of (kept.BeingOpened header values) past = BeingOpened header values
stage_of (kept.Running epoch) past = running epoch past
stage_of kept.Over past = Over

-- ---- the opening

-- nothing has happened to a world that opens
abbrev pub no_past : Past
no_past = record { asked = []; transactions = []; begun = []; reads = []; answers = []; noted = [] }

-- what the lines have said so far, as a step
abbrev pub step_to : SoFar → Step
step_to (so_far.More header values) = silently (BeingOpened header values)
step_to (so_far.Whole header values) = begun (opening_of header values) header.trace

-- A step of the opening: its lines continue, or it is refused for the reason that the step says, or for memory.
abbrev pub GoesOn : Step → Result SoFar Refusal → Type 0
GoesOn says (Ok so_far) = says ≡ step_to so_far
GoesOn says (Err refusal) = refusal ≢ OutOfMemory → says ≡ refused refusal

-- A step of the opening: it continues without a text, or is refused for the reason that the step says, or for memory.
abbrev pub Opens : Step → Result Kept Refusal → Type 0
Opens says (Ok next) = says ≡ silently (stage_of next no_past)
Opens says (Err refusal) = refusal ≢ OutOfMemory → says ≡ refused refusal

-- the result of that, as a step
abbrev pub step_by : Result Kept Refusal → Step
step_by (Ok next) = silently (stage_of next no_past)
step_by (Err refusal) = refused refusal

-- the opening was refused
abbrev pub is_over : Kept → Bool
is_over kept.Unopened = false
is_over (kept.BeingOpened header values) = false
is_over (kept.Running epoch) = false
is_over kept.Over = true

-- whatever had happened to the world, the line is taken, and this is printed of it
abbrev pub Steps : Kept → Past → Line → Kept → List ℕ → Type 0
Steps old past line new text =
    (after : Past) × IsStep (stage_of old past) line (record { next = stage_of new after; text = text })

-- what a fault leaves of the text of lines
abbrev pub IsLeftAmid : Fault → Stage → List Line → List ℕ → Type 0
IsLeftAmid Reading stage lines text = ⊥
IsLeftAmid Writing stage lines text = IsCutShort (λ whole. (last : Stage) × Replays stage lines last whole) text
IsLeftAmid Memory stage lines text = StopsAmid stage lines text

-- the same of lines, one after another
abbrev pub Replayed : Kept → Past → List Line → Kept → List ℕ → Type 0
Replayed old past lines new text = (after : Past) × Replays (stage_of old past) lines (stage_of new after) text

-- ---- the end

-- the last lines are taken, and the end's text is printed
pub record Ends (stage : Stage) (lines : List Line) (text : List ℕ) : Type 0 where
  pub last : Stage
  pub front : List ℕ
  pub taken : Replays stage lines last front
  pub whole : text ≡ front ++ end_text last

-- what a fault leaves of that
abbrev pub IsLeftAtEnd : Fault → Stage → List Line → List ℕ → Type 0
IsLeftAtEnd Reading stage lines text = ⊥
IsLeftAtEnd Writing stage lines text = IsCutShort (Ends stage lines) text
IsLeftAtEnd Memory stage lines text = StopsAmid stage lines text ⊎ EndsAmid stage lines text
