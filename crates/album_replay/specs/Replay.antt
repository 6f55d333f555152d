-- The text of a replay: what is printed of the lines of an opening, and of the events that the lines after it spell.
use Rattle.std.specs.Prelude.{◌≡◌, ◌≢◌, ◌⊎◌, ◌+◌, List, [], ◌∷◌, ◌++◌, ℕ, Bool, true, false, if◌then◌else◌, MatchBool, Option, Some, None, Result, Ok, Err}
use Rattle.std.specs.List.{flat_map}
use Rattle.album_stamps.specs.declared.refusals.Refusal.{Refusal}
use Rattle.album_stamps.specs.declared.refusals.Refusal.TheVariants.{OutOfMemory, BadLine, BadRequest, BadOpening}
use Rattle.album_stamps.specs.Outcome.{◌>>=◌}
use Rattle.album_eval.specs.Matching.{acting}
use Rattle.album_items.specs.FirstStamps.{Stamps}
use Rattle.album_items.specs.Openings.{is_opening}
use Rattle.album_items.specs.declared.openings.Opening.{Opening}
use Rattle.album_calls.specs.declared.messages.Message.{Message}
use Rattle.album_client.specs.Terms.{Terms, terms_of}
use Rattle.album_world.specs.State.{Now, message_of}
use Rattle.album_world.specs.Past.{World}
use Rattle.album_world.specs.Changes.{Change, change_of}
use Rattle.album_world.specs.Runs.{now_after, outs_of, happens, start}
use Rattle.album_permits.specs.declared.events.Event.{Event}
use Rattle.album_permits.specs.declared.events.Event.TheVariants as event
use Rattle.album_permits.specs.declared.outs.Out.{Out}
use Rattle.album_permits.specs.declared.outs.Out.TheVariants as out
use Rattle.album_lines.specs.Lines.{Line, is_blank, ended, lines_of}
use Rattle.album_wire.specs.FirstValues.{ValuesSaid, no_values, with_value, opening_of}
use Rattle.album_wire.specs.OpeningLine.{opening_line_of}
use Rattle.album_wire.specs.EventLine.{event_line_of, deliveries}
use Rattle.album_lines.specs.Output.{refusal_line}
use Rattle.album_wire.specs.OutJson.{out_line}
use Rattle.album_wire.specs.ShownStamps.{out_shown}
use Rattle.album_wire.specs.declared.event_shape.Spelled.{Spelled}
use Rattle.album_wire.specs.declared.event_shape.Spelled.TheVariants as spelled
use Rattle.album_wire.specs.declared.opening_line.OpeningLine.{OpeningLine}
use Rattle.album_wire.specs.declared.opening_line.OpeningLine.TheVariants as line
use Rattle.album_wire.specs.declared.opening_shape.Header.{Header}
use Rattle.album_restarts.specs.Next.{IsNextOpening}
use Rattle.album_wire.specs.TalkJson.{talk_text}
use Rattle.album_wire.specs.declared.talk_json.TalkOut.TheVariants as talk
use Rattle.album_judge.specs.declared.fault.Fault.{Fault}
use Rattle.album_judge.specs.declared.fault.Fault.TheVariants.{Reading, Writing, Memory}
use Rattle.album_judge.specs.Writes.{IsPrefixOf, IsCutShort}

-- An epoch: what it opened on, its number, of which the first is 1, and whether its messages are shown.
pub record Epoch : Type 0 where
  pub opening : Opening
  pub number : ℕ
  pub trace : Bool

-- How outputs are shown: whether messages are, and with which stamps first values.
pub record Showing : Type 0 where
  pub trace : Bool
  pub stamps : Stamps

abbrev pub showing : Bool → Stamps → Showing
showing trace stamps = record { trace = trace; stamps = stamps }

abbrev pub showing_of : Epoch → Showing
showing_of epoch = showing epoch.trace epoch.opening.stamps

-- The stage of a replay between two lines. Nothing is opened yet; it is being opened, with these items so far; the
-- world of an epoch runs; or the opening was refused. Then nothing more is printed.
pub data Stage : Type 0 where
  Unopened : Stage
  BeingOpened : Header → ValuesSaid → Stage
  Running : Epoch → World → Stage
  Over : Stage

-- the stage once a line is taken, and what is printed of the line
pub record Step : Type 0 where
  pub next : Stage
  pub text : List ℕ

-- ---- the opening

-- the first refusal of an opening is printed, and ends the run
abbrev pub refused : Refusal → Step
refused refusal = record { next = Over; text = refusal_line refusal }

abbrev pub silently : Stage → Step
silently next = record { next = next; text = [] }

-- the world of the first epoch opens, where it may
abbrev pub begun : Opening → Bool → Step
begun opening trace =
    if is_opening opening
    then silently (Running (record { opening = opening; number = 1; trace = trace }) (start opening))
    else refused BadOpening

-- The header comes first, then the items, then that these are all; a line out of this order is a bad request.
abbrev pub first_line : OpeningLine → Step
first_line (line.Open header) = silently (BeingOpened header no_values)
first_line (line.Item item stamp value) = refused BadRequest
first_line line.Begin = refused BadRequest

abbrev pub later_line : Header → ValuesSaid → OpeningLine → Step
later_line header values (line.Open other) = refused BadRequest
later_line header values (line.Item item stamp value) =
    silently (BeingOpened header (with_value values item stamp value))
later_line header values line.Begin = begun (opening_of header values) header.trace

-- a line that can't be read is refused by the first test that it fails
abbrev pub opened_by : (OpeningLine → Step) → Result OpeningLine Refusal → Step
opened_by taken (Ok said) = taken said
opened_by taken (Err refusal) = refused refusal

-- ---- events

-- the message that is sent, where the world runs in a trace
abbrev pub message_shown : Bool → Now → Out → Option Message
message_shown trace now (out.Sent number) = if trace then message_of now.messages number else None
message_shown trace now (out.Noted client note) = None
message_shown trace now (out.Answered client answer) = None

-- the lines of outputs, with the messages that are there now
abbrev pub outputs_text : Showing → Now → List Out → List ℕ
outputs_text how now outs =
    flat_map (λ output. out_line (out_shown how.stamps output) (message_shown how.trace now output)) outs

-- of an event its outputs, or its refusal
abbrev pub event_text : Showing → Now → Result Change Refusal → List ℕ
event_text how now (Ok change) = outputs_text how (now_after now change) (outs_of now change)
event_text how now (Err refusal) = refusal_line refusal

-- of a delivery in a range its outputs; that there is no such message, for which alone it is refused, is not printed
abbrev pub delivery_text : Showing → Now → Result Change Refusal → List ℕ
delivery_text how now (Ok change) = outputs_text how (now_after now change) (outs_of now change)
delivery_text how now (Err refusal) = []

-- the one or the other: whether it is one of a range
abbrev pub text_in : Bool → Showing → Now → Result Change Refusal → List ℕ
text_in false = event_text
text_in true = delivery_text

-- An event happens, and its text is printed. Where memory runs out on it, that is printed, and nothing has happened.
abbrev pub Happens : (Showing → Now → Result Change Refusal → List ℕ)
    → Terms → Showing → World → Event → World → List ℕ → Type 0
Happens text_of terms how world event next text =
    ((next ≡ happens terms world event) × (text ≡ text_of how world.now (change_of terms world.now event)))
    ⊎ ((next ≡ world) × (text ≡ refusal_line OutOfMemory))

-- the deliveries of a range happen one after another
abbrev pub Delivers : Terms → Showing → World → List Event → World → List ℕ → Type 0
Delivers terms how world [] next text = (next ≡ world) × (text ≡ [])
Delivers terms how world (event ∷ events) next text =
    (between : World) × (first : List ℕ) × (others : List ℕ)
    × Happens delivery_text terms how world event between first
    × Delivers terms how between events next others
    × (text ≡ first ++ others)

-- the events that a line spells; a restart is none of a world
abbrev pub Spells : Terms → Showing → World → Spelled → World → List ℕ → Type 0
Spells terms how world (spelled.One event) next text = Happens event_text terms how world event next text
Spells terms how world (spelled.Range first last) next text =
    Delivers terms how world (deliveries first last) next text
Spells terms how world spelled.Restart next text = ⊥

-- a refused line changes nothing
abbrev pub Runs : Terms → Showing → World → Result Spelled Refusal → World → List ℕ → Type 0
Runs terms how world (Ok events) next text = Spells terms how world events next text
Runs terms how world (Err refusal) next text = (next ≡ world) × (text ≡ refusal_line refusal)

-- ---- a line

-- what a line of the opening says; nothing is read of a line that is too long
abbrev pub opening_line_read : Line → Result OpeningLine Refusal
opening_line_read None = Err BadLine
opening_line_read (Some bytes) = opening_line_of bytes

-- an event, by the principal that acts where this user is root, or nobody is
abbrev pub acting_event : Option (List ℕ) → Event → Event
acting_event root (event.Ask client who ask) = event.Ask client (acting root who) ask
acting_event root (event.Deliver number) = event.Deliver number
acting_event root (event.Sweep part stamp) = event.Sweep part stamp
acting_event root (event.Stop client) = event.Stop client
acting_event root (event.Trim part item) = event.Trim part item

abbrev pub acting_events : Option (List ℕ) → Spelled → Spelled
acting_events root (spelled.One event) = spelled.One (acting_event root event)
acting_events root (spelled.Range first last) = spelled.Range first last
acting_events root spelled.Restart = spelled.Restart

-- the events of a line, each by the principal that acts
abbrev pub event_line_read : Option (List ℕ) → Line → Result Spelled Refusal
event_line_read root None = Err BadLine
event_line_read root (Some bytes) = event_line_of bytes >>= λ events. Ok (acting_events root events)

-- a step of the opening is what its line says, unless memory runs out on that
abbrev pub IsOpened : Step → Step → Type 0
IsOpened says step = (step ≡ says) ⊎ (step ≡ refused OutOfMemory)

-- the line's events run, unless memory runs out on the line
abbrev pub IsPrinted : Terms → Showing → Result Spelled Refusal → World → World → List ℕ → Type 0
IsPrinted terms how read world next text =
    Runs terms how world read next text
    ⊎ ((next ≡ world) × (text ≡ refusal_line OutOfMemory))

-- the events of a line in an epoch
abbrev pub read_in : Epoch → Line → Result Spelled Refusal
read_in epoch line = event_line_read epoch.opening.root line

-- a step of the run
pub record IsRun (epoch : Epoch) (world : World) (line : Line) (step : Step) : Type 0 where
  pub world_then : World
  pub runs : step.next ≡ Running epoch world_then
  pub printed : IsPrinted (terms_of epoch.opening) (showing_of epoch) (read_in epoch line) world world_then step.text

-- the epoch that opens on this, after another one
abbrev pub epoch_after : Epoch → Opening → Epoch
epoch_after epoch next = record { opening = next; number = epoch.number + 1; trace = epoch.trace }

-- The line is a restart: all clients and messages are gone, and the next epoch opens on what the world leaves.
pub record IsRestart (epoch : Epoch) (world : World) (line : Line) (step : Step) : Type 0 where
  pub said : read_in epoch line ≡ Ok spelled.Restart
  pub next : Opening
  pub leaves : IsNextOpening epoch.opening world.now next
  pub opens : step.next ≡ Running (epoch_after epoch next) (start next)
  pub printed : step.text ≡ talk_text (talk.Restarted (epoch.number + 1))

-- the step by a line that isn't blank
abbrev pub Takes : Stage → Line → Step → Type 0
Takes Unopened line step = IsOpened (opened_by first_line (opening_line_read line)) step
Takes (BeingOpened header values) line step =
    IsOpened (opened_by (later_line header values) (opening_line_read line)) step
Takes (Running epoch world) line step = IsRun epoch world line step ⊎ IsRestart epoch world line step
Takes Over line step = step ≡ silently Over

-- a blank line is skipped
abbrev pub IsStep : Stage → Line → Step → Type 0
IsStep stage line step = MatchBool (is_blank line) (step ≡ silently stage) (Takes stage line step)

-- ---- the whole text

-- the lines are taken one after another, up to the last stage, and this is printed of them
abbrev pub Replays : Stage → List Line → Stage → List ℕ → Type 0
Replays stage [] last text = (last ≡ stage) × (text ≡ [])
Replays stage (line ∷ lines) last text =
    (step : Step) × (others : List ℕ)
    × IsStep stage line step × Replays step.next lines last others × (text ≡ step.text ++ others)

-- an input that ends before the world runs is no opening
abbrev pub end_text : Stage → List ℕ
end_text Unopened = refusal_line BadOpening
end_text (BeingOpened header values) = refusal_line BadOpening
end_text (Running epoch world) = []
end_text Over = []

-- the text that is printed of an input
pub record IsReplay (input text : List ℕ) : Type 0 where
  pub last : Stage
  pub front : List ℕ
  pub lines : Replays Unopened (lines_of input) last front
  pub whole : text ≡ front ++ end_text last

-- ---- a text that ends early

-- what may be printed of a line
abbrev pub Prints : Stage → Line → List ℕ → Type 0
Prints stage line text = (next : Stage) × IsStep stage line (record { next = next; text = text })

-- lines before one of these are taken, and of the text of that one only a part is there
pub record StopsAmid (stage : Stage) (lines : List Line) (text : List ℕ) : Type 0 where
  pub done : List Line
  pub line : Line
  pub later : List Line
  pub between : Stage
  pub front : List ℕ
  pub part : List ℕ
  pub split : lines ≡ done ++ line ∷ later
  pub taken : Replays stage done between front
  pub amid : IsPrefixOf (Prints between line) part
  pub whole : text ≡ front ++ part

-- the lines are taken, and of the text of the end, which there is, only a part is there
pub record EndsAmid (stage : Stage) (lines : List Line) (text : List ℕ) : Type 0 where
  pub last : Stage
  pub front : List ℕ
  pub part : List ℕ
  pub taken : Replays stage lines last front
  pub due : end_text last ≢ []
  pub amid : IsPrefixOf (λ end. end ≡ end_text last) part
  pub whole : text ≡ front ++ part

-- What a fault leaves of the text of what was read. Reading: each line that has ended is taken, and nothing else.
-- Writing: the text is cut short. Memory: a line, or the end, is not there wholly.
abbrev pub IsLeftOf : Fault → List ℕ → List ℕ → Type 0
IsLeftOf Reading given text = (stage : Stage) × Replays Unopened (ended given) stage text
IsLeftOf Writing given text = IsCutShort (IsReplay given) text
IsLeftOf Memory given text = StopsAmid Unopened (lines_of given) text ⊎ EndsAmid Unopened (lines_of given) text

-- an opening was refused, by a line that has ended
abbrev pub IsOverBy : List ℕ → List ℕ → Type 0
IsOverBy given text = Replays Unopened (ended given) Over text

-- ---- the same, where memory runs out on each restart, and never else

-- the deliveries of a range, with their texts one after another
abbrev pub delivered : Terms → Showing → World → List Event → World × List ℕ
delivered terms how world [] = (world, [])
delivered terms how world (event ∷ events) = (
  (delivered terms how (happens terms world event) events).0,
  delivery_text how world.now (change_of terms world.now event)
      ++ (delivered terms how (happens terms world event) events).1,
)

-- the events that a line spells, with their text
abbrev pub spelled_run : Terms → Showing → World → Spelled → World × List ℕ
spelled_run terms how world (spelled.One event) =
    (happens terms world event, event_text how world.now (change_of terms world.now event))
spelled_run terms how world (spelled.Range first last) = delivered terms how world (deliveries first last)
spelled_run terms how world spelled.Restart = (world, refusal_line OutOfMemory)

abbrev pub line_run : Terms → Showing → World → Result Spelled Refusal → World × List ℕ
line_run terms how world (Ok events) = spelled_run terms how world events
line_run terms how world (Err refusal) = (world, refusal_line refusal)

abbrev pub run_step : Epoch → World × List ℕ → Step
run_step epoch ran = record { next = Running epoch ran.0; text = ran.1 }

abbrev pub taken : Stage → Line → Step
taken Unopened line = opened_by first_line (opening_line_read line)
taken (BeingOpened header values) line = opened_by (later_line header values) (opening_line_read line)
taken (Running epoch world) line =
    run_step epoch (line_run (terms_of epoch.opening) (showing_of epoch) world (read_in epoch line))
taken Over line = silently Over

abbrev pub step_of : Stage → Line → Step
step_of stage line = if is_blank line then silently stage else taken stage line

-- the stage of a replay once the lines are taken, and what is printed of them
abbrev pub replayed : Stage → List Line → Stage × List ℕ
replayed stage [] = (stage, [])
replayed stage (line ∷ lines) = (
  (replayed (step_of stage line).next lines).0,
  (step_of stage line).text ++ (replayed (step_of stage line).next lines).1,
)

-- the text of an input
unfoldable pub replay_text : List ℕ → List ℕ
replay_text input =
    (replayed Unopened (lines_of input)).1 ++ end_text (replayed Unopened (lines_of input)).0
