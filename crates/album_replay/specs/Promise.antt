-- What is promised of all that `replay` prints.
--
-- The first lines of an input spell an opening, and the others events, up to a restart. Who asks in one is root where
-- the opening names it so. After a restart the next epoch opens on
-- what the world leaves, and the lines after the restart are its events. Whatever is printed is a refusal, or that the
-- next epoch has opened, or it is an output of the world that opened so, once events of the lines before it, in their
-- order, have happened there. (An event that memory ran out on, or on whose line it did, is left out, and so are those
-- that come later in the same line.) On that world, and of its whole past, all promises hold; each line that is printed
-- as an answer is the one answer to the last request that its client made there; and the opening of each epoch but the
-- first is what the one before carries.
use Rattle.std.specs.Prelude.{◌≡◌, ◌+◌, ℕ, List, [], ◌∷◌, ◌++◌, not, true, map, filter, if◌then◌else◌, Contains, Option, Result, Ok, Err}
use Rattle.std.specs.List.{flat_map}
use Rattle.album_stamps.specs.declared.refusals.Refusal.{Refusal}
use Rattle.album_items.specs.Openings.{is_opening}
use Rattle.album_items.specs.declared.openings.Opening.{Opening}
use Rattle.album_items.specs.declared.values.Value.{Value}
use Rattle.album_calls.specs.declared.messages.Message.{Message}
use Rattle.album_client.specs.Terms.{terms_of}
use Rattle.album_world.specs.Past.{World}
use Rattle.album_world.specs.Atomic.{ViewsAreReadAtomic}
use Rattle.album_world.specs.Busy.{BusyHasItsCause}
use Rattle.album_world.specs.Events.{IsNoteKept}
use Rattle.album_world.specs.Fresh.{ViewsAreFresh}
use Rattle.album_world.specs.Granted.{WritesAreGranted}
use Rattle.album_world.specs.Outcomes.{OutcomesAreTrue}
use Rattle.album_world.specs.Requests.{AnswersAreToRequests, IsAnsweredLast}
use Rattle.album_world.specs.Rulings.{RulingsHold}
use Rattle.album_world.specs.Runs.{run_of, past_answer}
use Rattle.album_world.specs.Updates.{NoUpdateIsLost}
use Rattle.album_permits.specs.declared.events.Event.{Event}
use Rattle.album_permits.specs.declared.outs.Out.{Out}
use Rattle.album_permits.specs.declared.outs.Out.TheVariants as out
use Rattle.album_wire.specs.FirstValues.{ValuesSaid, no_values, with_value, opening_of}
use Rattle.album_wire.specs.EventLine.{deliveries}
use Rattle.album_lines.specs.Lines.{Line, is_blank, lines_of}
use Rattle.album_lines.specs.Output.{refusal_line}
use Rattle.album_wire.specs.OutJson.{out_line}
use Rattle.album_wire.specs.ShownStamps.{out_shown}
use Rattle.album_wire.specs.declared.event_shape.Spelled.{Spelled}
use Rattle.album_wire.specs.declared.event_shape.Spelled.TheVariants as spelled
use Rattle.album_wire.specs.declared.opening_line.OpeningLine.{OpeningLine}
use Rattle.album_wire.specs.declared.opening_line.OpeningLine.TheVariants as line
use Rattle.album_wire.specs.declared.opening_shape.Header.{Header}
use Rattle.album_wire.specs.TalkJson.{talk_text}
use Rattle.album_wire.specs.declared.talk_json.TalkOut.TheVariants as talk
use Rattle.album_epochs.specs.Carried.{AreNextRows, AreNextStamps}
use Rattle.album_restarts.specs.Next.{IsNextOpening}
use Rattle.album_restarts.specs.Worlds.{cut_of_world}
use Rattle.album_replay.specs.Replay.{Epoch, event_line_read, opening_line_read}

-- ---- what lines spell

-- what the lines of an opening say; blank ones count for nothing
abbrev pub opening_said : List Line → List (Result OpeningLine Refusal)
opening_said lines = map opening_line_read (filter (λ line. not (is_blank line)) lines)

-- an item, its first value, and the stamp of that
pub record ItemSaid : Type 0 where
  pub item : ℕ
  pub stamp : ℕ
  pub value : Value

abbrev pub item_said : ItemSaid → Result OpeningLine Refusal
item_said said = Ok (line.Item said.item said.stamp said.value)

-- these items one after another
abbrev pub with_items : ValuesSaid → List ItemSaid → ValuesSaid
with_items values [] = values
with_items values (said ∷ items) = with_items (with_value values said.item said.stamp said.value) items

-- a header, the items, and that these are all; and the opening that this makes passes its check
pub record SpellsOpening (lines : List Line) (opening : Opening) : Type 0 where
  pub header : Header
  pub items : List ItemSaid
  pub said : opening_said lines ≡ Ok (line.Open header) ∷ map item_said items ++ Ok line.Begin ∷ []
  pub is : opening ≡ opening_of header (with_items no_values items)
  pub passes : is_opening opening ≡ true

-- the events that a line spells, where it is read
abbrev pub events_read : Result Spelled Refusal → List Event
events_read (Ok (spelled.One event)) = event ∷ []
events_read (Ok (spelled.Range first last)) = deliveries first last
events_read (Ok spelled.Restart) = []
events_read (Err refusal) = []

-- the events that lines spell, one line after another, each by the principal that acts where this user is root
abbrev pub events_spelled : Option (List ℕ) → List Line → List Event
events_spelled root lines =
    flat_map (λ line. if is_blank line then [] else events_read (event_line_read root line)) lines

-- some of these events, in their order
pub data AreAmong : List Event → List Event → Type 0 where
  nothing : AreAmong [] []
  taken : {event : Event} {some all : List Event} → AreAmong some all → AreAmong (event ∷ some) (event ∷ all)
  left : {event : Event} {some all : List Event} → AreAmong some all → AreAmong some (event ∷ all)

-- an epoch opens on what the one before carries, and shows it with the stamps at which it was written
pub record IsCarriedOver (opening : Opening) (events : List Event) (next : Opening) : Type 0 where
  pub leaves : IsNextOpening opening (run_of opening events).now next
  pub rows : AreNextRows (cut_of_world opening (run_of opening events)) next.items
  pub stamps : AreNextStamps (cut_of_world opening (run_of opening events)) opening.stamps next.stamps

-- These lines led to the epoch of this number and opening: the first one's are those that spell it. The next one's go
-- on with lines of which events have happened, and end in a restart; it opens on what is carried.
pub data Opens : List Line → ℕ → Opening → Type 0 where
  First : (lines : List Line) (opening : Opening) → SpellsOpening lines opening → Opens lines 1 opening
  Next :
      (lines others : List Line) (line : Line) (number : ℕ) (opening next : Opening) (events : List Event)
      → Opens lines number opening → AreAmong events (events_spelled opening.root others)
      → event_line_read opening.root line ≡ Ok spelled.Restart → IsCarriedOver opening events next
      → Opens (lines ++ others ++ line ∷ []) (number + 1) next

-- the first of the lines led to the epoch, and these are events of the others
pub record Spell (lines : List Line) (number : ℕ) (opening : Opening) (events : List Event) : Type 0 where
  pub first : List Line
  pub others : List Line
  pub split : lines ≡ first ++ others
  pub opens : Opens first number opening
  pub among : AreAmong events (events_spelled opening.root others)

-- the world is the run of the epoch's opening and of these events
pub record IsSpelledBy (lines : List Line) (epoch : Epoch) (world : World) : Type 0 where
  pub events : List Event
  pub spelled : Spell lines epoch.number epoch.opening events
  pub is : world ≡ run_of epoch.opening events

-- ---- what is printed

-- all promises hold of a world that opened so
pub record AllHold (opening : Opening) (world : World) : Type 0 where
  pub rulings_hold : RulingsHold (terms_of opening) world
  pub writes_are_granted : WritesAreGranted (terms_of opening) world
  pub views_are_read_atomic : ViewsAreReadAtomic opening world
  pub views_are_fresh : ViewsAreFresh (terms_of opening) world
  pub outcomes_are_true : OutcomesAreTrue (terms_of opening) world
  pub no_update_is_lost : NoUpdateIsLost opening world
  pub busy_has_its_cause : BusyHasItsCause (terms_of opening) world
  pub answers_are_to_requests : AnswersAreToRequests (terms_of opening) world

-- An answer is the one to its client's last request, and is in the past with what was read for that; so is a note.
abbrev pub IsOf : World → Out → Type 0
IsOf world (out.Sent number) = Unit {0}
IsOf world (out.Noted client note) = IsNoteKept world client note
IsOf world (out.Answered client answer) =
    IsAnsweredLast world client answer × Contains world.past.answers (past_answer world.past.reads client answer)

-- a part of what is printed: a refusal; that an epoch has opened, by these lines; or an output, once these lines are
-- read, of the world of this epoch in which these events have happened, with the message of it in a trace
pub data Printed : Type 0 where
  Refused : Refusal → Printed
  Restarted : List Line → (number : ℕ) → Opening → Printed
  Output : List Line → (number : ℕ) → Opening → List Event → Out → Option Message → Printed

-- its text
abbrev pub text_of : Printed → List ℕ
text_of (Refused refusal) = refusal_line refusal
text_of (Restarted lines number opening) = talk_text (talk.Restarted number)
text_of (Output lines number opening events output shown) = out_line (out_shown opening.stamps output) shown

-- the lines before it led to the epoch
pub record IsOpenedBy (input lines : List Line) (number : ℕ) (opening : Opening) : Type 0 where
  pub later : List Line
  pub before : input ≡ lines ++ later
  pub opens : Opens lines number opening

-- the output is of the world that the lines before it spell, and all promises hold there
pub record IsOutputOf
    (input lines : List Line) (number : ℕ) (opening : Opening) (events : List Event) (output : Out)
    : Type 0 where
  pub later : List Line
  pub before : input ≡ lines ++ later
  pub spelled : Spell lines number opening events
  pub hold : AllHold opening (run_of opening events)
  pub is : IsOf (run_of opening events) output

abbrev pub IsRight : List Line → Printed → Type 0
IsRight input (Refused refusal) = Unit {0}
IsRight input (Restarted lines number opening) = IsOpenedBy input lines number opening
IsRight input (Output lines number opening events output shown) =
    IsOutputOf input lines number opening events output

-- ---- the promise

-- the text is that of such parts, one after another
pub record IsAsPromised (input text : List ℕ) : Type 0 where
  pub parts : List Printed
  pub whole : text ≡ flat_map text_of parts
  pub right : (part : Printed) → Contains parts part → IsRight (lines_of input) part
