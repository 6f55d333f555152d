-- What is read of a store's lines.
use Rattle.std.specs.Prelude.{ℕ, List, Option, Some, None, Result, Ok, Err}
use Rattle.std.specs.Option.{option_map_or}
use Rattle.album_stamps.specs.Outcome.{◌>>=◌}
use Rattle.album_stamps.specs.declared.refusals.Refusal.{Refusal}
use Rattle.album_stamps.specs.declared.refusals.Refusal.TheVariants.{BadLine}
use Rattle.album_eval.specs.declared.facts.Principal.{Principal}
use Rattle.album_views.specs.Checks.{refusal_of}
use Rattle.album_permits.specs.declared.events.Event.{Event}
use Rattle.album_permits.specs.declared.events.Event.TheVariants as event
use Rattle.album_lines.specs.Lines.{Line}
use Rattle.album_wire.specs.EventLine.{event_line_of}
use Rattle.album_wire.specs.TalkLine.{hello_line_of, talk_line_of}
use Rattle.album_wire.specs.declared.event_shape.Spelled.{Spelled}
use Rattle.album_wire.specs.declared.event_shape.Spelled.TheVariants as spelled
use Rattle.album_wire.specs.declared.talk_line.TalkLine.{TalkLine}
use Rattle.album_wire.specs.declared.talk_line.TalkLine.TheVariants as line
use Rattle.album_explain_store.specs.declared.explanations.Lines.TheVariants.{Events, Talk}
use Rattle.album_explain_store.specs.declared.explanations.Kind.{Kind}
use Rattle.album_explain_store.specs.declared.explanations.Kind.TheVariants as kind
use Rattle.album_explain_store.specs.declared.explanations.Taken.{Taken}

-- nothing is read of a line that is too long
abbrev pub read_by : {A : Type 0} → (List ℕ → Result A Refusal) → Line → Result A Refusal
read_by reads None = Err BadLine
read_by reads (Some bytes) = reads bytes

-- a line that can be read is taken as this, unless it is refused for what it asks
abbrev pub unless_refused : Option Refusal → Taken → Result Taken Refusal
unless_refused refusal taken = option_map_or Err refusal (Ok taken)

-- ---- events

abbrev pub kind_of_event : Event → Kind
kind_of_event (event.Ask client who ask) = kind.Ask
kind_of_event (event.Deliver number) = kind.Deliver
kind_of_event (event.Sweep part stamp) = kind.Sweep
kind_of_event (event.Stop client) = kind.Stop
kind_of_event (event.Trim part item) = kind.Trim

abbrev pub kind_of_events : Spelled → Kind
kind_of_events (spelled.One event) = kind_of_event event
kind_of_events (spelled.Range first last) = kind.Deliver
kind_of_events spelled.Restart = kind.Restart

-- why an event is refused before anything is read for it: an ask by its check
abbrev pub refusal_in_event : Event → Option Refusal
refusal_in_event (event.Ask client who ask) = refusal_of ask who
refusal_in_event (event.Deliver number) = None
refusal_in_event (event.Sweep part stamp) = None
refusal_in_event (event.Stop client) = None
refusal_in_event (event.Trim part item) = None

abbrev pub refusal_in_events : Spelled → Option Refusal
refusal_in_events (spelled.One event) = refusal_in_event event
refusal_in_events (spelled.Range first last) = None
refusal_in_events spelled.Restart = None

abbrev pub events_reading : Spelled → Result Taken Refusal
events_reading said = unless_refused (refusal_in_events said) (record { lines = Events; kind = kind_of_events said })

-- the line of an event
abbrev pub event_reading : Line → Result Taken Refusal
event_reading line = read_by event_line_of line >>= events_reading

-- ---- a connection

-- its first line, until one is taken
abbrev pub hello_reading : Line → Result Taken Refusal
hello_reading line = read_by hello_line_of line >>= (λ who. Ok (record { lines = Talk; kind = kind.Who }))

abbrev pub kind_of_talk : TalkLine → Kind
kind_of_talk (line.Ask ask) = kind.Ask
kind_of_talk (line.Pending part) = kind.Pending
kind_of_talk (line.Sweep part stamp) = kind.Sweep
kind_of_talk line.Dump = kind.Dump
kind_of_talk (line.Trim part item) = kind.Trim

-- why a line is refused to who talks: an ask as in an event
abbrev pub refusal_in_talk : Principal → TalkLine → Option Refusal
refusal_in_talk who (line.Ask ask) = refusal_of ask who
refusal_in_talk who (line.Pending part) = None
refusal_in_talk who (line.Sweep part stamp) = None
refusal_in_talk who line.Dump = None
refusal_in_talk who (line.Trim part item) = None

abbrev pub line_reading : Principal → TalkLine → Result Taken Refusal
line_reading who said = unless_refused (refusal_in_talk who said) (record { lines = Talk; kind = kind_of_talk said })

-- a later line of a connection
abbrev pub talk_reading : Principal → Line → Result Taken Refusal
talk_reading who line = read_by talk_line_of line >>= line_reading who
