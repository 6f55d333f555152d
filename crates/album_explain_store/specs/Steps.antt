-- The outcomes of the lines of events, and of those of a connection.
use Rattle.std.specs.Prelude.{Result, Ok, Err}
use Rattle.album_stamps.specs.declared.refusals.Refusal.{Refusal}
use Rattle.album_eval.specs.declared.facts.Principal.{Principal}
use Rattle.album_lines.specs.Lines.{Line}
use Rattle.album_wire.specs.TalkLine.{hello_line_of}
use Rattle.album_explain_store.specs.declared.events.EventLines.{EventLines}
use Rattle.album_explain_store.specs.declared.talks.TalkLines.{TalkLines}
use Rattle.album_explain_store.specs.declared.talks.TalkLines.TheVariants.{Stranger, Known}
use Rattle.album_explain_store.specs.Readings.{read_by, event_reading, hello_reading, talk_reading}
use Rattle.album_explain_store.specs.Explanations.{Step}

-- each by itself
abbrev pub event_step : EventLines → Line → Step EventLines
event_step old line = record { reading = event_reading line; next = old }

-- the principal is known, once a line that names it is taken
abbrev pub known_by : Result Principal Refusal → TalkLines
known_by (Ok who) = Known who
known_by (Err refusal) = Stranger

abbrev pub talk_step : TalkLines → Line → Step TalkLines
talk_step Stranger line = record { reading = hello_reading line; next = known_by (read_by hello_line_of line) }
talk_step (Known who) line = record { reading = talk_reading who line; next = Known who }
