-- Which events a line spells.
use Rattle.std.specs.Prelude.{ℕ, suc, ◌-◌, List, Result, Ok, map}
use Rattle.std.specs.List.{range_with_len}
use Rattle.std.specs.Option.{ok_or}
use Rattle.album_stamps.specs.declared.refusals.Refusal.{Refusal}
use Rattle.album_stamps.specs.declared.refusals.Refusal.TheVariants.{BadWho}
use Rattle.album_stamps.specs.Outcome.{◌>>=◌}
use Rattle.album_eval.specs.Matching.{principal_of}
use Rattle.album_permits.specs.declared.events.Event.{Event}
use Rattle.album_permits.specs.declared.events.Event.TheVariants as event
use Rattle.album_lines.specs.Fields.{data_of}
use Rattle.album_wire.specs.Asks.{ask_read}
use Rattle.album_wire.specs.EventShape.{SpelledEvent, Asked, Whole, event_shape_of}
use Rattle.album_wire.specs.declared.event_shape.Spelled.{Spelled}
use Rattle.album_wire.specs.declared.event_shape.Spelled.TheVariants as spelled

-- the principal, and then the ask
unfoldable pub event_read : SpelledEvent → Result Spelled Refusal
event_read (Asked client who ask) = do
  who ← ok_or (principal_of who) BadWho
  ask ← ask_read ask
  Ok (spelled.One (event.Ask client who ask))
event_read (Whole events) = Ok events

-- what the bytes of an event's line spell, or the first test that they fail
unfoldable pub event_line_of : List ℕ → Result Spelled Refusal
event_line_of bytes = data_of bytes >>= event_shape_of >>= event_read

-- ---- its events

-- the deliveries from the first number up to the last; none, where the first is greater
abbrev pub deliveries : ℕ → ℕ → List Event
deliveries first last = map event.Deliver (range_with_len first (suc last - first))
