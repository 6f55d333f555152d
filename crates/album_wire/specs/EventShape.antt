-- The shape of an event's line: its fields, each of its form, or a bad request.
use Rattle.std.specs.Prelude.{ℕ, suc, ◌-◌, List, [], ◌∷◌, codes, nat_le, if◌then◌else◌, Result, Ok}
use Rattle.std.specs.Option.{ok_or}
use Rattle.serde_json.specs.Data.{Data}
use Rattle.album_stamps.specs.declared.refusals.Refusal.{Refusal}
use Rattle.album_stamps.specs.declared.refusals.Refusal.TheVariants.{BadRequest}
use Rattle.album_stamps.specs.Outcome.{◌>>=◌}
use Rattle.album_stamps.specs.Stamps.{client_of_number, stamp_of_value}
use Rattle.album_permits.specs.declared.events.Event.TheVariants as event
use Rattle.album_lines.specs.Fields.{guard, only_of, field_of, has, item_of, text_of, truth_of, whole_of, is_list, sized}
use Rattle.album_wire.specs.ItemShapes.{item_named}
use Rattle.album_wire.specs.AskShape.{SpelledAsk, spelled_ask, ask_shape_of}
use Rattle.album_wire.specs.declared.event_shape.EventShape.{EventShape}
use Rattle.album_wire.specs.declared.event_shape.EventShape.TheVariants as shape
use Rattle.album_wire.specs.declared.event_shape.Spelled.{Spelled}
use Rattle.album_wire.specs.declared.event_shape.Spelled.TheVariants as spelled
use Rattle.album_wire.specs.declared.event_shape.TheConstants.{MAX_DELIVERIES, MAX_PART}

-- the line of an event as it is spelled: of every event but an ask, its shape is all
pub data SpelledEvent : Type 0 where
  Asked : (client : ℕ) → (who : List ℕ) → SpelledAsk → SpelledEvent
  Whole : Spelled → SpelledEvent

abbrev pub spelled_event : EventShape → SpelledEvent
spelled_event (shape.Asked client who ask) = Asked client who.now (spelled_ask ask)
spelled_event (shape.Whole events) = Whole events

-- ---- numbers

-- the number of a client, from 1
abbrev pub client_named : Data → Result ℕ Refusal
client_named d = whole_of d >>= λ number. ok_or (client_of_number number) BadRequest

-- a stamp
abbrev pub stamp_named : Data → Result ℕ Refusal
stamp_named d = whole_of d >>= λ number. ok_or (stamp_of_value number) BadRequest

-- the number of a partition, also of one that is not there
unfoldable pub part_named : Data → Result ℕ Refusal
part_named d = do
  part ← whole_of d
  _ ← guard (nat_le part MAX_PART)
  Ok part

-- ---- events

-- {"ask": {..}, "client": its number, "who": text}
unfoldable pub asked_shape_of : Data → Result SpelledEvent Refusal
asked_shape_of d = do
  _ ← only_of (codes "ask" ∷ codes "client" ∷ codes "who" ∷ []) d
  ask ← field_of (codes "ask") d >>= ask_shape_of
  client ← field_of (codes "client") d >>= client_named
  who ← field_of (codes "who") d >>= text_of
  Ok (Asked client who ask)

-- [first, last], of at most so many
unfoldable pub range_of : Data → Result Spelled Refusal
range_of d = do
  _ ← sized 2 d
  first ← item_of 0 d >>= whole_of
  last ← item_of 1 d >>= whole_of
  _ ← guard (nat_le (suc last - first) MAX_DELIVERIES)
  Ok (spelled.Range first last)

-- the number of one message, or a range
abbrev pub delivered_of : Data → Result Spelled Refusal
delivered_of d = if is_list d then range_of d else whole_of d >>= λ number. Ok (spelled.One (event.Deliver number))

-- {"deliver": number or range}
unfoldable pub deliver_shape_of : Data → Result SpelledEvent Refusal
deliver_shape_of d = do
  _ ← only_of (codes "deliver" ∷ []) d
  events ← field_of (codes "deliver") d >>= delivered_of
  Ok (Whole events)

-- {part, stamp}
unfoldable pub sweep_of : Data → Result (ℕ × ℕ) Refusal
sweep_of d = do
  _ ← only_of (codes "part" ∷ codes "stamp" ∷ []) d
  part ← field_of (codes "part") d >>= part_named
  stamp ← field_of (codes "stamp") d >>= stamp_named
  Ok (part, stamp)

-- {"sweep": {..}}
unfoldable pub sweep_shape_of : Data → Result SpelledEvent Refusal
sweep_shape_of d = do
  _ ← only_of (codes "sweep" ∷ []) d
  sweep ← field_of (codes "sweep") d >>= sweep_of
  Ok (Whole (spelled.One (event.Sweep sweep.0 sweep.1)))

-- {"stop": a client's number}
unfoldable pub stop_shape_of : Data → Result SpelledEvent Refusal
stop_shape_of d = do
  _ ← only_of (codes "stop" ∷ []) d
  client ← field_of (codes "stop") d >>= client_named
  Ok (Whole (spelled.One (event.Stop client)))

-- {"restart": true}
unfoldable pub restart_shape_of : Data → Result SpelledEvent Refusal
restart_shape_of d = do
  _ ← only_of (codes "restart" ∷ []) d
  restart ← field_of (codes "restart") d >>= truth_of
  _ ← guard restart
  Ok (Whole spelled.Restart)

-- {item, part}
unfoldable pub trim_of : Data → Result (ℕ × ℕ) Refusal
trim_of d = do
  _ ← only_of (codes "item" ∷ codes "part" ∷ []) d
  item ← field_of (codes "item") d >>= item_named
  part ← field_of (codes "part") d >>= part_named
  Ok (part, item)

-- {"trim": {..}}
unfoldable pub trim_shape_of : Data → Result SpelledEvent Refusal
trim_shape_of d = do
  _ ← only_of (codes "trim" ∷ []) d
  trim ← field_of (codes "trim") d >>= trim_of
  Ok (Whole (spelled.One (event.Trim trim.0 trim.1)))

-- which of them, its names say
abbrev pub event_shape_of : Data → Result SpelledEvent Refusal
event_shape_of d =
    if has (codes "ask") d then asked_shape_of d
    else if has (codes "deliver") d then deliver_shape_of d
    else if has (codes "sweep") d then sweep_shape_of d
    else if has (codes "stop") d then stop_shape_of d
    else if has (codes "restart") d then restart_shape_of d
    else trim_shape_of d
