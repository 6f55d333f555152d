-- The shapes of the lines of a connection: their fields, each of its form, or a bad request.
use Rattle.std.specs.Prelude.{ℕ, List, [], ◌∷◌, codes, if◌then◌else◌, Result, Ok}
use Rattle.serde_json.specs.Data.{Data}
use Rattle.album_stamps.specs.declared.refusals.Refusal.{Refusal}
use Rattle.album_stamps.specs.Outcome.{◌>>=◌}
use Rattle.album_lines.specs.Fields.{guard, only_of, field_of, has, text_of, truth_of}
use Rattle.album_wire.specs.AskShape.{SpelledAsk, spelled_ask, ask_shape_of}
use Rattle.album_wire.specs.EventShape.{part_named, sweep_of, trim_of}
use Rattle.album_wire.specs.declared.talk_shape.TalkShape.{TalkShape}
use Rattle.album_wire.specs.declared.talk_shape.TalkShape.TheVariants as shape

-- a line after the first, as it is spelled
pub data SpelledTalk : Type 0 where
  Asked : SpelledAsk → SpelledTalk
  Pending : (part : ℕ) → SpelledTalk
  Swept : (part stamp : ℕ) → SpelledTalk
  Dumped : SpelledTalk
  Trimmed : (part item : ℕ) → SpelledTalk

abbrev pub spelled_talk : TalkShape → SpelledTalk
spelled_talk (shape.Ask ask) = Asked (spelled_ask ask)
spelled_talk (shape.Pending part) = Pending part
spelled_talk (shape.Sweep part stamp) = Swept part stamp
spelled_talk shape.Dump = Dumped
spelled_talk (shape.Trim part item) = Trimmed part item

-- the first: {"who": text}
unfoldable pub hello_shape_of : Data → Result (List ℕ) Refusal
hello_shape_of d = do
  _ ← only_of (codes "who" ∷ []) d
  field_of (codes "who") d >>= text_of

-- {"ask": {..}}
unfoldable pub talk_ask_shape_of : Data → Result SpelledTalk Refusal
talk_ask_shape_of d = do
  _ ← only_of (codes "ask" ∷ []) d
  ask ← field_of (codes "ask") d >>= ask_shape_of
  Ok (Asked ask)

-- {"pending": a partition's number}
unfoldable pub pending_shape_of : Data → Result SpelledTalk Refusal
pending_shape_of d = do
  _ ← only_of (codes "pending" ∷ []) d
  part ← field_of (codes "pending") d >>= part_named
  Ok (Pending part)

-- {"sweep": {..}}
unfoldable pub talk_sweep_shape_of : Data → Result SpelledTalk Refusal
talk_sweep_shape_of d = do
  _ ← only_of (codes "sweep" ∷ []) d
  sweep ← field_of (codes "sweep") d >>= sweep_of
  Ok (Swept sweep.0 sweep.1)

-- {"dump": true}
unfoldable pub dump_shape_of : Data → Result SpelledTalk Refusal
dump_shape_of d = do
  _ ← only_of (codes "dump" ∷ []) d
  dump ← field_of (codes "dump") d >>= truth_of
  _ ← guard dump
  Ok Dumped

-- {"trim": {..}}
unfoldable pub talk_trim_shape_of : Data → Result SpelledTalk Refusal
talk_trim_shape_of d = do
  _ ← only_of (codes "trim" ∷ []) d
  trim ← field_of (codes "trim") d >>= trim_of
  Ok (Trimmed trim.0 trim.1)

-- a line after the first: its names say which it is
abbrev pub talk_shape_of : Data → Result SpelledTalk Refusal
talk_shape_of d =
    if has (codes "ask") d then talk_ask_shape_of d
    else if has (codes "pending") d then pending_shape_of d
    else if has (codes "sweep") d then talk_sweep_shape_of d
    else if has (codes "dump") d then dump_shape_of d
    else talk_trim_shape_of d
