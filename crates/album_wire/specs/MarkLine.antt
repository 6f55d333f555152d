-- The line of a mark: what a partition has prepared at a stamp.
use Rattle.std.specs.Prelude.{ℕ, List, [], ◌∷◌, codes, Option, Some, None, Result, Ok}
use Rattle.serde_json.specs.Data.{Data}
use Rattle.album_stamps.specs.declared.refusals.Refusal.{Refusal}
use Rattle.album_stamps.specs.Outcome.{◌>>=◌}
use Rattle.album_items.specs.declared.values.Value.{Value}
use Rattle.album_items.specs.declared.values.Value.TheVariants as value
use Rattle.album_lines.specs.Fields.{data_of}
use Rattle.album_lines.specs.Output.{line_text}
use Rattle.album_lines.specs.Spelling.{whole_data}
use Rattle.album_lines.specs.Values.{each_of}
use Rattle.album_wire.specs.ItemShapes.{SpelledValue}
use Rattle.album_wire.specs.MarkShape.{SpelledWrite, SpelledMark, mark_shape_of}
use Rattle.album_wire.specs.MessageJson.{writes_json}
use Rattle.album_wire.specs.OpeningLine.{value_read}
use Rattle.album_wire.specs.ValueJson.{object_data, item_list_json}
use Rattle.album_wire.specs.declared.mark_line.PreparedMark.{PreparedMark}

-- ---- read

-- a value as an opening's line has it; where there is none, it is missing
abbrev pub written_read : Option SpelledValue → Result Value Refusal
written_read None = Ok value.Missing
written_read (Some s) = value_read s

unfoldable pub write_read : SpelledWrite → Result (ℕ × Value) Refusal
write_read write = do
  value ← written_read write.value
  Ok (write.item, value)

-- the values of the writes, in their order, or the first refusal
unfoldable pub mark_read : SpelledMark → Result PreparedMark Refusal
mark_read mark = do
  writes ← each_of write_read mark.writes
  Ok (record { part = mark.part; stamp = mark.stamp; writes = writes; items = mark.items })

-- what the bytes of a mark's line say, or the first test that they fail
unfoldable pub mark_line_of : List ℕ → Result PreparedMark Refusal
mark_line_of bytes = data_of bytes >>= mark_shape_of >>= mark_read

-- ---- written

-- a partition, a stamp, the partition's writes and the items of the transaction
abbrev pub mark_json : ℕ → ℕ → List (ℕ × Value) → List ℕ → Data
mark_json part stamp writes items = object_data (
    (codes "items", item_list_json items)
    ∷ (codes "part", whole_data part)
    ∷ (codes "stamp", whole_data stamp)
    ∷ (codes "writes", writes_json writes)
    ∷ [])

-- the line
unfoldable pub mark_text : ℕ → ℕ → List (ℕ × Value) → List ℕ → List ℕ
mark_text part stamp writes items = line_text (mark_json part stamp writes items)
