-- The shape of a mark's line: its fields, each of its form, or a bad request.
use Rattle.std.specs.Prelude.{ℕ, List, [], ◌∷◌, codes, if◌then◌else◌, Option, Some, None, option_map, Result, Ok, map}
use Rattle.serde_json.specs.Data.{Data}
use Rattle.album_stamps.specs.declared.refusals.Refusal.{Refusal}
use Rattle.album_stamps.specs.Outcome.{◌>>=◌}
use Rattle.album_lines.specs.Fields.{only_of, field_of, item_of, is_nothing, list_of, sized, each}
use Rattle.album_wire.specs.ItemShapes.{SpelledValue, spelled_value, item_named, value_shape_of}
use Rattle.album_wire.specs.EventShape.{part_named, stamp_named}
use Rattle.album_wire.specs.declared.mark_shape.MarkShape.{MarkShape}
use Rattle.album_wire.specs.declared.mark_shape.WriteShape.{WriteShape}

-- a write as it is spelled: an item, and its value, or nothing where it is missing
pub record SpelledWrite : Type 0 where
  pub item : ℕ
  pub value : Option SpelledValue

-- a mark as it is spelled
pub record SpelledMark : Type 0 where
  pub part : ℕ
  pub stamp : ℕ
  pub writes : List SpelledWrite
  pub items : List ℕ

unfoldable pub spelled_write : WriteShape → SpelledWrite
spelled_write write = record { item = write.item; value = option_map spelled_value write.value }

abbrev pub spelled_mark : MarkShape → SpelledMark
spelled_mark mark = record {
  part = mark.part;
  stamp = mark.stamp;
  writes = map spelled_write mark.writes.items;
  items = mark.items.items;
}

-- a value, or nothing where it is missing
abbrev pub written_shape_of : Data → Result (Option SpelledValue) Refusal
written_shape_of d = if is_nothing d then Ok None else value_shape_of d >>= λ value. Ok (Some value)

-- [item, value or null]
unfoldable pub write_shape_of : Data → Result SpelledWrite Refusal
write_shape_of d = do
  _ ← sized 2 d
  item ← item_of 0 d >>= item_named
  value ← item_of 1 d >>= written_shape_of
  Ok (record { item = item; value = value })

-- the names of the members of a mark
abbrev pub mark_keys : List (List ℕ)
mark_keys = codes "items" ∷ codes "part" ∷ codes "stamp" ∷ codes "writes" ∷ []

-- {items, part, stamp, writes}
unfoldable pub mark_shape_of : Data → Result SpelledMark Refusal
mark_shape_of d = do
  _ ← only_of mark_keys d
  items ← field_of (codes "items") d >>= list_of >>= each item_named
  part ← field_of (codes "part") d >>= part_named
  stamp ← field_of (codes "stamp") d >>= stamp_named
  writes ← field_of (codes "writes") d >>= list_of >>= each write_shape_of
  Ok (record { part = part; stamp = stamp; writes = writes; items = items })
