-- The line of a mark, as it is spelled.
use Rattle.std.specs.Prelude.{◌≡◌, ℕ, List, [], ◌∷◌, codes}
use Rattle.serde_json.specs.Data.{Data, null}
use Rattle.album_items.specs.declared.values.Value.{Value}
use Rattle.album_items.specs.declared.values.Value.TheVariants as value
use Rattle.album_lines.specs.Spelling.{IsJson, HasOnly, IsList, list_data}
use Rattle.album_wire.specs.EventSpelling.{IsStamp, IsPart}
use Rattle.album_wire.specs.ItemSpelling.{IsItem, IsValue}
use Rattle.album_wire.specs.MarkShape.{mark_keys}
use Rattle.album_wire.specs.ObjectSpelling.{HasMember}
use Rattle.album_wire.specs.declared.mark_line.PreparedMark.{PreparedMark}

-- a value as an opening's line has it, or nothing where it is missing
abbrev pub IsWritten : Value → Data → Type 0
IsWritten value.Missing d = d ≡ null
IsWritten v d = IsValue v d

-- [item, value]
pub record IsWrite (write : ℕ × Value) (d : Data) : Type 0 where
  pub item_data : Data
  pub value_data : Data
  pub parts : d ≡ list_data (item_data ∷ value_data ∷ [])
  pub item : IsItem write.0 item_data
  pub value : IsWritten write.1 value_data

-- a partition, a stamp, the partition's writes, and the items of the transaction
pub record IsMark (mark : PreparedMark) (d : Data) : Type 0 where
  pub names : HasOnly mark_keys d
  pub items : HasMember (codes "items") (IsList IsItem mark.items) d
  pub part : HasMember (codes "part") (IsPart mark.part) d
  pub stamp : HasMember (codes "stamp") (IsStamp mark.stamp) d
  pub writes : HasMember (codes "writes") (IsList IsWrite mark.writes) d

-- the bytes of a line that says this
abbrev pub IsMarkLine : PreparedMark → List ℕ → Type 0
IsMarkLine mark bytes = (d : Data) × IsJson d bytes × IsMark mark d
