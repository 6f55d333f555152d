-- The lines of an opening that are written.
use Rattle.std.specs.Prelude.{ℕ, List, [], ◌∷◌, ◌++◌, codes, true, Option, Some, None}
use Rattle.serde_json.specs.Data.{Data, boolean, string}
use Rattle.album_lines.specs.Output.{line_text}
use Rattle.album_lines.specs.Spelling.{whole_data}
use Rattle.album_wire.specs.ValueJson.{object_data, item_json, owner_text, value_json}
use Rattle.album_wire.specs.declared.opening_line.OpeningLine.{OpeningLine}
use Rattle.album_wire.specs.declared.opening_line.OpeningLine.TheVariants as line
use Rattle.album_wire.specs.declared.opening_shape.Header.{Header}

-- a root, where there is one
abbrev pub root_member : Option (List ℕ) → List (List ℕ × Data)
root_member None = []
root_member (Some name) = (codes "root", string (owner_text name)) ∷ []

-- what a header has, where of a root it has this
abbrev pub header_fields : Header → List (List ℕ × Data) → List (List ℕ × Data)
header_fields header root =
    (codes "checked", boolean header.checked)
    ∷ (codes "first", whole_data header.first)
    ∷ (codes "limit", whole_data header.limit)
    ∷ (codes "parts", whole_data header.parts)
    ∷ (codes "policy", whole_data header.policy)
    ∷ (root ++ (codes "trace", boolean header.trace) ∷ [])

-- how the store is to be opened; no key is left out but that of a root
abbrev pub header_json : Header → Data
header_json header = object_data (header_fields header (root_member header.root))

-- a header, an item with its value and the stamp of that, or that this is all
abbrev pub opening_json : OpeningLine → Data
opening_json (line.Open header) = object_data ((codes "open", header_json header) ∷ [])
opening_json (line.Item item stamp value) = object_data (
    (codes "item", item_json item)
    ∷ (codes "stamp", whole_data stamp)
    ∷ (codes "value", value_json value)
    ∷ [])
opening_json line.Begin = object_data ((codes "begin", boolean true) ∷ [])

-- the line
unfoldable pub opening_text : OpeningLine → List ℕ
opening_text said = line_text (opening_json said)
