-- The text of an opening, whole.
use Rattle.std.specs.Prelude.{ℕ, List, ◌++◌, false}
use Rattle.std.specs.List.{flat_map}
use Rattle.album_items.specs.FirstStamps.{Stamps, first_stamp}
use Rattle.album_items.specs.Openings.{Row}
use Rattle.album_items.specs.declared.openings.Opening.{Opening}
use Rattle.album_wire.specs.OpeningJson.{opening_text}
use Rattle.album_wire.specs.declared.opening_line.OpeningLine.TheVariants as line
use Rattle.album_wire.specs.declared.opening_shape.Header.{Header}

-- its header: no message is printed
abbrev pub header_of : Opening → Header
header_of opening = record {
  parts = opening.parts;
  limit = opening.limit;
  policy = opening.policy;
  checked = opening.checked;
  root = opening.root;
  first = opening.first;
  trace = false;
}

-- the items with their values and the stamps of these, a line each
abbrev pub rows_text : Stamps → List Row → List ℕ
rows_text stamps rows = flat_map (λ row. opening_text (line.Item row.0 (first_stamp stamps row.0) row.1)) rows

-- the header, the items, and that these are all
abbrev pub text_of_opening : Opening → List ℕ
text_of_opening opening =
    opening_text (line.Open (header_of opening)) ++ (rows_text opening.stamps opening.items ++ opening_text line.Begin)
