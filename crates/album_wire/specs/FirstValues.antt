-- What the lines of an opening have said: its header, and its items with their first values and the stamps of these.
use Rattle.std.specs.Prelude.{ℕ, List, [], ◌∷◌, ◌++◌}
use Rattle.album_items.specs.FirstStamps.{Stamps, noted}
use Rattle.album_items.specs.Openings.{Row}
use Rattle.album_items.specs.declared.openings.Opening.{Opening}
use Rattle.album_items.specs.declared.values.Value.{Value}
use Rattle.album_wire.specs.declared.opening_shape.Header.{Header}

-- items with their first values, and the stamps of these
pub record ValuesSaid : Type 0 where
  pub rows : List Row
  pub stamps : Stamps

abbrev pub no_values : ValuesSaid
no_values = record { rows = []; stamps = [] }

-- one more item
abbrev pub with_value : ValuesSaid → ℕ → ℕ → Value → ValuesSaid
with_value values item stamp value =
    record { rows = values.rows ++ (item, value) ∷ []; stamps = noted values.stamps item stamp }

-- the opening that they make
abbrev pub opening_of : Header → ValuesSaid → Opening
opening_of header values =
    record {
      parts = header.parts;
      limit = header.limit;
      policy = header.policy;
      checked = header.checked;
      root = header.root;
      first = header.first;
      items = values.rows;
      stamps = values.stamps;
    }
