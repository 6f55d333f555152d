-- The shape of a line of an opening: its fields, each of its form, or a bad request.
use Rattle.std.specs.Prelude.{ℕ, List, [], ◌∷◌, codes, Bool, false, if◌then◌else◌, Option, Some, None, option_map, Result, Ok}
use Rattle.serde_json.specs.Data.{Data}
use Rattle.serde_json.specs.Find.{get}
use Rattle.album_stamps.specs.declared.refusals.Refusal.{Refusal}
use Rattle.album_stamps.specs.Outcome.{◌>>=◌}
use Rattle.album_lines.specs.Fields.{guard, only_of, field_of, has, member_or, text_of, whole_of, truth_of}
use Rattle.album_wire.specs.EventShape.{stamp_named}
use Rattle.album_wire.specs.ItemShapes.{SpelledValue, spelled_value, item_named, value_shape_of}
use Rattle.album_wire.specs.declared.opening_shape.HeaderShape.{HeaderShape}
use Rattle.album_wire.specs.declared.opening_shape.OpeningShape.{OpeningShape}
use Rattle.album_wire.specs.declared.opening_shape.OpeningShape.TheVariants as shape
use Rattle.album_wire.specs.declared.opening_shape.TheConstants.{DEFAULT_LIMIT, DEFAULT_POLICY}

-- a header as it is spelled
pub record SpelledHeader : Type 0 where
  pub parts : ℕ
  pub limit : ℕ
  pub policy : ℕ
  pub checked : Bool
  pub root : Option (List ℕ)
  pub first : ℕ
  pub trace : Bool

abbrev pub spelled_header : HeaderShape → SpelledHeader
spelled_header header = record {
  parts = header.parts;
  limit = header.limit;
  policy = header.policy;
  checked = header.checked;
  root = option_map (λ text. text.now) header.root;
  first = header.first;
  trace = header.trace;
}

-- a line of an opening as it is spelled
pub data SpelledOpening : Type 0 where
  Open : SpelledHeader → SpelledOpening
  Item : (item stamp : ℕ) → SpelledValue → SpelledOpening
  Begin : SpelledOpening

abbrev pub spelled_opening : OpeningShape → SpelledOpening
spelled_opening (shape.Open header) = Open (spelled_header header)
spelled_opening (shape.Item item stamp value) = Item item stamp (spelled_value value)
spelled_opening shape.Begin = Begin

-- the names of the members of a header
abbrev pub header_keys : List (List ℕ)
header_keys =
    codes "parts" ∷ codes "limit" ∷ codes "policy" ∷ codes "checked" ∷ codes "root" ∷ codes "first" ∷ codes "trace"
    ∷ []

-- a root, by its text
abbrev pub root_shape_of : Data → Result (Option (List ℕ)) Refusal
root_shape_of d = text_of d >>= λ text. Ok (Some text)

-- {parts, and perhaps limit, policy, checked, root, first, trace}
unfoldable pub header_of : Data → Result SpelledHeader Refusal
header_of d = do
  _ ← only_of header_keys d
  parts ← field_of (codes "parts") d >>= whole_of
  limit ← member_or DEFAULT_LIMIT whole_of (get (codes "limit") d)
  policy ← member_or DEFAULT_POLICY whole_of (get (codes "policy") d)
  checked ← member_or false truth_of (get (codes "checked") d)
  root ← member_or None root_shape_of (get (codes "root") d)
  first ← member_or 0 whole_of (get (codes "first") d)
  trace ← member_or false truth_of (get (codes "trace") d)
  Ok (record {
    parts = parts;
    limit = limit;
    policy = policy;
    checked = checked;
    root = root;
    first = first;
    trace = trace;
  })

-- {"open": header}
unfoldable pub open_shape_of : Data → Result SpelledOpening Refusal
open_shape_of d = do
  _ ← only_of (codes "open" ∷ []) d
  header ← field_of (codes "open") d >>= header_of
  Ok (Open header)

-- the names of the members of an item's line
abbrev pub item_keys : List (List ℕ)
item_keys = codes "item" ∷ codes "stamp" ∷ codes "value" ∷ []

-- {"item": item, "value": its value}, and perhaps the stamp at which an epoch before wrote it
unfoldable pub item_shape_of : Data → Result SpelledOpening Refusal
item_shape_of d = do
  _ ← only_of item_keys d
  item ← field_of (codes "item") d >>= item_named
  stamp ← member_or 0 stamp_named (get (codes "stamp") d)
  value ← field_of (codes "value") d >>= value_shape_of
  Ok (Item item stamp value)

-- {"begin": true}
unfoldable pub begin_shape_of : Data → Result SpelledOpening Refusal
begin_shape_of d = do
  _ ← only_of (codes "begin" ∷ []) d
  begin ← field_of (codes "begin") d >>= truth_of
  _ ← guard begin
  Ok Begin

-- which of the three, its names say
abbrev pub opening_shape_of : Data → Result SpelledOpening Refusal
opening_shape_of d =
    if has (codes "open") d then open_shape_of d
    else if has (codes "item") d then item_shape_of d
    else begin_shape_of d
