-- What a line of an opening says: how the store is to be opened, an item with its first value and the stamp of that, or
-- that this is all.
use Rattle.std.specs.Prelude.{ℕ, List, Option, Some, None, Result, Ok}
use Rattle.album_stamps.specs.declared.refusals.Refusal.{Refusal}
use Rattle.album_stamps.specs.Outcome.{◌>>=◌}
use Rattle.album_items.specs.declared.values.Head.{Head}
use Rattle.album_items.specs.declared.values.Value.{Value}
use Rattle.album_items.specs.declared.values.Value.TheVariants as value
use Rattle.album_lines.specs.Fields.{data_of}
use Rattle.album_wire.specs.ItemShapes.{SpelledHead, SpelledValue, Picture, Album, Entries, Group}
use Rattle.album_wire.specs.OpeningShape.{SpelledHeader, SpelledOpening, Open, Item, Begin, opening_shape_of}
use Rattle.album_lines.specs.Values.{entries_read, members_read}
use Rattle.album_wire.specs.ItemTexts.{title_read, content_read, owner_read}
use Rattle.album_wire.specs.declared.opening_line.OpeningLine.{OpeningLine}
use Rattle.album_wire.specs.declared.opening_line.OpeningLine.TheVariants as line
use Rattle.album_wire.specs.declared.opening_shape.Header.{Header}

-- the head with this owner
abbrev pub head_with : SpelledHead → List ℕ → Head
head_with s owner = record { owner = owner; group = s.group; list = s.list }

-- the values of the fields, in this order, or the first refusal
unfoldable pub value_read : SpelledValue → Result Value Refusal
value_read (Picture title content head home) = do
  title ← title_read title
  content ← content_read content
  owner ← owner_read head.owner
  Ok (value.Picture (record { title = title; content = content; head = head_with head owner; home = home }))
value_read (Album title head home children) = do
  title ← title_read title
  owner ← owner_read head.owner
  Ok (value.Album (record { title = title; head = head_with head owner; home = home; children = children }))
value_read (Entries entries) = do
  list ← entries_read entries
  Ok (value.List list)
value_read (Group head members) = do
  owner ← owner_read head.owner
  members ← members_read members
  Ok (value.Group (record { head = head_with head owner; members = members }))

-- a root, who is a user, if there is one
abbrev pub root_read : Option (List ℕ) → Result (Option (List ℕ)) Refusal
root_read None = Ok None
root_read (Some text) = owner_read text >>= λ name. Ok (Some name)

-- the header with this root
abbrev pub header_with : SpelledHeader → Option (List ℕ) → Header
header_with s root = record {
  parts = s.parts;
  limit = s.limit;
  policy = s.policy;
  checked = s.checked;
  root = root;
  first = s.first;
  trace = s.trace;
}

unfoldable pub opening_read : SpelledOpening → Result OpeningLine Refusal
opening_read (Open header) = root_read header.root >>= λ root. Ok (line.Open (header_with header root))
opening_read (Item item stamp value) = value_read value >>= λ value. Ok (line.Item item stamp value)
opening_read Begin = Ok line.Begin

-- what the bytes of a line of an opening say, or the first test that they fail
unfoldable pub opening_line_of : List ℕ → Result OpeningLine Refusal
opening_line_of bytes = data_of bytes >>= opening_shape_of >>= opening_read
