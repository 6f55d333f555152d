-- The lines of an opening, as they are spelled.
use Rattle.std.specs.Prelude.{◌≡◌, ℕ, List, codes, true, false, Option, Some, None}
use Rattle.serde_json.specs.Data.{Data}
use Rattle.album_items.specs.declared.values.Value.{Value}
use Rattle.album_lines.specs.Spelling.{IsJson, HasOnly}
use Rattle.album_wire.specs.ObjectSpelling.{IsWhole, IsTruth, HasMember, MayHave, HasJust}
use Rattle.album_wire.specs.EventSpelling.{IsStamp}
use Rattle.album_wire.specs.ItemSpelling.{IsItem, IsOwner, IsValue}
use Rattle.album_wire.specs.OpeningShape.{header_keys, item_keys}
use Rattle.album_wire.specs.declared.opening_line.OpeningLine.{OpeningLine}
use Rattle.album_wire.specs.declared.opening_line.OpeningLine.TheVariants as line
use Rattle.album_wire.specs.declared.opening_shape.Header.{Header}
use Rattle.album_wire.specs.declared.opening_shape.TheConstants.{DEFAULT_LIMIT, DEFAULT_POLICY}

-- a root, who is a user
abbrev pub IsRoot : Option (List ℕ) → Data → Type 0
IsRoot None d = ⊥
IsRoot (Some name) d = IsOwner name d

-- How the store is to be opened. Where `limit` or `policy` is left out it is the usual one. Where `checked` is left
-- out writes aren't checked; where `root` is, there is none; where `first` is, no epoch was before; and where `trace`
-- is, no message is written.
pub record IsHeader (header : Header) (d : Data) : Type 0 where
  pub names : HasOnly header_keys d
  pub parts : HasMember (codes "parts") (IsWhole header.parts) d
  pub limit : MayHave (codes "limit") (header.limit ≡ DEFAULT_LIMIT) (IsWhole header.limit) d
  pub policy : MayHave (codes "policy") (header.policy ≡ DEFAULT_POLICY) (IsWhole header.policy) d
  pub checked : MayHave (codes "checked") (header.checked ≡ false) (IsTruth header.checked) d
  pub root : MayHave (codes "root") (header.root ≡ None) (IsRoot header.root) d
  pub first : MayHave (codes "first") (header.first ≡ 0) (IsWhole header.first) d
  pub trace : MayHave (codes "trace") (header.trace ≡ false) (IsTruth header.trace) d

-- an item, and its first value; where `stamp` is left out, no epoch before wrote it
pub record IsFirstValue (item stamp : ℕ) (value : Value) (d : Data) : Type 0 where
  pub names : HasOnly item_keys d
  pub item_there : HasMember (codes "item") (IsItem item) d
  pub stamped : MayHave (codes "stamp") (stamp ≡ 0) (IsStamp stamp) d
  pub value_there : HasMember (codes "value") (IsValue value) d

-- the object of a line: a header, an item with its value, or that this is all
abbrev pub IsOpening : OpeningLine → Data → Type 0
IsOpening (line.Open header) = HasJust (codes "open") (IsHeader header)
IsOpening (line.Item item stamp value) = IsFirstValue item stamp value
IsOpening line.Begin = HasJust (codes "begin") (IsTruth true)

-- the bytes of a line that says this
abbrev pub IsOpeningLine : OpeningLine → List ℕ → Type 0
IsOpeningLine line bytes = (d : Data) × IsJson d bytes × IsOpening line d
