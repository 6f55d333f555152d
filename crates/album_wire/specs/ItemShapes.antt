-- The shapes of items and of their values in a line: their parts, before any of these is tested further.
use Rattle.std.specs.Prelude.{ℕ, List, [], ◌∷◌, codes, Bool, ◌||◌, ◌==◌, if◌then◌else◌, Option, Some, None, Result, Ok, map}
use Rattle.std.specs.Option.{ok_or}
use Rattle.serde_json.specs.Data.{Data}
use Rattle.album_stamps.specs.declared.refusals.Refusal.{Refusal}
use Rattle.album_stamps.specs.declared.refusals.Refusal.TheVariants.{BadRequest}
use Rattle.album_stamps.specs.Outcome.{◌>>=◌}
use Rattle.album_items.specs.ItemIds.{kind_of, item_of}
use Rattle.album_lines.specs.Fields.{guard, only_of, field_of, has, text_of, whole_of, is_nothing, list_of, each}
use Rattle.album_lines.specs.Shapes.{SpelledEntry, spelled_entry, entry_shapes_of, texts_of}
use Rattle.album_wire.specs.declared.item_shapes.HeadShape.{HeadShape}
use Rattle.album_wire.specs.declared.item_shapes.ValueShape.{ValueShape}
use Rattle.album_wire.specs.declared.item_shapes.ValueShape.TheVariants as shape

-- ---- items

-- an item, by its text
abbrev pub item_named : Data → Result ℕ Refusal
item_named d = text_of d >>= λ text. ok_or (item_of text) BadRequest

-- an album has pictures and albums as its children
abbrev pub may_be_child : ℕ → Bool
may_be_child item = kind_of item == 0 || kind_of item == 1

unfoldable pub child_of : Data → Result ℕ Refusal
child_of d = do
  item ← item_named d
  _ ← guard (may_be_child item)
  Ok item

-- ---- values

-- the head of an object as it is spelled
pub record SpelledHead : Type 0 where
  pub owner : List ℕ
  pub group : ℕ
  pub list : ℕ

-- a value as it is spelled; no line spells one that is missing
pub data SpelledValue : Type 0 where
  Picture : (title : List ℕ) → (content : List ℕ) → SpelledHead → (home : ℕ) → SpelledValue
  Album : (title : List ℕ) → SpelledHead → (home : Option ℕ) → (children : List ℕ) → SpelledValue
  Entries : List SpelledEntry → SpelledValue
  Group : SpelledHead → (members : List (List ℕ)) → SpelledValue

abbrev pub spelled_head : HeadShape → SpelledHead
spelled_head head = record { owner = head.owner.now; group = head.group; list = head.list }

abbrev pub spelled_value : ValueShape → SpelledValue
spelled_value (shape.Picture title content head home) = Picture title.now content.now (spelled_head head) home
spelled_value (shape.Album title head home children) = Album title.now (spelled_head head) home children.items
spelled_value (shape.Entries entries) = Entries (map spelled_entry entries.items)
spelled_value (shape.Group head members) = Group (spelled_head head) (map (λ text. text.now) members.items)

-- the members that are a head
unfoldable pub head_shape_of : Data → Result SpelledHead Refusal
head_shape_of d = do
  owner ← field_of (codes "owner") d >>= text_of
  group ← field_of (codes "group") d >>= whole_of
  list ← field_of (codes "list") d >>= whole_of
  Ok (record { owner = owner; group = group; list = list })

-- a home, or nothing where there is none
abbrev pub home_shape_of : Data → Result (Option ℕ) Refusal
home_shape_of d = if is_nothing d then Ok None else whole_of d >>= λ number. Ok (Some number)

-- the names of the members of each
abbrev pub picture_keys : List (List ℕ)
picture_keys =
    codes "title" ∷ codes "content" ∷ codes "owner" ∷ codes "group" ∷ codes "home" ∷ codes "list" ∷ []

abbrev pub album_keys : List (List ℕ)
album_keys =
    codes "title" ∷ codes "owner" ∷ codes "group" ∷ codes "home" ∷ codes "list" ∷ codes "children" ∷ []

abbrev pub list_keys : List (List ℕ)
list_keys = codes "entries" ∷ []

abbrev pub group_keys : List (List ℕ)
group_keys = codes "owner" ∷ codes "group" ∷ codes "list" ∷ codes "members" ∷ []

-- the value of a picture
unfoldable pub picture_shape_of : Data → Result SpelledValue Refusal
picture_shape_of d = do
  _ ← only_of picture_keys d
  title ← field_of (codes "title") d >>= text_of
  content ← field_of (codes "content") d >>= text_of
  head ← head_shape_of d
  home ← field_of (codes "home") d >>= whole_of
  Ok (Picture title content head home)

-- the value of an album
unfoldable pub album_shape_of : Data → Result SpelledValue Refusal
album_shape_of d = do
  _ ← only_of album_keys d
  title ← field_of (codes "title") d >>= text_of
  head ← head_shape_of d
  home ← field_of (codes "home") d >>= home_shape_of
  children ← field_of (codes "children") d >>= list_of >>= each child_of
  Ok (Album title head home children)

-- the value of a list
unfoldable pub list_shape_of : Data → Result SpelledValue Refusal
list_shape_of d = do
  _ ← only_of list_keys d
  entries ← field_of (codes "entries") d >>= entry_shapes_of
  Ok (Entries entries)

-- the value of a group
unfoldable pub group_shape_of : Data → Result SpelledValue Refusal
group_shape_of d = do
  _ ← only_of group_keys d
  head ← head_shape_of d
  members ← field_of (codes "members") d >>= texts_of
  Ok (Group head members)

-- The names say whose value it is: only a list has entries, only a group members, only an album children.
abbrev pub value_shape_of : Data → Result SpelledValue Refusal
value_shape_of d =
    if has (codes "entries") d then list_shape_of d
    else if has (codes "members") d then group_shape_of d
    else if has (codes "children") d then album_shape_of d
    else picture_shape_of d
