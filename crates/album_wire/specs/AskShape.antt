-- The shape of an ask in a line: which ask it is by its word, and its fields, each of its form, or a bad request.
use Rattle.std.specs.Prelude.{ℕ, List, [], ◌∷◌, codes, bytes_eq, if◌then◌else◌, Result, Ok, Err, map}
use Rattle.serde_json.specs.Data.{Data}
use Rattle.album_stamps.specs.declared.refusals.Refusal.{Refusal}
use Rattle.album_stamps.specs.declared.refusals.Refusal.TheVariants.{BadRequest}
use Rattle.album_stamps.specs.Outcome.{◌>>=◌}
use Rattle.album_lines.specs.Fields.{only_of, field_of, item_of, text_of, whole_of, list_of, sized, each}
use Rattle.album_lines.specs.Shapes.{SpelledEntry, spelled_entry, entry_shapes_of, texts_of}
use Rattle.album_wire.specs.ItemShapes.{item_named}
use Rattle.album_wire.specs.declared.ask_shape.NewListShape.{NewListShape}
use Rattle.album_wire.specs.declared.ask_shape.NewMembershipShape.{NewMembershipShape}
use Rattle.album_wire.specs.declared.ask_shape.AskShape.{AskShape}
use Rattle.album_wire.specs.declared.ask_shape.AskShape.TheVariants as shape

-- an object, and the list that it is to have, as they are spelled
pub record SpelledNewList : Type 0 where
  pub object : ℕ
  pub entries : List SpelledEntry

-- a group, and the members that it is to have, as they are spelled
pub record SpelledNewMembership : Type 0 where
  pub object : ℕ
  pub members : List (List ℕ)

-- an ask as it is spelled
pub data SpelledAsk : Type 0 where
  Read : (object : ℕ) → SpelledAsk
  ListAlbum : (album : ℕ) → SpelledAsk
  GetList : (object : ℕ) → SpelledAsk
  Head : (object : ℕ) → SpelledAsk
  Children : (album : ℕ) → SpelledAsk
  AddPicture : (album : ℕ) → (title : List ℕ) → (content : List ℕ) → SpelledAsk
  AddAlbum : (album : ℕ) → (title : List ℕ) → SpelledAsk
  AddGroup : (album : ℕ) → (members : List (List ℕ)) → SpelledAsk
  Retitle : (object : ℕ) → (title : List ℕ) → SpelledAsk
  Replace : (object : ℕ) → (content : List ℕ) → SpelledAsk
  Delete : (object : ℕ) → SpelledAsk
  Move : (object : ℕ) → (to : ℕ) → SpelledAsk
  SetLists : List SpelledNewList → SpelledAsk
  SetOwner : (object : ℕ) → (owner : List ℕ) → (group : ℕ) → SpelledAsk
  SetMembers : (object : ℕ) → (members : List (List ℕ)) → SpelledAsk
  Share : List SpelledNewList → List SpelledNewMembership → SpelledAsk

abbrev pub spelled_new_list : NewListShape → SpelledNewList
spelled_new_list new = record { object = new.object; entries = map spelled_entry new.entries.items }

abbrev pub spelled_new_membership : NewMembershipShape → SpelledNewMembership
spelled_new_membership new = record { object = new.object; members = map (λ text. text.now) new.members.items }

abbrev pub spelled_ask : AskShape → SpelledAsk
spelled_ask (shape.Read object) = Read object
spelled_ask (shape.List album) = ListAlbum album
spelled_ask (shape.GetList object) = GetList object
spelled_ask (shape.Head object) = Head object
spelled_ask (shape.Children album) = Children album
spelled_ask (shape.AddPicture album title content) = AddPicture album title.now content.now
spelled_ask (shape.AddAlbum album title) = AddAlbum album title.now
spelled_ask (shape.AddGroup album members) = AddGroup album (map (λ text. text.now) members.items)
spelled_ask (shape.Retitle object title) = Retitle object title.now
spelled_ask (shape.Replace object content) = Replace object content.now
spelled_ask (shape.Delete object) = Delete object
spelled_ask (shape.Move object to) = Move object to
spelled_ask (shape.SetLists lists) = SetLists (map spelled_new_list lists.items)
spelled_ask (shape.SetOwner object owner group) = SetOwner object owner.now group
spelled_ask (shape.SetMembers object members) = SetMembers object (map (λ text. text.now) members.items)
spelled_ask (shape.Share lists members) =
    Share (map spelled_new_list lists.items) (map spelled_new_membership members.items)

-- ---- each ask: the names next to `do`, and what is under each

-- {object}
unfoldable pub read_shape_of : Data → Result SpelledAsk Refusal
read_shape_of d = do
  _ ← only_of (codes "do" ∷ codes "object" ∷ []) d
  object ← field_of (codes "object") d >>= item_named
  Ok (Read object)

-- {album}
unfoldable pub list_shape_of : Data → Result SpelledAsk Refusal
list_shape_of d = do
  _ ← only_of (codes "do" ∷ codes "album" ∷ []) d
  album ← field_of (codes "album") d >>= item_named
  Ok (ListAlbum album)

-- {object}
unfoldable pub get_list_shape_of : Data → Result SpelledAsk Refusal
get_list_shape_of d = do
  _ ← only_of (codes "do" ∷ codes "object" ∷ []) d
  object ← field_of (codes "object") d >>= item_named
  Ok (GetList object)

-- {object}
unfoldable pub head_ask_shape_of : Data → Result SpelledAsk Refusal
head_ask_shape_of d = do
  _ ← only_of (codes "do" ∷ codes "object" ∷ []) d
  object ← field_of (codes "object") d >>= item_named
  Ok (Head object)

-- {album}
unfoldable pub children_shape_of : Data → Result SpelledAsk Refusal
children_shape_of d = do
  _ ← only_of (codes "do" ∷ codes "album" ∷ []) d
  album ← field_of (codes "album") d >>= item_named
  Ok (Children album)

-- {album, title, content}
unfoldable pub add_picture_shape_of : Data → Result SpelledAsk Refusal
add_picture_shape_of d = do
  _ ← only_of (codes "do" ∷ codes "album" ∷ codes "title" ∷ codes "content" ∷ []) d
  album ← field_of (codes "album") d >>= item_named
  title ← field_of (codes "title") d >>= text_of
  content ← field_of (codes "content") d >>= text_of
  Ok (AddPicture album title content)

-- {album, title}
unfoldable pub add_album_shape_of : Data → Result SpelledAsk Refusal
add_album_shape_of d = do
  _ ← only_of (codes "do" ∷ codes "album" ∷ codes "title" ∷ []) d
  album ← field_of (codes "album") d >>= item_named
  title ← field_of (codes "title") d >>= text_of
  Ok (AddAlbum album title)

-- {album, members}
unfoldable pub add_group_shape_of : Data → Result SpelledAsk Refusal
add_group_shape_of d = do
  _ ← only_of (codes "do" ∷ codes "album" ∷ codes "members" ∷ []) d
  album ← field_of (codes "album") d >>= item_named
  members ← field_of (codes "members") d >>= texts_of
  Ok (AddGroup album members)

-- {object, title}
unfoldable pub retitle_shape_of : Data → Result SpelledAsk Refusal
retitle_shape_of d = do
  _ ← only_of (codes "do" ∷ codes "object" ∷ codes "title" ∷ []) d
  object ← field_of (codes "object") d >>= item_named
  title ← field_of (codes "title") d >>= text_of
  Ok (Retitle object title)

-- {object, content}
unfoldable pub replace_shape_of : Data → Result SpelledAsk Refusal
replace_shape_of d = do
  _ ← only_of (codes "do" ∷ codes "object" ∷ codes "content" ∷ []) d
  object ← field_of (codes "object") d >>= item_named
  content ← field_of (codes "content") d >>= text_of
  Ok (Replace object content)

-- {object}
unfoldable pub delete_shape_of : Data → Result SpelledAsk Refusal
delete_shape_of d = do
  _ ← only_of (codes "do" ∷ codes "object" ∷ []) d
  object ← field_of (codes "object") d >>= item_named
  Ok (Delete object)

-- {object, to}
unfoldable pub move_shape_of : Data → Result SpelledAsk Refusal
move_shape_of d = do
  _ ← only_of (codes "do" ∷ codes "object" ∷ codes "to" ∷ []) d
  object ← field_of (codes "object") d >>= item_named
  to ← field_of (codes "to") d >>= item_named
  Ok (Move object to)

-- {lists}, a list of [object, entries]
unfoldable pub new_list_shape_of : Data → Result SpelledNewList Refusal
new_list_shape_of d = do
  _ ← sized 2 d
  object ← item_of 0 d >>= item_named
  entries ← item_of 1 d >>= entry_shapes_of
  Ok (record { object = object; entries = entries })

unfoldable pub set_lists_shape_of : Data → Result SpelledAsk Refusal
set_lists_shape_of d = do
  _ ← only_of (codes "do" ∷ codes "lists" ∷ []) d
  lists ← field_of (codes "lists") d >>= list_of >>= each new_list_shape_of
  Ok (SetLists lists)

-- {object, owner, group}
unfoldable pub set_owner_shape_of : Data → Result SpelledAsk Refusal
set_owner_shape_of d = do
  _ ← only_of (codes "do" ∷ codes "object" ∷ codes "owner" ∷ codes "group" ∷ []) d
  object ← field_of (codes "object") d >>= item_named
  owner ← field_of (codes "owner") d >>= text_of
  group ← field_of (codes "group") d >>= whole_of
  Ok (SetOwner object owner group)

-- {object, members}
unfoldable pub set_members_shape_of : Data → Result SpelledAsk Refusal
set_members_shape_of d = do
  _ ← only_of (codes "do" ∷ codes "object" ∷ codes "members" ∷ []) d
  object ← field_of (codes "object") d >>= item_named
  members ← field_of (codes "members") d >>= texts_of
  Ok (SetMembers object members)

-- {lists, members}, the second a list of [group, members]
unfoldable pub new_membership_shape_of : Data → Result SpelledNewMembership Refusal
new_membership_shape_of d = do
  _ ← sized 2 d
  object ← item_of 0 d >>= item_named
  members ← item_of 1 d >>= texts_of
  Ok (record { object = object; members = members })

unfoldable pub share_shape_of : Data → Result SpelledAsk Refusal
share_shape_of d = do
  _ ← only_of (codes "do" ∷ codes "lists" ∷ codes "members" ∷ []) d
  lists ← field_of (codes "lists") d >>= list_of >>= each new_list_shape_of
  members ← field_of (codes "members") d >>= list_of >>= each new_membership_shape_of
  Ok (Share lists members)

-- ---- the word under `do` says which ask it is

abbrev pub shape_by_word : List ℕ → Data → Result SpelledAsk Refusal
shape_by_word word d =
    if bytes_eq word (codes "read") then read_shape_of d
    else if bytes_eq word (codes "list") then list_shape_of d
    else if bytes_eq word (codes "get_list") then get_list_shape_of d
    else if bytes_eq word (codes "head") then head_ask_shape_of d
    else if bytes_eq word (codes "children") then children_shape_of d
    else if bytes_eq word (codes "add_picture") then add_picture_shape_of d
    else if bytes_eq word (codes "add_album") then add_album_shape_of d
    else if bytes_eq word (codes "add_group") then add_group_shape_of d
    else if bytes_eq word (codes "retitle") then retitle_shape_of d
    else if bytes_eq word (codes "replace") then replace_shape_of d
    else if bytes_eq word (codes "delete") then delete_shape_of d
    else if bytes_eq word (codes "move") then move_shape_of d
    else if bytes_eq word (codes "set_lists") then set_lists_shape_of d
    else if bytes_eq word (codes "set_owner") then set_owner_shape_of d
    else if bytes_eq word (codes "set_members") then set_members_shape_of d
    else if bytes_eq word (codes "share") then share_shape_of d
    else Err BadRequest

abbrev pub ask_shape_of : Data → Result SpelledAsk Refusal
ask_shape_of d = field_of (codes "do") d >>= text_of >>= λ word. shape_by_word word d
