-- What has a line that is read back as what it is. Most of it the types say of themselves: names, titles, contents and
-- lists have their bytes, their lengths and their entries, texts are UTF-8, and numbers fit 64 bits. Not so the kinds
-- of an album's children, and how many members a group has.
use Rattle.std.specs.Prelude.{◌≡◌, ◌<◌, ◌≤◌, ◌^◌, ◌⊎◌, ◌||◌, ℕ, List, length, All, Bool, true, false, not, nat_le, IsTrue, Option, Some, None, ⊤}
use Rattle.std.specs.List.{list_all}
use Rattle.std.specs.Str.{IsUtf8}
use Rattle.hex.specs.Hex.{IsBytes}
use Rattle.album_stamps.specs.Stamps.{is_stamp}
use Rattle.album_stamps.specs.declared.limits.TheConstants.{MAX_CONTENT, MAX_ENTRIES, MAX_MEMBERS}
use Rattle.album_lists.specs.Entries.{is_whole}
use Rattle.album_lists.specs.Names.{is_name}
use Rattle.album_lists.specs.declared.lists.Ace.{Ace}
use Rattle.album_lists.specs.declared.whos.Member.{Member}
use Rattle.album_lists.specs.declared.whos.Member.TheVariants as of_member
use Rattle.album_lists.specs.declared.whos.Who.{Who}
use Rattle.album_lists.specs.declared.whos.Who.TheVariants as who
use Rattle.album_items.specs.ItemIds.{kind_of, number_of, code_of}
use Rattle.album_items.specs.Texts.{is_title}
use Rattle.album_items.specs.Values.{is_there}
use Rattle.album_items.specs.declared.item_ids.Kind.TheVariants as kind
use Rattle.album_items.specs.declared.values.Album.{Album}
use Rattle.album_items.specs.declared.values.Group.{Group}
use Rattle.album_items.specs.declared.values.Head.{Head}
use Rattle.album_items.specs.declared.values.Picture.{Picture}
use Rattle.album_items.specs.declared.values.Value.{Value}
use Rattle.album_items.specs.declared.values.Value.TheVariants as value
use Rattle.album_wire.specs.ItemShapes.{may_be_child}
use Rattle.album_wire.specs.declared.event_shape.TheConstants.{MAX_PART}
use Rattle.album_wire.specs.declared.mark_line.PreparedMark.{PreparedMark}
use Rattle.album_wire.specs.declared.opening_line.OpeningLine.{OpeningLine}
use Rattle.album_wire.specs.declared.opening_line.OpeningLine.TheVariants as line
use Rattle.album_wire.specs.declared.opening_shape.Header.{Header}

-- ---- what values hold

-- the number of a type of 64 bits
abbrev pub FitsLine : ℕ → Type 0
FitsLine n = n < 2 ^ 64

-- an item's number
abbrev pub IsSpellableItem : ℕ → Type 0
IsSpellableItem item = FitsLine (number_of item)

-- a picture or an album
abbrev pub IsSpellableChild : ℕ → Type 0
IsSpellableChild item =
    IsSpellableItem item × ((kind_of item ≡ code_of kind.Picture) ⊎ (kind_of item ≡ code_of kind.Album))

-- a title, and its text
abbrev pub IsSpellableTitle : List ℕ → Type 0
IsSpellableTitle title = IsTrue (is_title title) × IsUtf8 title

-- a content, and its bytes
abbrev pub IsSpellableContent : List ℕ → Type 0
IsSpellableContent content = IsBytes content × (length content ≤ MAX_CONTENT)

abbrev pub IsSpellableWho : Who → Type 0
IsSpellableWho (who.User name) = IsTrue (is_name name)
IsSpellableWho (who.Group number) = FitsLine number
IsSpellableWho who.Owner = ⊤
IsSpellableWho who.OwnerGroup = ⊤
IsSpellableWho who.Everyone = ⊤
IsSpellableWho who.Anonymous = ⊤
IsSpellableWho who.Authenticated = ⊤

abbrev pub IsSpellableMember : Member → Type 0
IsSpellableMember (of_member.User name) = IsTrue (is_name name)
IsSpellableMember (of_member.Group number) = FitsLine number

-- an entry that a list may have
abbrev pub IsSpellableEntry : Ace → Type 0
IsSpellableEntry entry = IsTrue (is_whole entry) × IsSpellableWho entry.who

abbrev pub IsSpellableHome : Option ℕ → Type 0
IsSpellableHome None = ⊤
IsSpellableHome (Some number) = FitsLine number

-- ---- values

pub record IsSpellableHead (head : Head) : Type 0 where
  pub owner : IsTrue (is_name head.owner)
  pub group : FitsLine head.group
  pub list : FitsLine head.list

pub record IsSpellablePicture (picture : Picture) : Type 0 where
  pub title : IsSpellableTitle picture.title
  pub content : IsSpellableContent picture.content
  pub head : IsSpellableHead picture.head
  pub home : FitsLine picture.home

pub record IsSpellableAlbum (album : Album) : Type 0 where
  pub title : IsSpellableTitle album.title
  pub head : IsSpellableHead album.head
  pub home : IsSpellableHome album.home
  pub children : All IsSpellableChild album.children

pub record IsSpellableList (entries : List Ace) : Type 0 where
  pub each : All IsSpellableEntry entries
  pub few : length entries ≤ MAX_ENTRIES

pub record IsSpellableGroup (group : Group) : Type 0 where
  pub head : IsSpellableHead group.head
  pub members : All IsSpellableMember group.members
  pub few : length group.members ≤ MAX_MEMBERS

-- a value that is there
abbrev pub IsSpellable : Value → Type 0
IsSpellable value.Missing = ⊥
IsSpellable (value.Picture picture) = IsSpellablePicture picture
IsSpellable (value.Album album) = IsSpellableAlbum album
IsSpellable (value.List entries) = IsSpellableList entries
IsSpellable (value.Group group) = IsSpellableGroup group

-- what no type says: the kinds of an album's children, and how many members a group has
abbrev pub is_spellable : Value → Bool
is_spellable value.Missing = false
is_spellable (value.Picture picture) = true
is_spellable (value.Album album) = list_all may_be_child album.children
is_spellable (value.List entries) = true
is_spellable (value.Group group) = nat_le (length group.members) MAX_MEMBERS

-- ---- lines

-- a root, if there is one, is a user
abbrev pub IsSpellableRoot : Option (List ℕ) → Type 0
IsSpellableRoot None = ⊤
IsSpellableRoot (Some name) = IsTrue (is_name name)

pub record IsSpellableHeader (header : Header) : Type 0 where
  pub parts : FitsLine header.parts
  pub limit : FitsLine header.limit
  pub policy : FitsLine header.policy
  pub root : IsSpellableRoot header.root
  pub first : FitsLine header.first

-- a line of an opening
abbrev pub IsSpellableLine : OpeningLine → Type 0
IsSpellableLine (line.Open header) = IsSpellableHeader header
IsSpellableLine (line.Item item stamp value) = IsSpellableItem item × (IsTrue (is_stamp stamp) × IsSpellable value)
IsSpellableLine line.Begin = ⊤

-- a write: its value may be missing
abbrev pub IsSpellableWritten : Value → Type 0
IsSpellableWritten value.Missing = ⊤
IsSpellableWritten v = IsSpellable v

abbrev pub IsSpellableWrite : ℕ × Value → Type 0
IsSpellableWrite write = IsSpellableItem write.0 × IsSpellableWritten write.1

-- what no type says of it
abbrev pub is_spellable_write : ℕ × Value → Bool
is_spellable_write write = not (is_there write.1) || is_spellable write.1

-- a mark
pub record IsSpellableMark (mark : PreparedMark) : Type 0 where
  pub part : mark.part ≤ MAX_PART
  pub stamp : IsTrue (is_stamp mark.stamp)
  pub writes : All IsSpellableWrite mark.writes
  pub items : All IsSpellableItem mark.items
