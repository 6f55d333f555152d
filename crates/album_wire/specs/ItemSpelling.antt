-- How items and their values are spelled in JSON, member by member.
use Rattle.std.specs.Prelude.{◌≡◌, ◌≤◌, ◌⊎◌, ◌+◌, ◌*◌, ℕ, List, [], ◌∷◌, length, codes, IsTrue, Option, Some, None, ⊤}
use Rattle.hex.specs.Hex.{hex_digit_value}
use Rattle.serde_json.specs.Data.{Data, null, string}
use Rattle.album_stamps.specs.declared.limits.TheConstants.{MAX_CONTENT}
use Rattle.album_lists.specs.Whos.{IsUserText}
use Rattle.album_lists.specs.declared.lists.Ace.{Ace}
use Rattle.album_lists.specs.declared.lists.Holder.TheVariants.{Folder}
use Rattle.album_items.specs.ItemIds.{IsItemText, kind_of, code_of}
use Rattle.album_items.specs.Texts.{is_title}
use Rattle.album_items.specs.declared.item_ids.Kind.TheVariants as kind
use Rattle.album_items.specs.declared.values.Album.{Album}
use Rattle.album_items.specs.declared.values.Group.{Group}
use Rattle.album_items.specs.declared.values.Head.{Head}
use Rattle.album_items.specs.declared.values.Picture.{Picture}
use Rattle.album_items.specs.declared.values.Value.{Value}
use Rattle.album_items.specs.declared.values.Value.TheVariants as value
use Rattle.album_lines.specs.Spelling.{HasOnly, IsText, IsList, IsAccessList, AreMembers}
use Rattle.album_wire.specs.ObjectSpelling.{IsWhole, HasMember, HasJust}

-- ---- items

-- an item, by its text
abbrev pub IsItem : ℕ → Data → Type 0
IsItem item = IsText (IsItemText item)

-- a picture or an album
abbrev pub IsChild : ℕ → Data → Type 0
IsChild item d = IsItem item d × ((kind_of item ≡ code_of kind.Picture) ⊎ (kind_of item ≡ code_of kind.Album))

-- ---- what values hold

-- an owner
abbrev pub IsOwner : List ℕ → Data → Type 0
IsOwner name = IsText (IsUserText name)

-- a title, as it is
abbrev pub IsTitle : List ℕ → Data → Type 0
IsTitle title d = (d ≡ string title) × IsTrue (is_title title)

-- a byte as two hexadecimal digits, each in either case: the first counts sixteen times
pub record AreDigits (byte first second : ℕ) : Type 0 where
  pub high : ℕ
  pub low : ℕ
  pub first_digit : hex_digit_value first ≡ Some high
  pub second_digit : hex_digit_value second ≡ Some low
  pub together : byte ≡ high * 16 + low

-- a text of two digits a byte
abbrev pub IsHexText : List ℕ → List ℕ → Type 0
IsHexText [] [] = ⊤
IsHexText [] (digit ∷ text) = ⊥
IsHexText (byte ∷ bytes) [] = ⊥
IsHexText (byte ∷ bytes) (digit ∷ []) = ⊥
IsHexText (byte ∷ bytes) (first ∷ second ∷ text) = AreDigits byte first second × IsHexText bytes text

-- a content, in hexadecimal
pub record IsContent (content : List ℕ) (d : Data) : Type 0 where
  pub text : IsText (IsHexText content) d
  pub short : length content ≤ MAX_CONTENT

-- a list of entries, whatever carries it: an album may carry each
abbrev pub IsEntries : List Ace → Data → Type 0
IsEntries entries = IsAccessList Folder entries

-- the number of a home, or nothing where there is none
abbrev pub IsHome : Option ℕ → Data → Type 0
IsHome None d = d ≡ null
IsHome (Some number) d = IsWhole number d

-- ---- values, member by member

-- the members that are a head
pub record HasHead (head : Head) (d : Data) : Type 0 where
  pub owner : HasMember (codes "owner") (IsOwner head.owner) d
  pub group : HasMember (codes "group") (IsWhole head.group) d
  pub list : HasMember (codes "list") (IsWhole head.list) d

-- the value of a picture
pub record IsPicture (picture : Picture) (d : Data) : Type 0 where
  pub names : HasOnly (
      codes "title" ∷ codes "content" ∷ codes "owner" ∷ codes "group" ∷ codes "home" ∷ codes "list" ∷ []) d
  pub title : HasMember (codes "title") (IsTitle picture.title) d
  pub content : HasMember (codes "content") (IsContent picture.content) d
  pub head : HasHead picture.head d
  pub home : HasMember (codes "home") (IsWhole picture.home) d

-- the value of an album
pub record IsAlbum (album : Album) (d : Data) : Type 0 where
  pub names : HasOnly (
      codes "title" ∷ codes "owner" ∷ codes "group" ∷ codes "home" ∷ codes "list" ∷ codes "children" ∷ []) d
  pub title : HasMember (codes "title") (IsTitle album.title) d
  pub head : HasHead album.head d
  pub home : HasMember (codes "home") (IsHome album.home) d
  pub children : HasMember (codes "children") (IsList IsChild album.children) d

-- the value of a group
pub record IsGroupValue (group : Group) (d : Data) : Type 0 where
  pub names : HasOnly (codes "owner" ∷ codes "group" ∷ codes "list" ∷ codes "members" ∷ []) d
  pub head : HasHead group.head d
  pub members : HasMember (codes "members") (AreMembers group.members) d

-- a value; no line spells one that is missing
abbrev pub IsValue : Value → Data → Type 0
IsValue value.Missing d = ⊥
IsValue (value.Picture picture) d = IsPicture picture d
IsValue (value.Album album) d = IsAlbum album d
IsValue (value.List entries) d = HasJust (codes "entries") (IsEntries entries) d
IsValue (value.Group group) d = IsGroupValue group d
