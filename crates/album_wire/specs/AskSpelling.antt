-- How asks are spelled in JSON: the word under `do`, and the other members.
use Rattle.std.specs.Prelude.{◌≡◌, ℕ, List, [], ◌∷◌, codes, Some}
use Rattle.serde_json.specs.Data.{Data, string}
use Rattle.serde_json.specs.Find.{get}
use Rattle.album_views.specs.declared.asks.Ask.{Ask}
use Rattle.album_views.specs.declared.asks.Ask.TheVariants as ask
use Rattle.album_views.specs.declared.asks.NewList.{NewList}
use Rattle.album_views.specs.declared.asks.NewMembership.{NewMembership}
use Rattle.album_lines.specs.Spelling.{HasOnly, IsList, AreMembers, list_data}
use Rattle.album_wire.specs.ObjectSpelling.{IsWhole, HasMember}
use Rattle.album_wire.specs.ItemSpelling.{IsItem, IsOwner, IsTitle, IsContent, IsEntries}

-- an object that has this word under `do`, and no other members than these
pub record IsDo (word : List ℕ) (beside : List (List ℕ)) (d : Data) : Type 0 where
  pub does : get (codes "do") d ≡ Some (string word)
  pub names : HasOnly (codes "do" ∷ beside) d

-- [object, entries]
pub record IsNewList (new : NewList) (d : Data) : Type 0 where
  pub object_data : Data
  pub entries_data : Data
  pub items : d ≡ list_data (object_data ∷ entries_data ∷ [])
  pub object : IsItem new.object object_data
  pub entries : IsEntries new.list entries_data

-- [group, members]
pub record IsNewMembership (new : NewMembership) (d : Data) : Type 0 where
  pub object_data : Data
  pub members_data : Data
  pub items : d ≡ list_data (object_data ∷ members_data ∷ [])
  pub object : IsItem new.object object_data
  pub members : AreMembers new.members members_data

-- each ask by its word, and the form of each other member
abbrev pub IsAsk : Ask → Data → Type 0
IsAsk (ask.Read object) d =
    IsDo (codes "read") (codes "object" ∷ []) d
    × HasMember (codes "object") (IsItem object) d
IsAsk (ask.List album) d =
    IsDo (codes "list") (codes "album" ∷ []) d
    × HasMember (codes "album") (IsItem album) d
IsAsk (ask.GetList object) d =
    IsDo (codes "get_list") (codes "object" ∷ []) d
    × HasMember (codes "object") (IsItem object) d
IsAsk (ask.Head object) d =
    IsDo (codes "head") (codes "object" ∷ []) d
    × HasMember (codes "object") (IsItem object) d
IsAsk (ask.Children album) d =
    IsDo (codes "children") (codes "album" ∷ []) d
    × HasMember (codes "album") (IsItem album) d
IsAsk (ask.AddPicture album title content) d =
    IsDo (codes "add_picture") (codes "album" ∷ codes "title" ∷ codes "content" ∷ []) d
    × HasMember (codes "album") (IsItem album) d
    × HasMember (codes "title") (IsTitle title) d
    × HasMember (codes "content") (IsContent content) d
IsAsk (ask.AddAlbum album title) d =
    IsDo (codes "add_album") (codes "album" ∷ codes "title" ∷ []) d
    × HasMember (codes "album") (IsItem album) d
    × HasMember (codes "title") (IsTitle title) d
IsAsk (ask.AddGroup album members) d =
    IsDo (codes "add_group") (codes "album" ∷ codes "members" ∷ []) d
    × HasMember (codes "album") (IsItem album) d
    × HasMember (codes "members") (AreMembers members) d
IsAsk (ask.Retitle object title) d =
    IsDo (codes "retitle") (codes "object" ∷ codes "title" ∷ []) d
    × HasMember (codes "object") (IsItem object) d
    × HasMember (codes "title") (IsTitle title) d
IsAsk (ask.Replace object content) d =
    IsDo (codes "replace") (codes "object" ∷ codes "content" ∷ []) d
    × HasMember (codes "object") (IsItem object) d
    × HasMember (codes "content") (IsContent content) d
IsAsk (ask.Delete object) d =
    IsDo (codes "delete") (codes "object" ∷ []) d
    × HasMember (codes "object") (IsItem object) d
IsAsk (ask.Move object to) d =
    IsDo (codes "move") (codes "object" ∷ codes "to" ∷ []) d
    × HasMember (codes "object") (IsItem object) d
    × HasMember (codes "to") (IsItem to) d
IsAsk (ask.SetLists lists) d =
    IsDo (codes "set_lists") (codes "lists" ∷ []) d
    × HasMember (codes "lists") (IsList IsNewList lists) d
IsAsk (ask.SetOwner object owner group) d =
    IsDo (codes "set_owner") (codes "object" ∷ codes "owner" ∷ codes "group" ∷ []) d
    × HasMember (codes "object") (IsItem object) d
    × HasMember (codes "owner") (IsOwner owner) d
    × HasMember (codes "group") (IsWhole group) d
IsAsk (ask.SetMembers object members) d =
    IsDo (codes "set_members") (codes "object" ∷ codes "members" ∷ []) d
    × HasMember (codes "object") (IsItem object) d
    × HasMember (codes "members") (AreMembers members) d
IsAsk (ask.Share lists members) d =
    IsDo (codes "share") (codes "lists" ∷ codes "members" ∷ []) d
    × HasMember (codes "lists") (IsList IsNewList lists) d
    × HasMember (codes "members") (IsList IsNewMembership members) d
