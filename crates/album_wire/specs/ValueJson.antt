-- The JSON values of what items hold: whos, entries and members, and the values of items.
use Rattle.std.specs.Prelude.{ℕ, List, [], ◌∷◌, ◌++◌, codes, decimal, map, Option, Some, None}
use Rattle.hex.specs.Hex.{encode_lower}
use Rattle.serde_json.specs.Data.{Data, null, string, object, Members, no_members, member, put}
use Rattle.album_access.specs.Bits.{mask_bits, flag_bits}
use Rattle.album_lists.specs.declared.lists.Ace.{Ace}
use Rattle.album_lists.specs.declared.whos.Member.{Member}
use Rattle.album_lists.specs.declared.whos.Member.TheVariants as of_member
use Rattle.album_lists.specs.declared.whos.Who.{Who}
use Rattle.album_lists.specs.declared.whos.Who.TheVariants as who
use Rattle.album_items.specs.ItemIds.{text_of}
use Rattle.album_items.specs.declared.values.Album.{Album}
use Rattle.album_items.specs.declared.values.Group.{Group}
use Rattle.album_items.specs.declared.values.Head.{Head}
use Rattle.album_items.specs.declared.values.Picture.{Picture}
use Rattle.album_items.specs.declared.values.Value.{Value}
use Rattle.album_items.specs.declared.values.Value.TheVariants as value
use Rattle.album_lines.specs.Spelling.{whole_data, list_data, type_word}

-- an object, member by member; they are given in the order of their names
abbrev pub members_named : List (List ℕ × Data) → Members
members_named [] = no_members
members_named (m ∷ ms) = member m.0 m.1 (members_named ms)

abbrev pub object_data : List (List ℕ × Data) → Data
object_data ms = object (members_named ms)

-- ---- texts

-- an owner
abbrev pub owner_text : List ℕ → List ℕ
owner_text name = name ++ codes "@users"

abbrev pub group_text : ℕ → List ℕ
group_text number = decimal number ++ codes "@groups"

-- the who of an entry
abbrev pub who_text : Who → List ℕ
who_text (who.User name) = owner_text name
who_text (who.Group number) = group_text number
who_text who.Owner = codes "OWNER@"
who_text who.OwnerGroup = codes "GROUP@"
who_text who.Everyone = codes "EVERYONE@"
who_text who.Anonymous = codes "ANONYMOUS@"
who_text who.Authenticated = codes "AUTHENTICATED@"

-- a member of a group
abbrev pub member_text : Member → List ℕ
member_text (of_member.User name) = owner_text name
member_text (of_member.Group number) = group_text number

-- ---- what items hold

-- an item, by its text
abbrev pub item_json : ℕ → Data
item_json item = string (text_of item)

abbrev pub item_list_json : List ℕ → Data
item_list_json items = list_data (map item_json items)

-- [type, who, mask, flags]
abbrev pub entry_json : Ace → Data
entry_json entry = list_data (
    string (type_word entry.sort)
    ∷ string (who_text entry.who)
    ∷ whole_data (mask_bits entry.mask)
    ∷ whole_data (flag_bits entry.flags)
    ∷ [])

abbrev pub entries_json : List Ace → Data
entries_json entries = list_data (map entry_json entries)

abbrev pub member_json : Member → Data
member_json m = string (member_text m)

abbrev pub members_json : List Member → Data
members_json members = list_data (map member_json members)

-- a content, two digits a byte, in lower case
abbrev pub content_json : List ℕ → Data
content_json bytes = string (encode_lower bytes)

-- an album's home, or nothing
abbrev pub home_json : Option ℕ → Data
home_json None = null
home_json (Some number) = whole_data number

-- ---- values

-- the head of an object
abbrev pub head_fields : Head → List (List ℕ × Data)
head_fields head =
    (codes "group", whole_data head.group)
    ∷ (codes "list", whole_data head.list)
    ∷ (codes "owner", string (owner_text head.owner))
    ∷ []

-- the same, put to other members
abbrev pub with_head : Head → Members → Members
with_head head members =
    put (codes "owner") (string (owner_text head.owner))
    (put (codes "list") (whole_data head.list) (put (codes "group") (whole_data head.group) members))

abbrev pub picture_json : Picture → Data
picture_json picture = object_data (
    (codes "content", content_json picture.content)
    ∷ (codes "group", whole_data picture.head.group)
    ∷ (codes "home", whole_data picture.home)
    ∷ (codes "list", whole_data picture.head.list)
    ∷ (codes "owner", string (owner_text picture.head.owner))
    ∷ (codes "title", string picture.title)
    ∷ [])

abbrev pub album_json : Album → Data
album_json album = object_data (
    (codes "children", item_list_json album.children)
    ∷ (codes "group", whole_data album.head.group)
    ∷ (codes "home", home_json album.home)
    ∷ (codes "list", whole_data album.head.list)
    ∷ (codes "owner", string (owner_text album.head.owner))
    ∷ (codes "title", string album.title)
    ∷ [])

abbrev pub list_json : List Ace → Data
list_json entries = object_data ((codes "entries", entries_json entries) ∷ [])

abbrev pub group_json : Group → Data
group_json group = object_data (
    (codes "group", whole_data group.head.group)
    ∷ (codes "list", whole_data group.head.list)
    ∷ (codes "members", members_json group.members)
    ∷ (codes "owner", string (owner_text group.head.owner))
    ∷ [])

-- the value of an item: nothing, where it is missing
abbrev pub value_json : Value → Data
value_json value.Missing = null
value_json (value.Picture picture) = picture_json picture
value_json (value.Album album) = album_json album
value_json (value.List entries) = list_json entries
value_json (value.Group group) = group_json group
