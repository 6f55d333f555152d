-- What a client asks for: which items, which kinds are allowed for them, and whether the ask lists, writes or makes
-- something.
use Rattle.std.specs.Prelude.{ℕ, ◌==◌, List, [], ◌∷◌, ◌++◌, Bool, true, false, not, map}
use Rattle.std.specs.List.{list_any}
use Rattle.indexmap.specs.IndexSet.{insert_all}
use Rattle.album_items.specs.ItemIds.{item, list, code_of}
use Rattle.album_items.specs.declared.item_ids.Kind.{Kind}
use Rattle.album_items.specs.declared.item_ids.Kind.TheVariants.{Picture, Album, Group}
use Rattle.album_views.specs.declared.deeds.Deed.{Deed}
use Rattle.album_views.specs.declared.deeds.Deed.TheVariants as deed
use Rattle.album_views.specs.declared.deeds.Relatives.{Relatives}
use Rattle.album_views.specs.declared.deeds.Relatives.TheVariants as relatives
use Rattle.album_views.specs.declared.asks.Ask.{Ask}
use Rattle.album_views.specs.declared.asks.Ask.TheVariants as ask
use Rattle.album_views.specs.declared.asks.NewList.{NewList}
use Rattle.album_views.specs.declared.asks.NewMembership.{NewMembership}

-- an item that is asked for, and the kinds that are allowed for it
pub record Wanted : Type 0 where
  pub object : ℕ
  pub kinds : List Kind

abbrev pub want : List Kind → ℕ → Wanted
want kinds object = record { object = object; kinds = kinds }

-- what has a head, and so a list of its own
abbrev pub headed : List Kind
headed = Picture ∷ Album ∷ Group ∷ []

-- what an ask names, in the order of its fields, each item with the kinds that are allowed for it
abbrev pub wanted : Ask → List Wanted
wanted (ask.Read object) = want (Picture ∷ Group ∷ []) object ∷ []
wanted (ask.List album) = want (Album ∷ []) album ∷ []
wanted (ask.GetList object) = want headed object ∷ []
wanted (ask.Head object) = want headed object ∷ []
wanted (ask.Children album) = want (Album ∷ []) album ∷ []
wanted (ask.AddPicture album title content) = want (Album ∷ []) album ∷ []
wanted (ask.AddAlbum album title) = want (Album ∷ []) album ∷ []
wanted (ask.AddGroup album members) = want (Album ∷ []) album ∷ []
wanted (ask.Retitle object title) = want (Picture ∷ Album ∷ []) object ∷ []
wanted (ask.Replace object content) = want (Picture ∷ []) object ∷ []
wanted (ask.Delete object) = want (Picture ∷ []) object ∷ []
wanted (ask.Move object to) = want (Picture ∷ []) object ∷ want (Album ∷ []) to ∷ []
wanted (ask.SetLists lists) = map (λ (new : NewList). want headed new.object) lists
wanted (ask.SetOwner object owner group) = want headed object ∷ []
wanted (ask.SetMembers object members) = want (Group ∷ []) object ∷ []
wanted (ask.Share lists members) =
    map (λ (new : NewList). want headed new.object) lists
    ++ map (λ (new : NewMembership). want (Group ∷ []) new.object) members

-- each item once, at its first index
abbrev pub once : List ℕ → List ℕ
once items = insert_all ◌==◌ [] items

-- the objects of an ask: what it names. A group that a share names twice, for its list and for its members, is one.
abbrev pub objects_of : Ask → List ℕ
objects_of (ask.Share lists members) =
    once (map (λ (new : NewList). new.object) lists ++ map (λ (new : NewMembership). new.object) members)
objects_of ask = map (λ wanted. wanted.object) (wanted ask)

-- ---- what each kind of ask does

-- what the ask does
abbrev pub deed_of : Ask → Deed
deed_of (ask.Read object) = deed.Serves
deed_of (ask.List album) = deed.Lists
deed_of (ask.GetList object) = deed.Serves
deed_of (ask.Head object) = deed.Serves
deed_of (ask.Children album) = deed.Serves
deed_of (ask.AddPicture album title content) = deed.Makes Picture
deed_of (ask.AddAlbum album title) = deed.Makes Album
deed_of (ask.AddGroup album members) = deed.Makes Group
deed_of (ask.Retitle object title) = deed.Changes
deed_of (ask.Replace object content) = deed.Changes
deed_of (ask.Delete object) = deed.Changes
deed_of (ask.Move object to) = deed.Changes
deed_of (ask.SetLists lists) = deed.Changes
deed_of (ask.SetOwner object owner number) = deed.Changes
deed_of (ask.SetMembers object members) = deed.Changes
deed_of (ask.Share lists members) = deed.Changes

-- it lists an album
abbrev pub lists : Deed → Bool
lists deed.Serves = false
lists deed.Lists = true
lists deed.Changes = false
lists (deed.Makes kind) = false

-- it writes
abbrev pub writes : Deed → Bool
writes deed.Serves = false
writes deed.Lists = false
writes deed.Changes = true
writes (deed.Makes kind) = true

-- it makes a new object
abbrev pub makes : Deed → Bool
makes deed.Serves = false
makes deed.Lists = false
makes deed.Changes = false
makes (deed.Makes kind) = true

-- the ask is to list an album
abbrev pub is_list : Ask → Bool
is_list ask = lists (deed_of ask)

-- the ask writes
abbrev pub is_write : Ask → Bool
is_write ask = writes (deed_of ask)

-- the ask makes a new object
abbrev pub is_adding : Ask → Bool
is_adding ask = makes (deed_of ask)

-- the items that are made at a stamp: a new object, and its list
abbrev pub made_at : ℕ → Deed → List ℕ
made_at stamp deed.Serves = []
made_at stamp deed.Lists = []
made_at stamp deed.Changes = []
made_at stamp (deed.Makes kind) = item (code_of kind) stamp ∷ list stamp ∷ []

-- the same of what an ask makes
abbrev pub made_by : Ask → ℕ → List ℕ
made_by ask stamp = made_at stamp (deed_of ask)

-- ---- what it looks at beside its objects

-- of which item it looks at the home or at the children
abbrev pub relatives_named : Ask → Relatives
relatives_named (ask.Read object) = relatives.None
relatives_named (ask.List album) = relatives.ChildrenOf album
relatives_named (ask.GetList object) = relatives.None
relatives_named (ask.Head object) = relatives.None
relatives_named (ask.Children album) = relatives.None
relatives_named (ask.AddPicture album title content) = relatives.None
relatives_named (ask.AddAlbum album title) = relatives.None
relatives_named (ask.AddGroup album members) = relatives.None
relatives_named (ask.Retitle object title) = relatives.None
relatives_named (ask.Replace object content) = relatives.None
relatives_named (ask.Delete object) = relatives.HomeOf object
relatives_named (ask.Move object to) = relatives.HomeOf object
relatives_named (ask.SetLists lists) = relatives.None
relatives_named (ask.SetOwner object owner number) = relatives.None
relatives_named (ask.SetMembers object members) = relatives.None
relatives_named (ask.Share lists members) = relatives.None

-- the ask needs of the object the right to read or to set its list, and no other
abbrev pub needs_list_alone : Ask → ℕ → Bool
needs_list_alone (ask.Read object) item = false
needs_list_alone (ask.List album) item = false
needs_list_alone (ask.GetList object) item = true
needs_list_alone (ask.Head object) item = false
needs_list_alone (ask.Children album) item = false
needs_list_alone (ask.AddPicture album title content) item = false
needs_list_alone (ask.AddAlbum album title) item = false
needs_list_alone (ask.AddGroup album members) item = true
needs_list_alone (ask.Retitle object title) item = false
needs_list_alone (ask.Replace object content) item = false
needs_list_alone (ask.Delete object) item = false
needs_list_alone (ask.Move object to) item = false
needs_list_alone (ask.SetLists lists) item = true
needs_list_alone (ask.SetOwner object owner group) item = false
needs_list_alone (ask.SetMembers object members) item = false
needs_list_alone (ask.Share lists members) item = not (list_any (λ (new : NewMembership). new.object == item) members)
