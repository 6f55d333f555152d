-- Which asks are refused before anything is read, and why.
use Rattle.std.specs.Prelude.{ℕ, List, [], ◌∷◌, Bool, not, ◌&&◌, ◌==◌, nat_le, nat_lt, length, map, Option, Some, None, if◌then◌else◌}
use Rattle.std.specs.List.{list_all, list_any}
use Rattle.album_stamps.specs.Distinct.{are_distinct}
use Rattle.album_stamps.specs.declared.limits.TheConstants.{MAX_TRANSACTION_ITEMS, MAX_MEMBERS}
use Rattle.album_stamps.specs.declared.refusals.Refusal.{Refusal}
use Rattle.album_stamps.specs.declared.refusals.Refusal.TheVariants.{BadRequest, TooManyItems, ListFull, BadFlags, NoOwner}
use Rattle.album_lists.specs.Entries.{fits}
use Rattle.album_lists.specs.Whos.{or_else}
use Rattle.album_lists.specs.declared.lists.Holder.{Holder}
use Rattle.album_lists.specs.declared.lists.Holder.TheVariants.{Plain, Folder}
use Rattle.album_lists.specs.declared.whos.Member.{Member}
use Rattle.album_eval.specs.Matching.{is_known}
use Rattle.album_eval.specs.declared.facts.Principal.{Principal}
use Rattle.album_items.specs.ItemIds.{code_of, kind_of}
use Rattle.album_items.specs.declared.item_ids.Kind.{Kind}
use Rattle.album_views.specs.declared.asks.Ask.{Ask}
use Rattle.album_views.specs.declared.asks.Ask.TheVariants as ask
use Rattle.album_views.specs.declared.asks.NewList.{NewList}
use Rattle.album_views.specs.declared.asks.NewMembership.{NewMembership}
use Rattle.album_views.specs.Asks.{wanted, objects_of, is_adding}

-- the item is of one of the kinds
abbrev pub is_one_of : List Kind → ℕ → Bool
is_one_of kinds item = list_any (λ kind. code_of kind == kind_of item) kinds

-- each item that is named is of a kind that is allowed for it
abbrev pub has_kinds : Ask → Bool
has_kinds ask = list_all (λ wanted. is_one_of wanted.kinds wanted.object) (wanted ask)

-- the ask names an item, and none twice, but that a share may name a group for its list and for its members
abbrev pub has_single_objects : Ask → Bool
has_single_objects (ask.Share lists members) =
    not (length (wanted (ask.Share lists members)) == 0)
    && (are_distinct (map (λ (new : NewList). new.object) lists)
    && are_distinct (map (λ (new : NewMembership). new.object) members))
has_single_objects ask = not (length (objects_of ask) == 0) && are_distinct (objects_of ask)

-- both are for one object
abbrev pub same_object : NewList → NewList → Bool
same_object a b = a.object == b.object

abbrev pub same_group : NewMembership → NewMembership → Bool
same_group a b = a.object == b.object

-- the members that groups are to have, of each group
abbrev pub new_members : Ask → List (List Member)
new_members (ask.Read object) = []
new_members (ask.List album) = []
new_members (ask.GetList object) = []
new_members (ask.Head object) = []
new_members (ask.Children album) = []
new_members (ask.AddPicture album title content) = []
new_members (ask.AddAlbum album title) = []
new_members (ask.AddGroup album members) = members ∷ []
new_members (ask.Retitle object title) = []
new_members (ask.Replace object content) = []
new_members (ask.Delete object) = []
new_members (ask.Move object to) = []
new_members (ask.SetLists lists) = []
new_members (ask.SetOwner object owner group) = []
new_members (ask.SetMembers object members) = members ∷ []
new_members (ask.Share lists members) = map (λ (new : NewMembership). new.members) members

-- the lists that objects are to have
abbrev pub new_lists : Ask → List NewList
new_lists (ask.Read object) = []
new_lists (ask.List album) = []
new_lists (ask.GetList object) = []
new_lists (ask.Head object) = []
new_lists (ask.Children album) = []
new_lists (ask.AddPicture album title content) = []
new_lists (ask.AddAlbum album title) = []
new_lists (ask.AddGroup album members) = []
new_lists (ask.Retitle object title) = []
new_lists (ask.Replace object content) = []
new_lists (ask.Delete object) = []
new_lists (ask.Move object to) = []
new_lists (ask.SetLists lists) = lists
new_lists (ask.SetOwner object owner group) = []
new_lists (ask.SetMembers object members) = []
new_lists (ask.Share lists members) = lists

-- a group may have these members
abbrev pub is_room_for : List Member → Bool
is_room_for members = nat_le (length members) MAX_MEMBERS

-- each group has room for its members
abbrev pub has_room : Ask → Bool
has_room ask = list_all is_room_for (new_members ask)

-- what carries the list of an item: an album is a folder
abbrev pub holder_of : ℕ → Holder
holder_of item = if kind_of item == 1 then Folder else Plain

-- each new list fits its object
abbrev pub has_fitting_lists : Ask → Bool
has_fitting_lists ask = list_all (λ (new : NewList). fits (holder_of new.object) new.list) (new_lists ask)

-- the first test that the ask fails, for any principal
unfoldable pub flaw_of : Ask → Option Refusal
flaw_of ask =
    if not (has_kinds ask && has_single_objects ask) then Some BadRequest
    else if nat_lt MAX_TRANSACTION_ITEMS (length (wanted ask)) then Some TooManyItems
    else if not (has_room ask) then Some ListFull
    else if not (has_fitting_lists ask) then Some BadFlags
    else None

-- what is made has an owner, so Anonymous makes nothing
abbrev pub owner_flaw : Ask → Principal → Option Refusal
owner_flaw ask principal = if is_adding ask && not (is_known principal) then Some NoOwner else None

-- why the ask is refused to this principal before anything is read, if it is
abbrev pub refusal_of : Ask → Principal → Option Refusal
refusal_of ask principal = or_else (flaw_of ask) (owner_flaw ask principal)
