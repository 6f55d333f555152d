-- What a granted ask writes.
use Rattle.std.specs.Prelude.{ℕ, List, [], ◌∷◌, ◌++◌, ◌==◌, Bool, false, not, nat_le, count_by, map, fold, Some, if◌then◌else◌}
use Rattle.std.specs.List.{flat_map}
use Rattle.std.specs.Option.{option_map_or}
use Rattle.album_stamps.specs.declared.limits.TheConstants.{MAX_CHILDREN}
use Rattle.album_access.specs.Bits.{all_mask_bits}
use Rattle.album_access.specs.declared.types.AceType.TheVariants.{Allowed}
use Rattle.album_lists.specs.Inheritance.{inherited}
use Rattle.album_lists.specs.declared.lists.Ace.{Ace}
use Rattle.album_lists.specs.declared.lists.Holder.{Holder}
use Rattle.album_lists.specs.declared.lists.Holder.TheVariants.{Plain, Folder}
use Rattle.album_lists.specs.declared.whos.Who.TheVariants as who
use Rattle.album_eval.specs.declared.facts.Principal.{Principal}
use Rattle.album_eval.specs.declared.facts.Principal.TheVariants as principal
use Rattle.album_items.specs.ItemIds.{picture, album, list, group, number_of}
use Rattle.album_items.specs.Values.{head_of, home_of, children_of, list_of}
use Rattle.album_items.specs.declared.values.Head.{Head}
use Rattle.album_items.specs.declared.values.Value.{Value}
use Rattle.album_items.specs.declared.values.Value.TheVariants as value
use Rattle.album_views.specs.Seen.{seen}
use Rattle.album_views.specs.declared.asks.Ask.{Ask}
use Rattle.album_views.specs.declared.asks.Ask.TheVariants as ask
use Rattle.album_views.specs.declared.asks.NewList.{NewList}
use Rattle.album_views.specs.declared.asks.NewMembership.{NewMembership}
use Rattle.album_listing.specs.ViewLookups.{entries_named}
use Rattle.album_permits.specs.Changes.{with_title, with_content, with_home, with_owner, with_members, without_child, with_child}
use Rattle.album_permits.specs.Permits.{PermitState}

-- an item, and the value that it is to have
abbrev pub Write : Type 0
Write = ℕ × Value

-- ---- parts of the table

-- the name of a user, or of root; Anonymous makes no object
abbrev pub name_of : Principal → List ℕ
name_of principal.Anonymous = []
name_of (principal.User name) = name
name_of (principal.Root name) = name

-- the head group of an item
abbrev pub head_group_seen : (ℕ → Value) → ℕ → ℕ
head_group_seen seen item = option_map_or (λ (head : Head). head.group) (head_of (seen item)) 0

-- a new object in the album is the principal's, in the album's head group, with the list of the stamp's number
abbrev pub new_head : (ℕ → Value) → Principal → ℕ → ℕ → Head
new_head seen principal stamp album =
    record { owner = name_of principal; group = head_group_seen seen album; list = stamp }

-- what it inherits of the list of the album
abbrev pub heritage : (ℕ → Value) → Holder → ℕ → List Ace
heritage seen holder album = inherited holder (entries_named seen album)

-- all rights for the owner, and none for anybody else
abbrev pub owners_entry : Ace
owners_entry =
    record { sort = Allowed; who = who.Owner; mask = record { 0 = all_mask_bits }; flags = record { 0 = 0 } }

-- the list of that entry alone
abbrev pub owners_list : List Ace
owners_list = owners_entry ∷ []

-- the list of an item is no more
abbrev pub list_dropped : (ℕ → Value) → ℕ → List Write
list_dropped seen item = map (λ list. (list, value.Missing)) (list_of (seen item))

-- a picture is taken out of its home
abbrev pub taken_out : (ℕ → Value) → ℕ → List Write
taken_out seen picture = map (λ home. (home, without_child picture (seen home))) (home_of (seen picture))

-- the list that the object's head names has these entries
abbrev pub list_written : (ℕ → Value) → NewList → List Write
list_written seen new = map (λ list. (list, value.List new.list)) (list_of (seen new.object))

-- the group has these members
abbrev pub members_written : (ℕ → Value) → NewMembership → Write
members_written seen new = (new.object, with_members new.members (seen new.object))

-- ---- the table

-- what an ask writes at a stamp, in order; an item may occur twice
abbrev pub written : (ℕ → Value) → Principal → ℕ → Ask → List Write
written seen principal stamp (ask.Read object) = []
written seen principal stamp (ask.List album) = []
written seen principal stamp (ask.GetList object) = []
written seen principal stamp (ask.Head object) = []
written seen principal stamp (ask.Children album) = []
written seen principal stamp (ask.AddPicture into title content) = (
  picture stamp,
  value.Picture (record {
    title = title;
    content = content;
    head = new_head seen principal stamp into;
    home = number_of into;
  }),
)
    ∷ (list stamp, value.List (heritage seen Plain into))
    ∷ (into, with_child (picture stamp) (seen into))
    ∷ []
written seen principal stamp (ask.AddAlbum into title) = (
  album stamp,
  value.Album (record {
    title = title;
    head = new_head seen principal stamp into;
    home = Some (number_of into);
    children = [];
  }),
)
    ∷ (list stamp, value.List (heritage seen Folder into))
    ∷ (into, with_child (album stamp) (seen into))
    ∷ []
written seen principal stamp (ask.AddGroup into members) =
    (group stamp, value.Group (record { head = new_head seen principal stamp into; members = members }))
    ∷ (list stamp, value.List owners_list)
    ∷ []
written seen principal stamp (ask.Retitle object title) = (object, with_title title (seen object)) ∷ []
written seen principal stamp (ask.Replace object content) = (object, with_content content (seen object)) ∷ []
written seen principal stamp (ask.Delete object) =
    (object, value.Missing) ∷ (list_dropped seen object ++ taken_out seen object)
written seen principal stamp (ask.Move object to) =
    (object, with_home (number_of to) (seen object))
    ∷ (taken_out seen object ++ (to, with_child object (seen to)) ∷ [])
written seen principal stamp (ask.SetLists lists) = flat_map (list_written seen) lists
written seen principal stamp (ask.SetOwner object owner number) =
    (object, with_owner owner number (seen object)) ∷ []
written seen principal stamp (ask.SetMembers object members) = (object, with_members members (seen object)) ∷ []
written seen principal stamp (ask.Share lists members) =
    flat_map (list_written seen) lists ++ map (members_written seen) members

-- a write in the place of an earlier one of its item, or else last
abbrev pub put : List Write → Write → List Write
put [] write = write ∷ []
put (earlier ∷ writes) write = if earlier.0 == write.0 then write ∷ writes else earlier ∷ put writes write

-- each item once, at its first index and with its last value
abbrev pub merged : List Write → List Write
merged writes = fold put [] writes

-- what the ask of a permit writes at a stamp
abbrev pub effect_of : PermitState → ℕ → List Write
effect_of permit stamp = merged (written (seen permit.view.rows) permit.principal stamp permit.view.ask)

-- ---- room

-- the album has 128 children other than this one
abbrev pub has_most_others : ℕ → Value → Bool
has_most_others child value = nat_le MAX_CHILDREN (count_by (λ other. not (child == other)) (children_of value))

-- the album that gets a child by the ask is full
abbrev pub is_album_full : (ℕ → Value) → ℕ → Ask → Bool
is_album_full seen stamp (ask.Read object) = false
is_album_full seen stamp (ask.List album) = false
is_album_full seen stamp (ask.GetList object) = false
is_album_full seen stamp (ask.Head object) = false
is_album_full seen stamp (ask.Children album) = false
is_album_full seen stamp (ask.AddPicture into title content) = has_most_others (picture stamp) (seen into)
is_album_full seen stamp (ask.AddAlbum into title) = has_most_others (album stamp) (seen into)
is_album_full seen stamp (ask.AddGroup into members) = false
is_album_full seen stamp (ask.Retitle object title) = false
is_album_full seen stamp (ask.Replace object content) = false
is_album_full seen stamp (ask.Delete object) = false
is_album_full seen stamp (ask.Move object to) = has_most_others object (seen to)
is_album_full seen stamp (ask.SetLists lists) = false
is_album_full seen stamp (ask.SetOwner object owner number) = false
is_album_full seen stamp (ask.SetMembers object members) = false
is_album_full seen stamp (ask.Share lists members) = false

-- the same, of the ask of a permit
abbrev pub is_full_for : PermitState → ℕ → Bool
is_full_for permit stamp = is_album_full (seen permit.view.rows) stamp permit.view.ask
