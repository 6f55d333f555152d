-- The values of items, and what each has.
use Rattle.std.specs.Prelude.{ℕ, Bool, true, false, ◌==◌, List, [], ◌∷◌, Option, Some, None, option_map, option_to_list}
use Rattle.std.specs.List.{flat_map}
use Rattle.album_lists.specs.declared.lists.Ace.{Ace}
use Rattle.album_lists.specs.declared.whos.Member.{Member}
use Rattle.album_lists.specs.declared.whos.Member.TheVariants as member
use Rattle.album_lists.specs.declared.whos.Who.{Who}
use Rattle.album_lists.specs.declared.whos.Who.TheVariants as who
use Rattle.album_items.specs.ItemIds.{album, list, group}
use Rattle.album_items.specs.declared.values.Head.{Head}
use Rattle.album_items.specs.declared.values.Value.{Value}
use Rattle.album_items.specs.declared.values.Value.TheVariants as value

-- an item whose kind has this code can have the value: each can be missing
abbrev pub is_of : Value → ℕ → Bool
is_of value.Missing code = true
is_of (value.Picture picture) code = code == 0
is_of (value.Album album) code = code == 1
is_of (value.List entries) code = code == 2
is_of (value.Group group) code = code == 3

-- the value is there
abbrev pub is_there : Value → Bool
is_there value.Missing = false
is_there (value.Picture picture) = true
is_there (value.Album album) = true
is_there (value.List entries) = true
is_there (value.Group group) = true

-- the head of a picture, an album or a group
abbrev pub head_of : Value → Option Head
head_of value.Missing = None
head_of (value.Picture picture) = Some picture.head
head_of (value.Album album) = Some album.head
head_of (value.List entries) = None
head_of (value.Group group) = Some group.head

-- ---- what a value has: nothing, where it is of a kind that does not have it

-- the album that is a picture's home
abbrev pub home_of : Value → List ℕ
home_of value.Missing = []
home_of (value.Picture picture) = album picture.home ∷ []
home_of (value.Album album) = []
home_of (value.List entries) = []
home_of (value.Group group) = []

-- the children of an album
abbrev pub children_of : Value → List ℕ
children_of value.Missing = []
children_of (value.Picture picture) = []
children_of (value.Album album) = album.children
children_of (value.List entries) = []
children_of (value.Group group) = []

-- the entries of a list
abbrev pub entries_of : Value → List Ace
entries_of value.Missing = []
entries_of (value.Picture picture) = []
entries_of (value.Album album) = []
entries_of (value.List entries) = entries
entries_of (value.Group group) = []

-- the members of a group
abbrev pub members_of : Value → List Member
members_of value.Missing = []
members_of (value.Picture picture) = []
members_of (value.Album album) = []
members_of (value.List entries) = []
members_of (value.Group group) = group.members

-- the list that the head names
abbrev pub list_of : Value → List ℕ
list_of value = option_to_list (option_map (λ head. list head.list) (head_of value))

-- the group that the head names
abbrev pub head_group_of : Value → List ℕ
head_group_of value = option_to_list (option_map (λ head. group head.group) (head_of value))

-- the group that is meant by the who of an entry
abbrev pub group_of_who : Who → List ℕ
group_of_who (who.User name) = []
group_of_who (who.Group number) = group number ∷ []
group_of_who who.Owner = []
group_of_who who.OwnerGroup = []
group_of_who who.Everyone = []
group_of_who who.Anonymous = []
group_of_who who.Authenticated = []

-- the group that a member is
abbrev pub group_of_member : Member → List ℕ
group_of_member (member.User name) = []
group_of_member (member.Group number) = group number ∷ []

-- the groups that the entries of a list name, of whatever type and with whatever flags
abbrev pub groups_in_list : Value → List ℕ
groups_in_list value = flat_map (λ entry. group_of_who entry.who) (entries_of value)

-- the groups among the members of a group
abbrev pub groups_in_group : Value → List ℕ
groups_in_group value = flat_map group_of_member (members_of value)
