-- Who is in which group.
use Rattle.std.specs.Prelude.{ℕ, List, [], Bool, false, bytes_eq, Option, Some, None, Vec, Contains}
use Rattle.std.specs.Ordering.{nat_cmp}
use Rattle.std.specs.BTreeMap as map
use Rattle.std.specs.BTreeMap.{BTreeMap}
use Rattle.std.specs.declared.alloc.Global.{Global}
use Rattle.album_lists.specs.declared.whos.Member.{Member}
use Rattle.album_lists.specs.declared.whos.Member.TheVariants as member
use Rattle.album_eval.specs.declared.facts.Principal.{Principal}
use Rattle.album_eval.specs.declared.facts.Principal.TheVariants as principal

-- The least relation in which a user is in a group that lists the user, or that lists a group that the user is in.
pub data IsIn (listed : ℕ → List Member) (user : List ℕ) : ℕ → Type 0 where
  by_name : (group : ℕ) → Contains (listed group) (member.User user) → IsIn listed user group
  by_group :
      (group inner : ℕ) → Contains (listed group) (member.Group inner)
      → IsIn listed user inner → IsIn listed user group

-- Anonymous is in no group
abbrev pub IsMember : (ℕ → List Member) → Principal → ℕ → Type 0
IsMember listed principal.Anonymous group = ⊥
IsMember listed (principal.User user) group = IsIn listed user group
IsMember listed (principal.Root user) group = IsIn listed user group

-- what a group of a map lists: nobody where the group is missing
abbrev pub members_found : Option (Vec Member Global) → List Member
members_found None = []
members_found (Some members) = members.items

abbrev pub listed_in : BTreeMap ℕ (Vec Member Global) → ℕ → List Member
listed_in groups group = members_found (map.get nat_cmp groups group)

-- ---- for the search of the groups

-- the member is the user of this name
abbrev pub names_user : List ℕ → Member → Bool
names_user user (member.User name) = bytes_eq name user
names_user user (member.Group number) = false

-- what a map from each inner group to those that list it has of a group: none where it is missing
abbrev pub outer_of : Option (Vec ℕ Global) → List ℕ
outer_of None = []
outer_of (Some numbers) = numbers.items

abbrev pub outer_in : BTreeMap ℕ (Vec ℕ Global) → ℕ → List ℕ
outer_in outer group = outer_of (map.get nat_cmp outer group)
