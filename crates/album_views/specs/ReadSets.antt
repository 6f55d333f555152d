-- Which items a ruling looks at.
use Rattle.std.specs.Prelude.{◌≡◌, ℕ, ◌+◌, List, [], ◌++◌, length, Bool, false, ◌&&◌, Option, Some, None, Contains, if◌then◌else◌}
use Rattle.std.specs.Fn.{iterate}
use Rattle.std.specs.List.{flat_map}
use Rattle.std.specs.Option.{option_map_or}
use Rattle.album_eval.specs.Matching.{owns}
use Rattle.album_eval.specs.Policies.{has_owners_way}
use Rattle.album_eval.specs.declared.facts.Principal.{Principal}
use Rattle.album_eval.specs.declared.policies.Policy.{Policy}
use Rattle.album_items.specs.Values.{head_of, home_of, children_of, list_of, head_group_of, groups_in_list, groups_in_group}
use Rattle.album_items.specs.declared.values.Head.{Head}
use Rattle.album_items.specs.declared.values.Value.{Value}
use Rattle.album_reader.specs.Answers.{ReadVersion}
use Rattle.album_views.specs.declared.asks.Ask.{Ask}
use Rattle.album_views.specs.declared.deeds.Relatives.{Relatives}
use Rattle.album_views.specs.declared.deeds.Relatives.TheVariants as relatives
use Rattle.album_views.specs.Asks.{once, objects_of, relatives_named, needs_list_alone}
use Rattle.album_views.specs.Seen.{seen}

-- the home of a picture, or the children of an album
abbrev pub relatives_in : (ℕ → Value) → Relatives → List ℕ
relatives_in seen relatives.None = []
relatives_in seen (relatives.HomeOf picture) = home_of (seen picture)
relatives_in seen (relatives.ChildrenOf album) = children_of (seen album)

-- what an ask looks at in addition to its objects: the home of a picture that is deleted or moved, the children of an
-- album that is listed
abbrev pub relatives_of : (ℕ → Value) → Ask → List ℕ
relatives_of seen ask = relatives_in seen (relatives_named ask)

-- what is ruled on: the objects of the ask, and these
abbrev pub subjects_of : (ℕ → Value) → Ask → List ℕ
subjects_of seen ask = objects_of ask ++ relatives_of seen ask

-- ---- the owner's way

-- who asks, by a policy that has the owner's way; nobody by another
abbrev pub looker_of : Policy → Principal → Option Principal
looker_of policy principal = if has_owners_way policy then Some principal else None

-- who asks is the owner of what this is, or root
abbrev pub is_owned_by : Principal → Value → Bool
is_owned_by principal value = option_map_or (λ (head : Head). owns principal head.owner) (head_of value) false

-- The owner, or root, goes the owner's way to this subject: the ask needs of it what an owner is given, and nothing
-- else. So no group is looked at for it.
abbrev pub is_groupless : (ℕ → Value) → Option Principal → Ask → ℕ → Bool
is_groupless seen None ask subject = false
is_groupless seen (Some principal) ask subject = is_owned_by principal (seen subject) && needs_list_alone ask subject

-- ---- as a set

-- What a ruling looks at: the least set that has the subjects, of each subject the list and the head group that its
-- head names, the groups that the entries of each such list name, and the groups among the members of each group in
-- the set. A group's own list is not in it, unless the group is a subject. Where the owner's way is gone to a subject,
-- neither its head group nor those of its list are in it for that.
pub data IsNamed (seen : ℕ → Value) (looker : Option Principal) (ask : Ask) : ℕ → Type 0 where
  Subject : (item : ℕ) → Contains (subjects_of seen ask) item → IsNamed seen looker ask item
  ListOf :
      (subject item : ℕ) → Contains (subjects_of seen ask) subject
      → Contains (list_of (seen subject)) item → IsNamed seen looker ask item
  HeadGroupOf :
      (subject item : ℕ) → Contains (subjects_of seen ask) subject → is_groupless seen looker ask subject ≡ false
      → Contains (head_group_of (seen subject)) item → IsNamed seen looker ask item
  GroupInListOf :
      (subject list item : ℕ) → Contains (subjects_of seen ask) subject → is_groupless seen looker ask subject ≡ false
      → Contains (list_of (seen subject)) list
      → Contains (groups_in_list (seen list)) item → IsNamed seen looker ask item
  GroupInGroup :
      (group item : ℕ) → IsNamed seen looker ask group
      → Contains (groups_in_group (seen group)) item → IsNamed seen looker ask item

-- ---- as a list, in the order of the rules

-- the list and the group that the head of an item names; the list alone where the owner's way is gone to it
abbrev pub named_by_head : (ℕ → Value) → Option Principal → Ask → ℕ → List ℕ
named_by_head seen looker ask item =
    list_of (seen item) ++ (if is_groupless seen looker ask item then [] else head_group_of (seen item))

-- the groups that the entries of its list name; none where the owner's way is gone to it
abbrev pub named_by_list : (ℕ → Value) → Option Principal → Ask → ℕ → List ℕ
named_by_list seen looker ask item =
    if is_groupless seen looker ask item then [] else
    flat_map (λ list. groups_in_list (seen list)) (list_of (seen item))

-- the subjects, then what the head of each names, then what the list of each names
unfoldable pub first_names : (ℕ → Value) → Option Principal → Ask → List ℕ
first_names seen looker ask =
    subjects_of seen ask
    ++ (flat_map (named_by_head seen looker ask) (subjects_of seen ask)
    ++ flat_map (named_by_list seen looker ask) (subjects_of seen ask))

-- what names lead to: the first names, and after them the groups among the members of each of the names
abbrev pub grown : (ℕ → Value) → Option Principal → Ask → List ℕ → List ℕ
grown seen looker ask names =
    once (first_names seen looker ask ++ flat_map (λ item. groups_in_group (seen item)) names)

-- The names: what grows out of none. After as many turns as there are answers, and one, nothing grows any more.
unfoldable pub names_of : List ReadVersion → Option Principal → Ask → List ℕ
names_of rows looker ask = iterate (grown (seen rows) looker ask) (length rows + 1) []
