-- A quick test of a closed snapshot, for which no set of names is made: each subject was read, with what its head names
-- and its list; and so were the groups among the members of each group that was read. It may fail for a snapshot that
-- is closed, where that has a group beside the names.
use Rattle.std.specs.Prelude.{ℕ, List, Bool, ◌&&◌, ◌||◌, Option}
use Rattle.std.specs.List.{list_all}
use Rattle.album_eval.specs.declared.facts.Principal.{Principal}
use Rattle.album_items.specs.Values.{entries_of, members_of, list_of, head_group_of, group_of_who, group_of_member}
use Rattle.album_items.specs.declared.values.Value.{Value}
use Rattle.album_reader.specs.Answers.{ReadVersion}
use Rattle.album_views.specs.declared.asks.Ask.{Ask}
use Rattle.album_views.specs.ReadSets.{is_groupless}
use Rattle.album_views.specs.Seen.{is_read, seen}

-- the groups that the list's entries name were read
abbrev pub has_groups_of_list : List ReadVersion → Value → Bool
has_groups_of_list rows value = list_all (λ entry. list_all (is_read rows) (group_of_who entry.who)) (entries_of value)

-- the groups among the group's members were read
abbrev pub has_groups_of_group : List ReadVersion → Value → Bool
has_groups_of_group rows value =
    list_all (λ member. list_all (is_read rows) (group_of_member member)) (members_of value)

-- the group that the subject's head names was read, and so were those that its list names
abbrev pub has_groups : List ReadVersion → ℕ → Bool
has_groups rows subject =
    list_all (is_read rows) (head_group_of (seen rows subject))
    && list_all (λ list. has_groups_of_list rows (seen rows list)) (list_of (seen rows subject))

-- the subject was read, its list, and where the owner's way isn't gone its groups
abbrev pub has_subject : List ReadVersion → Option Principal → Ask → ℕ → Bool
has_subject rows looker ask subject =
    is_read rows subject
    && (list_all (is_read rows) (list_of (seen rows subject))
    && (is_groupless (seen rows) looker ask subject || has_groups rows subject))
