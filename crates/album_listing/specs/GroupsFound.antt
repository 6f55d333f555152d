-- Which groups a principal is in, computed, and the basis of a ruling that has them.
use Rattle.std.specs.Prelude.{ℕ, ◌+◌, ◌==◌, Bool, true, List, [], filter, length, map}
use Rattle.std.specs.Fn.{iterate}
use Rattle.std.specs.List.{list_any}
use Rattle.album_lists.specs.declared.whos.Member.{Member}
use Rattle.album_lists.specs.declared.whos.Member.TheVariants as member
use Rattle.album_eval.specs.Matching.{is_user}
use Rattle.album_eval.specs.declared.facts.Principal.{Principal}
use Rattle.album_eval.specs.declared.policies.Policy.{Policy}
use Rattle.album_items.specs.ItemIds.{kind_of, number_of}
use Rattle.album_reader.specs.Answers.{ReadVersion}
use Rattle.album_reader.specs.Rounds.{has_item}
use Rattle.album_reader.specs.Snapshots.{items_read}
use Rattle.album_views.specs.Seen.{seen}
use Rattle.album_listing.specs.Basis.{Basis, members_seen}

-- the numbers of the groups that were read
abbrev pub groups_read : List ReadVersion → List ℕ
groups_read rows = map number_of (filter (λ item. kind_of item == 3) (items_read rows))

-- the member is the principal, or a group: no other brings the principal into a group
abbrev pub may_bring_in : Principal → Member → Bool
may_bring_in principal (member.User name) = is_user principal name
may_bring_in principal (member.Group number) = true

-- the member is the principal, or one of these groups
abbrev pub brings_in : Principal → List ℕ → Member → Bool
brings_in principal groups (member.User name) = is_user principal name
brings_in principal groups (member.Group number) = has_item groups number

-- the groups that were read and list the principal or one of these groups
abbrev pub grown_groups : Principal → List ReadVersion → List ℕ → List ℕ
grown_groups principal rows groups =
    filter (λ number. list_any (brings_in principal groups) (members_seen (seen rows) number)) (groups_read rows)

-- The groups that the principal is in: what grows out of none. After as many turns as there are answers, and one,
-- nothing grows any more.
unfoldable pub groups_found : Principal → List ReadVersion → List ℕ
groups_found principal rows = iterate (grown_groups principal rows) (length rows + 1) []

-- the basis of a ruling on these answers (law `a_ruling_has_a_basis`)
abbrev pub basis_on : Policy → Principal → List ReadVersion → Basis
basis_on policy principal rows =
    record {
      policy = policy;
      principal = principal;
      is_in = has_item (groups_found principal rows);
      seen = seen rows;
    }
