-- What a ruling is based on.
use Rattle.std.specs.Prelude.{◌≡◌, ◌↔◌, ℕ, List, Bool, IsTrue}
use Rattle.album_lists.specs.declared.whos.Member.{Member}
use Rattle.album_eval.specs.Groups.{IsMember}
use Rattle.album_eval.specs.declared.facts.Principal.{Principal}
use Rattle.album_eval.specs.declared.policies.Policy.{Policy}
use Rattle.album_items.specs.ItemIds.{group}
use Rattle.album_items.specs.Values.{members_of}
use Rattle.album_items.specs.declared.values.Value.{Value}
use Rattle.album_reader.specs.Answers.{ReadVersion}
use Rattle.album_views.specs.Seen.{seen}

-- the policy and the principal of a ruling, the groups that the principal is in, and what is seen of each item
pub record Basis : Type 0 where
  pub policy : Policy
  pub principal : Principal
  pub is_in : ℕ → Bool
  pub seen : ℕ → Value

-- the members of the group of a number, as it is seen
abbrev pub members_seen : (ℕ → Value) → ℕ → List Member
members_seen seen number = members_of (seen (group number))

-- exactly the groups that the principal is in pass the test, by the groups that are seen
pub record AreGroups (seen : ℕ → Value) (principal : Principal) (is_in : ℕ → Bool) : Type 0 where
  pub tied : (number : ℕ) → IsTrue (is_in number) ↔ IsMember (members_seen seen) principal number

-- the ruling is by this policy and for this principal, on what these answers show, its groups among it
pub record IsBasis (policy : Policy) (principal : Principal) (rows : List ReadVersion) (basis : Basis) : Type 0 where
  pub ruled_by : basis.policy ≡ policy
  pub ruled_for : basis.principal ≡ principal
  pub shown : basis.seen ≡ seen rows
  pub groups : AreGroups (seen rows) principal basis.is_in
