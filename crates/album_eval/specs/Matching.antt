-- Which entries take part in a request (RFC 7530, section 6.2.1).
use Rattle.std.specs.Prelude.{◌≡◌, ◌≢◌, ℕ, List, Contains, Bool, true, false, not, ◌&&◌, codes, bytes_eq, if◌then◌else◌, Option, Some, None, option_map}
use Rattle.std.specs.Ordering.{nat_cmp}
use Rattle.std.specs.BTreeSet as set
use Rattle.album_lists.specs.declared.lists.Ace.{Ace}
use Rattle.album_lists.specs.declared.whos.Who.{Who}
use Rattle.album_lists.specs.declared.whos.Who.TheVariants as who
use Rattle.album_lists.specs.Whos.{IsUserText, user_of}
use Rattle.album_lists.specs.Entries.{is_only_inherited}
use Rattle.album_eval.specs.declared.facts.Facts.{Facts}
use Rattle.album_eval.specs.declared.facts.Principal.{Principal}
use Rattle.album_eval.specs.declared.facts.Principal.TheVariants as principal
use Rattle.album_eval.specs.declared.policies.Policy.{Policy}

-- the policy that a request is judged by, the principal, the object's owner and head group, and the groups that the
-- principal is in
pub record Case : Type 0 where
  pub policy : Policy
  pub principal : Principal
  pub owner : List ℕ
  pub head_group : ℕ
  pub is_in : ℕ → Bool

abbrev pub case_of : Facts → Case
case_of facts =
    record {
      policy = facts.policy;
      principal = facts.principal.now;
      owner = facts.owner.now;
      head_group = facts.head_group;
      is_in = set.contains nat_cmp facts.groups.now;
    }

abbrev pub is_user : Principal → List ℕ → Bool
is_user principal.Anonymous name = false
is_user (principal.User user) name = bytes_eq user name
is_user (principal.Root user) name = bytes_eq user name

abbrev pub is_known : Principal → Bool
is_known principal.Anonymous = false
is_known (principal.User user) = true
is_known (principal.Root user) = true

-- the principal has on this owner's objects what the owner has: it is the owner, or root
abbrev pub owns : Principal → List ℕ → Bool
owns principal.Anonymous owner = false
owns (principal.User user) owner = bytes_eq user owner
owns (principal.Root user) owner = true

-- the who means the principal
abbrev pub is_for : Case → Who → Bool
is_for case (who.User name) = is_user case.principal name
is_for case (who.Group number) = case.is_in number
is_for case who.Owner = owns case.principal case.owner
is_for case who.OwnerGroup = case.is_in case.head_group
is_for case who.Everyone = true
is_for case who.Anonymous = not (is_known case.principal)
is_for case who.Authenticated = is_known case.principal

-- the who means those who are in a group
abbrev pub is_of_group : Who → Bool
is_of_group (who.User name) = false
is_of_group (who.Group number) = true
is_of_group who.Owner = false
is_of_group who.OwnerGroup = true
is_of_group who.Everyone = false
is_of_group who.Anonymous = false
is_of_group who.Authenticated = false

-- an entry takes part where its who means the principal, and never where it is only inherited
unfoldable pub is_match : Case → Ace → Bool
is_match case entry = not (is_only_inherited entry.flags) && is_for case entry.who

-- how a principal is spelled: `name@users` or `ANONYMOUS@`. No text makes a user root.
abbrev pub IsPrincipalText : Principal → List ℕ → Type 0
IsPrincipalText principal.Anonymous text = text ≡ codes "ANONYMOUS@"
IsPrincipalText (principal.User name) text = IsUserText name text
IsPrincipalText (principal.Root name) text = ⊥

-- the principal that the text is
unfoldable pub principal_of : List ℕ → Option Principal
principal_of text =
    if bytes_eq text (codes "ANONYMOUS@") then Some principal.Anonymous
    else option_map principal.User (user_of text)

-- ---- root

-- who is named as root, perhaps nobody, has this name
abbrev pub is_named : Option (List ℕ) → List ℕ → Bool
is_named None name = false
is_named (Some root) name = bytes_eq root name

-- the principal as it acts where this user is root, or nobody is
abbrev pub acting : Option (List ℕ) → Principal → Principal
acting root principal.Anonymous = principal.Anonymous
acting root (principal.User name) = if is_named root name then principal.Root name else principal.User name
acting root (principal.Root name) = principal.Root name

-- the same request by another principal
abbrev pub asked_by : Principal → Case → Case
asked_by principal case = record case { principal = principal }

-- no entry is for the user by name
abbrev pub IsUnnamed : List ℕ → List Ace → Type 0
IsUnnamed name entries = (entry : Ace) → Contains entries entry → entry.who ≢ who.User name
