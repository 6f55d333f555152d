-- The rules that a request is judged by, and what is given before a list is looked at.
use Rattle.std.specs.Prelude.{ℕ, Bool, true, false, ◌&&◌, ◌||◌, ◌==◌, if◌then◌else◌, Option, Some, None}
use Rattle.album_access.specs.Bits.{mask_bits, is_within}
use Rattle.album_access.specs.declared.masks.Mask.{Mask}
use Rattle.album_eval.specs.declared.policies.Policy.{Policy}
use Rattle.album_eval.specs.declared.policies.Policy.TheVariants.{One, Two, Three}
use Rattle.album_eval.specs.Matching.{Case, owns}

-- the policy of a number
abbrev pub policy_of : ℕ → Option Policy
policy_of number =
    if number == 1 then Some One else if number == 2 then Some Two else if number == 3 then Some Three else None

-- what a policy gives to a principal who is the owner, or root: Two and Three give READ_ACL (bit 17) and WRITE_ACL (bit
-- 18), One gives nothing
abbrev pub gives_owner : Policy → ℕ → Bool
gives_owner One bit = false
gives_owner Two bit = bit == 17 || bit == 18
gives_owner Three bit = bit == 17 || bit == 18

-- the bit is given before the list is looked at (this project's own rule; RFC 7530 has none)
unfoldable pub is_given : Case → ℕ → Bool
is_given case bit = owns case.principal case.owner && gives_owner case.policy bit

-- ---- the owner's way

-- by this policy an owner who asks for no more than it is given is looked up in no group
abbrev pub has_owners_way : Policy → Bool
has_owners_way One = false
has_owners_way Two = false
has_owners_way Three = true

-- READ_ACL and WRITE_ACL
abbrev pub acl_bits : ℕ
acl_bits = 0x60000

-- the principal is the owner, or root, and asks for no more than the policy gives to it
abbrev pub is_owners_way : Case → Mask → Bool
is_owners_way case mask =
    has_owners_way case.policy && owns case.principal case.owner && is_within (mask_bits mask) acl_bits

-- the same request under another policy
abbrev pub under : Policy → Case → Case
under policy case = record case { policy = policy }
