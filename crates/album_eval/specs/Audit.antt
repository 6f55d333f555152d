-- Which entries take note of a request (RFC 7530, section 6.2.1.1).
use Rattle.std.specs.Prelude.{ℕ, List, Bool, true, false, not, ◌&&◌, ◌==◌, map, filter, if◌then◌else◌}
use Rattle.std.specs.List.{enumerate_from}
use Rattle.std.specs.Int.RustNames.{bit_and}
use Rattle.album_access.specs.Bits.{mask_bits, has_flag}
use Rattle.album_access.specs.declared.masks.Mask.{Mask}
use Rattle.album_access.specs.declared.types.AceType.{AceType}
use Rattle.album_access.specs.declared.types.AceType.TheVariants.{Allowed, Denied, Audit, Alarm}
use Rattle.album_lists.specs.declared.lists.Ace.{Ace}
use Rattle.album_eval.specs.Matching.{Case, is_match, is_of_group}
use Rattle.album_eval.specs.Policies.{is_owners_way}

-- entries of these types take note
abbrev pub is_noting : AceType → Bool
is_noting Allowed = false
is_noting Denied = false
is_noting Audit = true
is_noting Alarm = true

-- the masks have a bit in common
abbrev pub meets : Mask → Mask → Bool
meets mask other = not (bit_and (mask_bits mask) (mask_bits other) == 0)

-- the flag that selects an outcome: SUCCESSFUL_ACCESS for a success, FAILED_ACCESS for a failure
abbrev pub outcome_flag : Bool → ℕ
outcome_flag success = if success then 16 else 32

-- a matching entry that takes note, shares a bit with the mask and selects the outcome; none of a group, where an owner
-- goes the owner's way: then it is looked up in no group
unfoldable pub is_noted : Case → Mask → Bool → Ace → Bool
is_noted case mask success entry =
    is_match case entry
    && not (is_owners_way case mask && is_of_group entry.who)
    && is_noting entry.sort
    && meets entry.mask mask
    && has_flag (outcome_flag success) entry.flags

-- the indexes of these entries, rising
unfoldable pub audited : Case → Mask → Bool → List Ace → List ℕ
audited case mask success entries =
    map (λ p. p.0) (filter (λ p. is_noted case mask success p.1) (enumerate_from 0 entries))
