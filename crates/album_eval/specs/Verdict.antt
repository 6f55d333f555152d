-- What an access list says of a request (RFC 7530, section 6.2.1).
use Rattle.std.specs.Prelude.{◌≡◌, ◌≤◌, ℕ, zero, suc, min, List, Bool, true, false, not, ◌&&◌, Option, Some, None, position, IsSomeAnd}
use Rattle.std.specs.List.{slice_get}
use Rattle.std.specs.Option.{option_map_or}
use Rattle.album_access.specs.Bits.{mask_bits, has_bit}
use Rattle.album_access.specs.declared.masks.Mask.{Mask}
use Rattle.album_access.specs.declared.types.AceType.{AceType}
use Rattle.album_access.specs.declared.types.AceType.TheVariants.{Allowed, Denied, Audit, Alarm}
use Rattle.album_lists.specs.declared.lists.Ace.{Ace}
use Rattle.album_eval.specs.declared.verdicts.Verdict.{Verdict}
use Rattle.album_eval.specs.declared.verdicts.Verdict.TheVariants.{Granted, DeniedBy, DeniedAtEnd}
use Rattle.album_eval.specs.Matching.{Case, is_match}
use Rattle.album_eval.specs.Policies.{is_given}

-- a bit that is asked, and not given before the list is looked at
unfoldable pub is_asked : Case → Mask → ℕ → Bool
is_asked case mask bit = has_bit mask bit && not (is_given case bit)

-- entries of these types decide; the others are only noted
abbrev pub allows_or_denies : AceType → Bool
allows_or_denies Allowed = true
allows_or_denies Denied = true
allows_or_denies Audit = false
allows_or_denies Alarm = false

-- a matching entry that allows or denies, and whose mask has the bit
unfoldable pub mentions : Case → ℕ → Ace → Bool
mentions case bit entry = is_match case entry && allows_or_denies entry.sort && has_bit entry.mask bit

-- the first mention of a bit: the least index of an entry that mentions it, if there is one
unfoldable pub first_mention : Case → ℕ → List Ace → Option ℕ
first_mention case bit entries = position (mentions case bit) entries

abbrev pub IsSortAt : AceType → List Ace → ℕ → Type 0
IsSortAt sort entries i = IsSomeAnd (slice_get entries i) (λ entry. entry.sort ≡ sort)

-- a bit that is asked is first mentioned at the index, by an entry that denies it
pub record Denies (case : Case) (entries : List Ace) (mask : Mask) (i : ℕ) : Type 0 where
  pub bit : ℕ
  pub asked : is_asked case mask bit ≡ true
  pub first : first_mention case bit entries ≡ Some i
  pub denied : IsSortAt Denied entries i

-- the bit is first mentioned by an entry that allows it
abbrev pub IsAllowed : Case → List Ace → ℕ → Type 0
IsAllowed case entries bit = IsSomeAnd (first_mention case bit entries) (IsSortAt Allowed entries)

-- Granted: each bit asked is allowed by its first mention. DeniedBy: the least index at which a first mention denies.
-- DeniedAtEnd: no first mention denies, and a bit that is asked has none.
abbrev pub IsVerdict : Case → List Ace → Mask → Verdict → Type 0
IsVerdict case entries mask Granted = (bit : ℕ) → is_asked case mask bit ≡ true → IsAllowed case entries bit
IsVerdict case entries mask (DeniedBy i) =
    Denies case entries mask i × ((k : ℕ) → Denies case entries mask k → i ≤ k)
IsVerdict case entries mask DeniedAtEnd =
    ((k : ℕ) → Denies case entries mask k → ⊥)
    × (bit : ℕ)
    × (is_asked case mask bit ≡ true)
    × (first_mention case bit entries ≡ None)

-- ---- the same, computed; that the two agree is the law `one_verdict`

abbrev pub denies : AceType → Bool
denies Allowed = false
denies Denied = true
denies Audit = false
denies Alarm = false

-- the entry at the index denies
abbrev pub is_denied_at : List Ace → ℕ → Bool
is_denied_at entries i = option_map_or (λ (entry : Ace). denies entry.sort) (slice_get entries i) false

-- of the bits looked at: the least index at which one is denied, and whether one is never mentioned
pub record Tally : Type 0 where
  pub denial : Option ℕ
  pub is_unmentioned : Bool

abbrev pub least_of : Option ℕ → ℕ → ℕ
least_of None i = i
least_of (Some k) i = min k i

abbrev pub with_mention : Bool → ℕ → Tally → Tally
with_mention true i tally = record tally { denial = Some (least_of tally.denial i) }
with_mention false i tally = tally

-- one bit more, by whether it is asked and where it is first mentioned
abbrev pub with_bit : Bool → List Ace → Option ℕ → Tally → Tally
with_bit false entries first tally = tally
with_bit true entries None tally = record tally { is_unmentioned = true }
with_bit true entries (Some i) tally = with_mention (is_denied_at entries i) i tally

-- the bits below a number
abbrev pub tally_below : Case → List Ace → Mask → ℕ → Tally
tally_below case entries mask zero = record { denial = None; is_unmentioned = false }
tally_below case entries mask (suc n) =
    with_bit (is_asked case mask n) entries (first_mention case n entries) (tally_below case entries mask n)

abbrev pub verdict_by : Option ℕ → Bool → Verdict
verdict_by (Some i) is_unmentioned = DeniedBy i
verdict_by None true = DeniedAtEnd
verdict_by None false = Granted

-- the verdict on a request; no bit of a mask is at the mask's own number or past it
unfoldable pub verdict : Case → List Ace → Mask → Verdict
verdict case entries mask =
    let tally : Tally = tally_below case entries mask (mask_bits mask) in verdict_by tally.denial tally.is_unmentioned
