-- The verdicts of two cases are the same where the same entries take part and the same is asked (`verdict-same`), for
-- `Giving` and `Acting`.
use Rattle.std.proofs.Common.{◌≡◌, ◌&&◌, ℕ, zero, suc, List, [], ◌∷◌, Bool, Contains, refl, ap, arith}
use Rattle.std.specs.List.{position_or_len}
use Rattle.std.proofs.lemmas.List.Elements.{Contains-append_right}
use Rattle.album_access.specs.Bits.{mask_bits, has_bit}
use Rattle.album_access.specs.declared.masks.Mask.{Mask}
use Rattle.album_lists.specs.declared.lists.Ace.{Ace}
use Rattle.album_eval.specs.Matching.{Case, is_match}
use Rattle.album_eval.specs.Verdict.{is_asked, first_mention, mentions, allows_or_denies, Tally, tally_below, verdict_by, verdict}

module _ (one two : Case) where
  -- the same entries of a list take part
  abbrev pub IsMatchedAlike : List Ace → Type 0
  IsMatchedAlike entries = (x : Ace) → Contains entries x → is_match one x ≡ is_match two x

  -- the same bits are asked
  abbrev pub IsAskedAlike : Mask → Type 0
  IsAskedAlike mask = (bit : ℕ) → is_asked one mask bit ≡ is_asked two mask bit

  mentions-same : (bit : ℕ) (x : Ace) → is_match one x ≡ is_match two x → mentions one bit x ≡ mentions two bit x
  unfolding mentions
  mentions-same bit x e = ap (λ (b : Bool). b && allows_or_denies x.sort && has_bit x.mask bit) e

  index-same :
      (bit : ℕ) (xs : List Ace) → IsMatchedAlike xs
      → position_or_len (mentions one bit) xs ≡ position_or_len (mentions two bit) xs
  index-same bit [] alike = refl
  index-same bit (x ∷ xs) alike =
      rw (
        mentions-same bit x (alike x (0, omega arith, refl)),
        index-same bit xs (λ y c. alike y (Contains-append_right (x ∷ []) xs y c)),
      ) refl

  first-same : (bit : ℕ) (xs : List Ace) → IsMatchedAlike xs → first_mention one bit xs ≡ first_mention two bit xs
  unfolding first_mention
  first-same bit xs alike = rw (index-same bit xs alike) refl

  tally-same :
      (entries : List Ace) (mask : Mask) → IsMatchedAlike entries → IsAskedAlike mask
      → (n : ℕ) → tally_below one entries mask n ≡ tally_below two entries mask n
  tally-same entries mask alike asked zero = refl
  tally-same entries mask alike asked (suc n) =
      rw (asked n, first-same n entries alike, tally-same entries mask alike asked n) refl

  pub verdict-same :
      (entries : List Ace) (mask : Mask) → IsMatchedAlike entries → IsAskedAlike mask
      → verdict one entries mask ≡ verdict two entries mask
  unfolding verdict
  verdict-same entries mask alike asked =
      ap (λ (tally : Tally). verdict_by tally.denial tally.is_unmentioned)
      (tally-same entries mask alike asked (mask_bits mask))
