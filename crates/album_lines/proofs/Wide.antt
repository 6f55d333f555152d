-- No number of more than 32 bits is a mask, or flags. For `mask` and `flags`.
use Rattle.std.proofs.Common.{◌≡◌, ◌≤◌, ◌<◌, ◌^◌, ◌==◌, ◌&&◌, ℕ, Bool, true, false, not, cond, bit_and, Result, Err, refl, arith}
use Rattle.std.proofs.lemmas.Bool.Decides.{Decides-eqb}
use Rattle.std.proofs.lemmas.Nat.{and_le_r}
use Rattle.album_stamps.specs.declared.refusals.Refusal.{Refusal}
use Rattle.album_stamps.specs.declared.refusals.Refusal.TheVariants.{BadMask, BadFlags}
use Rattle.album_access.specs.declared.masks.Mask.{Mask}
use Rattle.album_access.specs.Bits.{all_mask_bits, all_flag_bits, is_within, mask_of, flags_of}

wide : (n all : ℕ) → all < n → is_within n all ≡ false
wide n all above = go (is_within n all) refl
  where
    go : (b : Bool) → is_within n all ≡ b → b ≡ false
    go false e = refl
    go true e =
        let same =
        (Decides-eqb (bit_and n all) n).0 e in let small = and_le_r n all in absurd (omega (arith, same, small, above))

pub wide_mask : (n : ℕ) → 2 ^ 32 ≤ n → mask_of n ≡ Err BadMask
wide_mask n above = rw (wide n all_mask_bits (omega (arith, above))) (go (not (n == 0)) _)
  where
    go : (a : Bool) (taken : Result Mask Refusal) → cond (a && false) taken (Err BadMask) ≡ Err BadMask
    go true taken = refl
    go false taken = refl

pub wide_flags : (n : ℕ) → 2 ^ 32 ≤ n → flags_of n ≡ Err BadFlags
wide_flags n above = rw (wide n all_flag_bits (omega (arith, above))) refl
