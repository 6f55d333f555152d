-- What is inherited of what was inherited, entry by entry, for the law of `inheriting`.
use Rattle.std.proofs.Common.{◌≡◌, ◌-◌, ◌^◌, ◌==◌, ℕ, List, [], ◌∷◌, Bool, true, false, not, Option, Some, None, cond, filter, refl, ap, ◌∙◌, arith}
use Rattle.std.specs.List.{cons_option}
use Rattle.std.specs.Option.{option_map}
use Rattle.std.specs.Int.RustNames.{bit_and, bit_or}
use Rattle.std.specs.Int.Bits.{and_zero_r, or_add_and}
use Rattle.std.proofs.lemmas.Nat.{and_assoc, and_or_apart, and_or_self}
use Rattle.album_access.specs.Bits.{flag_bits, has_flag}
use Rattle.album_access.specs.declared.flags.AceFlags.{AceFlags}
use Rattle.album_lists.specs.Inheritance.{inherited, inherited_flags, cleared, joined}
use Rattle.album_lists.specs.declared.lists.Ace.{Ace}
use Rattle.album_lists.specs.declared.lists.Holder.{Holder}
use Rattle.album_lists.specs.declared.lists.Holder.TheVariants.{Plain, Folder}

-- ---- the flags of what is inherited

-- a flag that is not among the cleared ones, and one that is
kept-flag : (bits flag : ℕ) (flags : AceFlags) → bit_and (2 ^ 32 - 1 - bits) flag ≡ flag → has_flag flag (cleared bits flags) ≡ has_flag flag flags
kept-flag bits flag flags apart =
    ap (λ (n : ℕ). n == flag)
    (and_assoc flag (flag_bits flags) (2 ^ 32 - 1 - bits) ∙ ap (λ (n : ℕ). bit_and (flag_bits flags) n) apart)

lost-flag : (bits flag : ℕ) (flags : AceFlags) → bit_and (2 ^ 32 - 1 - bits) flag ≡ 0 → (0 == flag) ≡ false → has_flag flag (cleared bits flags) ≡ false
lost-flag bits flag flags among some =
    ap (λ (n : ℕ). n == flag)
    (and_assoc flag (flag_bits flags) (2 ^ 32 - 1 - bits)
    ∙ ap (λ (n : ℕ). bit_and (flag_bits flags) n) among
    ∙ and_zero_r (flag_bits flags))
    ∙ some

joined-flag : (flag : ℕ) (flags : AceFlags) → bit_and 8 flag ≡ 0 → has_flag flag (joined 8 flags) ≡ has_flag flag flags
joined-flag flag flags apart = ap (λ (n : ℕ). n == flag) (and_or_apart flag (flag_bits flags) 8 apart)

-- what is cleared or joined twice
cleared-twice : (bits : ℕ) (flags : AceFlags) → bit_and (2 ^ 32 - 1 - 8) (2 ^ 32 - 1 - bits) ≡ 2 ^ 32 - 1 - bits → cleared bits (cleared 8 flags) ≡ cleared bits flags
cleared-twice bits flags more =
    ap (λ (n : ℕ). record { 0 = n })
    (and_assoc (2 ^ 32 - 1 - bits) (flag_bits flags) (2 ^ 32 - 1 - 8)
    ∙ ap (λ (n : ℕ). bit_and (flag_bits flags) n) more)

cleared-joined : (flags : AceFlags) → cleared 15 (joined 8 flags) ≡ cleared 15 flags
cleared-joined flags = ap (λ (n : ℕ). record { 0 = n }) (and_or_apart (2 ^ 32 - 1 - 15) (flag_bits flags) 8 refl)

joined-twice : (flags : AceFlags) → joined 8 (joined 8 flags) ≡ joined 8 flags
joined-twice flags =
    let n = bit_or (flag_bits flags) 8 in
    let same : bit_or n 8 ≡ n = omega (arith, or_add_and n 8, and_or_self 8 (flag_bits flags)) in
    ap (λ (m : ℕ). record { 0 = m }) same

-- ---- an entry

-- what is inherited of what an album inherits
abbrev again : Holder → Option AceFlags → Option AceFlags
again heir None = None
again heir (Some flags) = inherited_flags heir flags

abbrev unless-one-level : Holder → AceFlags → Option AceFlags
unless-one-level heir flags = cond (not (has_flag 4 flags)) (inherited_flags heir flags) None

flags-again : (heir : Holder) (flags : AceFlags) → again heir (inherited_flags Folder flags) ≡ unless-one-level heir flags
unfolding inherited_flags
flags-again Plain flags = go (has_flag 1 flags) refl (has_flag 2 flags) refl (has_flag 4 flags) refl
  where
    go : (f : Bool) → has_flag 1 flags ≡ f → (d : Bool) → has_flag 2 flags ≡ d → (o : Bool) → has_flag 4 flags ≡ o → again Plain (inherited_flags Folder flags) ≡ unless-one-level Plain flags
    go f ef true ed true eo = rw (ed, eo, lost-flag 15 1 flags refl refl) refl
    go true ef true ed false eo = rw (ef, ed, eo, kept-flag 8 1 flags refl, ef, cleared-twice 15 flags refl) refl
    go false ef true ed false eo = rw (ef, ed, eo, kept-flag 8 1 flags refl, ef) refl
    go true ef false ed true eo = rw (ef, ed, eo) refl
    go true ef false ed false eo = rw (ef, ed, eo, joined-flag 1 flags refl, ef, cleared-joined flags) refl
    go false ef false ed true eo = rw (ef, ed, eo) refl
    go false ef false ed false eo = rw (ef, ed, eo) refl
flags-again Folder flags = go (has_flag 1 flags) refl (has_flag 2 flags) refl (has_flag 4 flags) refl
  where
    go : (f : Bool) → has_flag 1 flags ≡ f → (d : Bool) → has_flag 2 flags ≡ d → (o : Bool) → has_flag 4 flags ≡ o → again Folder (inherited_flags Folder flags) ≡ unless-one-level Folder flags
    go f ef true ed true eo = rw (ed, eo, lost-flag 15 2 flags refl refl, lost-flag 15 1 flags refl refl) refl
    go f ef true ed false eo = rw (ed, eo, kept-flag 8 2 flags refl, ed, kept-flag 8 4 flags refl, eo, cleared-twice 8 flags refl) refl
    go true ef false ed true eo = rw (ef, ed, eo) refl
    go true ef false ed false eo = rw (ef, ed, eo, joined-flag 2 flags refl, ed, joined-flag 1 flags refl, ef, joined-flag 4 flags refl, eo, joined-twice flags) refl
    go false ef false ed true eo = rw (ef, ed, eo) refl
    go false ef false ed false eo = rw (ef, ed, eo) refl

-- ---- the entries of a list

abbrev flagged : Ace → AceFlags → Ace
flagged entry flags = record entry { flags = flags }

pub goes-down :
    (heir : Holder) (entries : List Ace)
    → inherited heir (inherited Folder entries)
    ≡ inherited heir (filter (λ (entry : Ace). not (has_flag 4 entry.flags)) entries)
goes-down heir [] = refl
goes-down heir (entry ∷ entries) =
    go (inherited_flags Folder entry.flags) (has_flag 4 entry.flags) (flags-again heir entry.flags)
    (inherited Folder entries) (filter (λ (e : Ace). not (has_flag 4 e.flags)) entries) (goes-down heir entries)
  where
    go :
        (o : Option AceFlags) (one : Bool)
        → again heir o ≡ cond (not one) (inherited_flags heir entry.flags) None
        → (below others : List Ace) → inherited heir below ≡ inherited heir others
        → inherited heir (cons_option (option_map (flagged entry) o) below)
        ≡ inherited heir (cond (not one) (entry ∷ others) others)
    go None true same below others more = more
    go None false same below others more =
        more ∙ ap (λ (p : Option AceFlags). cons_option (option_map (flagged entry) p) (inherited heir others)) same
    go (Some flags) true same below others more =
        ap (λ (p : Option AceFlags). cons_option (option_map (flagged entry) p) (inherited heir below)) same ∙ more
    go (Some flags) false same below others more =
        ap (λ (p : Option AceFlags). cons_option (option_map (flagged entry) p) (inherited heir below)) same
        ∙ ap (λ (es : List Ace). cons_option (option_map (flagged entry) (inherited_flags heir entry.flags)) es) more
