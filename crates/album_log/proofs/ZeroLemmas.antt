-- One more write of zeros behind zeros (`zeros_more`), and what it may leave (`follows_more`), for `write_zeros`.
use Rattle.std.proofs.Common.{◌≡◌, ℕ, ◌+◌, ◌-◌, ◌≤◌, List, length, take, slice_index, sym, ◌∙◌, ap, inl, inr, arith, subst}
use Rattle.std.proofs.lemmas.List.{length-take-le, get_or-take}
use Rattle.std.proofs.lemmas.Bool.{cases_lt}
use Rattle.std.specs.List.{EachIndex}
use Rattle.sqlite_disk.specs.Disk.{Holds, Torn, Follows}
use Rattle.album_log.specs.Logs.{HasZeros}
use Rattle.album_log.proofs.TextLemmas.{torn_more}

pub zeros_more :
    (from at n : ℕ) (zeros old new : List ℕ)
    → EachIndex zeros (λ k. slice_index zeros k ≡ 0)
    → n ≤ length zeros
    → Holds new at (take n zeros)
    → Torn at (length (take n zeros)) old new
    → HasZeros from at old
    → HasZeros from (at + n) new
zeros_more from at n zeros old new zero few holds torn before =
    let long : length (take n zeros) ≡ n = length-take-le n zeros few in
    record {
      within = omega (arith, holds.within);
      zero = λ k low high. elim (cases_lt k at) [
        | inl early ↦ torn.below k (omega (arith, before.within)) early ∙ before.zero k low early
        | inr late ↦
            let i = k - at in
            let here : at + i ≡ k = omega arith in
            ap (slice_index new) (sym here) ∙ holds.each i (omega arith) ∙ get_or-take n zeros i 0 (omega arith) ∙ zero i (omega arith)
      ];
    }

pub follows_more :
    (from at n : ℕ) (first before after : List ℕ → Type 0)
    → from ≤ at
    → Follows (Torn from (at - from)) first before
    → Follows (Torn at n) before after
    → Follows (Torn from (at + n - from)) first after
follows_more from at n first before after le x y c left =
    let (b, b_left, b_torn) = y c left in
    let (a, a_left, a_torn) = x b b_left in
    let here : from + (at - from) ≡ at = omega arith in
    let more : (at - from) + n ≡ at + n - from = omega arith in
    (a, a_left, subst (λ (m : ℕ). Torn from m a c) more (torn_more from (at - from) n a b c a_torn (subst (λ (m : ℕ). Torn m n b c) (sym here) b_torn)))

pub torn_next :
    (from at n : ℕ) (a b c : List ℕ)
    → from ≤ at
    → Torn from (at - from) a b
    → Torn at n b c
    → Torn from (at + n - from) a c
torn_next from at n a b c le x y =
    let here : from + (at - from) ≡ at = omega arith in
    let more : (at - from) + n ≡ at + n - from = omega arith in
    subst (λ (m : ℕ). Torn from m a c) more (torn_more from (at - from) n a b c x (subst (λ (m : ℕ). Torn m n b c) (sym here) y))
