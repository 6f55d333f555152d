-- What the policies give, and that nothing else differs between them, for the law `given_to_owners`.
use Rattle.std.proofs.Common.{◌≡◌, ◌<◌, ◌+◌, ◌&&◌, ◌==◌, ◌||◌, ◌∙◌, ◌⊎◌, ℕ, min, bit_and, map, List, [], ◌∷◌, Bool, true, false, not, refl, sym, ap, arith, inl, inr}
use Rattle.std.specs.Int.{bit_at}
use Rattle.std.specs.List.{filter, enumerate_from}
use Rattle.std.proofs.lemmas.Bool.{cases_Bool, and_parts, and_from, not-true, both_ways, or_cases, or_from, or_left, or_right, eqb-true, eq-eqb, ne_eqb}
use Rattle.std.proofs.lemmas.Nat.Bits.{bit_at_and, bit_at-lt}
use Rattle.album_access.specs.Bits.{mask_bits, has_bit, has_flag, is_within}
use Rattle.album_access.specs.declared.masks.Mask.{Mask}
use Rattle.album_lists.specs.declared.lists.Ace.{Ace}
use Rattle.album_lists.specs.declared.whos.Who.{Who}
use Rattle.album_lists.specs.declared.whos.Who.TheVariants as who
use Rattle.album_lists.specs.Entries.{is_only_inherited}
use Rattle.album_eval.specs.declared.policies.Policy.{Policy}
use Rattle.album_eval.specs.declared.policies.Policy.TheVariants.{One, Two, Three}
use Rattle.album_eval.specs.declared.verdicts.Verdict.TheVariants.{Granted, DeniedAtEnd}
use Rattle.album_eval.specs.Audit.{is_noting, meets, outcome_flag, is_noted, audited}
use Rattle.album_eval.specs.Matching.{Case, owns, is_for, is_match, is_of_group}
use Rattle.album_eval.specs.Policies.{is_given, has_owners_way, acl_bits, is_owners_way, under}
use Rattle.album_eval.specs.Verdict.{is_asked, first_mention, IsVerdict, verdict}
use Rattle.album_eval.proofs.Asking.{within_mention, two_bits}
use Rattle.album_eval.proofs.Comparing.{verdict-same}
use Rattle.album_eval.proofs.Computing.{one_verdict, verdict_computed}

-- ---- verdicts are the same where the same is asked

module _ (p q : Policy) where
  for_same : (case : Case) (w : Who) → is_for (under p case) w ≡ is_for (under q case) w
  for_same case (who.User name) = refl
  for_same case (who.Group number) = refl
  for_same case who.Owner = refl
  for_same case who.OwnerGroup = refl
  for_same case who.Everyone = refl
  for_same case who.Anonymous = refl
  for_same case who.Authenticated = refl

  match_same : (case : Case) (x : Ace) → is_match (under p case) x ≡ is_match (under q case) x
  unfolding is_match
  match_same case x = ap (λ (b : Bool). not (is_only_inherited x.flags) && b) (for_same case x.who)

  verdict_same : (case : Case) (entries : List Ace) (mask : Mask) → ((bit : ℕ) → is_asked (under p case) mask bit ≡ is_asked (under q case) mask bit) → verdict (under p case) entries mask ≡ verdict (under q case) entries mask
  verdict_same case entries mask same =
      verdict-same (under p case) (under q case) entries mask (λ x c. match_same case x) same

-- ---- what is given

one_gives_nothing : (case : Case) (mask : Mask) (bit : ℕ) → is_asked (under One case) mask bit ≡ has_bit mask bit
unfolding is_asked is_given
one_gives_nothing case mask bit = go (has_bit mask bit) (owns case.principal case.owner)
  where
    go : (a b : Bool) → (a && not (b && false)) ≡ a
    go true true = refl
    go true false = refl
    go false b = refl

pub others_same : (case : Case) (entries : List Ace) (mask : Mask) → owns case.principal case.owner ≡ false → verdict (under Two case) entries mask ≡ verdict (under One case) entries mask
unfolding is_asked is_given
others_same case entries mask other = verdict_same Two One case entries mask (λ bit. rw other refl)

pub other_bits_same : (case : Case) (entries : List Ace) (mask : Mask) → has_bit mask 17 ≡ false → has_bit mask 18 ≡ false → verdict (under Two case) entries mask ≡ verdict (under One case) entries mask
unfolding is_asked is_given
other_bits_same case entries mask read write = verdict_same Two One case entries mask (λ bit. (elim (cases_Bool (has_bit mask bit)) [ inl has ↦ rw (apart bit has) refl | inr has ↦ rw has refl ]))
  where
    apart : (bit : ℕ) → has_bit mask bit ≡ true → (bit == 17 || bit == 18) ≡ false
    apart bit has = or_from (bit == 17) (bit == 18) (other 17 read) (other 18 write)
      where
        other : (n : ℕ) → has_bit mask n ≡ false → (bit == n) ≡ false
        other n clear = ne_eqb bit n (λ same. both_ways (has_bit mask n) clear (ap (has_bit mask) (sym same) ∙ has))

pub owner_granted : (case : Case) (entries : List Ace) (mask : Mask) → owns case.principal case.owner ≡ true → ((bit : ℕ) → has_bit mask bit ≡ true → (bit ≡ 17) ⊎ (bit ≡ 18)) → IsVerdict (under Two case) entries mask Granted
unfolding is_asked is_given
owner_granted case entries mask owner acl = λ bit asked. absurd (go bit (and_parts (has_bit mask bit) (not (owns case.principal case.owner && (bit == 17 || bit == 18))) asked))
  where
    given : (bit : ℕ) → (bit ≡ 17) ⊎ (bit ≡ 18) → (bit == 17 || bit == 18) ≡ true
    given bit (inl is) = or_left (bit == 17) (bit == 18) (eq-eqb bit 17 is)
    given bit (inr is) = or_right (bit == 17) (bit == 18) (eq-eqb bit 18 is)

    go : (bit : ℕ) → (has_bit mask bit ≡ true) × (not (owns case.principal case.owner && (bit == 17 || bit == 18)) ≡ true) → ⊥
    go bit asked = both_ways (owns case.principal case.owner && (bit == 17 || bit == 18)) (not-true _ asked.1) (and_from _ _ owner (given bit (acl bit asked.0)))

pub three_as_two : (case : Case) (entries : List Ace) (mask : Mask) → verdict (under Three case) entries mask ≡ verdict (under Two case) entries mask
unfolding is_asked is_given
three_as_two case entries mask = verdict_same Three Two case entries mask (λ bit. refl)

pub none_granted : (case : Case) (mask : Mask) (bit : ℕ) → has_bit mask bit ≡ true → IsVerdict (under One case) [] mask DeniedAtEnd
unfolding first_mention
none_granted case mask bit has = (λ k d. (let l = within_mention (under One case) d.bit [] k d.first in absurd (omega (arith, l))), bit, one_gives_nothing case mask bit ∙ has, refl)

-- ---- the owner's way

-- a mask within READ_ACL and WRITE_ACL has no other bit
acl_alone : (mask : Mask) → is_within (mask_bits mask) acl_bits ≡ true → (bit : ℕ) → has_bit mask bit ≡ true → (bit ≡ 17) ⊎ (bit ≡ 18)
acl_alone mask within bit has =
    elim (or_cases (bit == 17) (bit == 18) (sym (two_bits (record { 0 = acl_bits }) refl bit) ∙ eq-eqb (bit_at acl_bits bit) 1 one)) [
      | inl is ↦ inl (eqb-true bit 17 is)
      | inr is ↦ inr (eqb-true bit 18 is)
    ]
  where
    least : bit_at (mask_bits mask) bit ≡ min (bit_at (mask_bits mask) bit) (bit_at acl_bits bit)
    least =
        sym (ap (λ (n : ℕ). bit_at n bit) (eqb-true (bit_and (mask_bits mask) acl_bits) (mask_bits mask) within))
        ∙ bit_at_and (mask_bits mask) acl_bits bit

    higher : (a b : ℕ) → b < 2 → a ≡ 1 → a ≡ min a b → b ≡ 1
    higher a b small is l = grind (arith)

    one : bit_at acl_bits bit ≡ 1
    one = higher (bit_at (mask_bits mask) bit) (bit_at acl_bits bit) (bit_at-lt acl_bits bit) (eqb-true (bit_at (mask_bits mask) bit) 1 has) least

-- what is asked by the owner's way is granted, whatever the list is, and the groups
pub way_granted : (case : Case) (entries : List Ace) (mask : Mask) → is_owners_way case mask ≡ true → verdict case entries mask ≡ Granted
way_granted case entries mask way = by case.policy refl
  where
    parts : (has_owners_way case.policy ≡ true) × (owns case.principal case.owner ≡ true) × (is_within (mask_bits mask) acl_bits ≡ true)
    parts =
        let all = and_parts (has_owners_way case.policy && owns case.principal case.owner) (is_within (mask_bits mask) acl_bits) way in
        let both = and_parts (has_owners_way case.policy) (owns case.principal case.owner) all.0 in (both.0, both.1, all.1)

    by : (policy : Policy) → case.policy ≡ policy → verdict case entries mask ≡ Granted
    by One e = absurd (both_ways (has_owners_way case.policy) (ap has_owners_way e) parts.0)
    by Two e = absurd (both_ways (has_owners_way case.policy) (ap has_owners_way e) parts.0)
    by Three e =
        ap (λ (p : Policy). verdict (under p case) entries mask) e
        ∙ three_as_two case entries mask
        ∙ one_verdict (under Two case) entries mask (verdict (under Two case) entries mask) Granted
        (verdict_computed (under Two case) entries mask)
        (owner_granted case entries mask parts.1 (acl_alone mask parts.2))

-- and what takes note of it is the same, whatever groups there are
module _ (case : Case) (is_in : ℕ → Bool) (mask : Mask) (success : Bool) (way : is_owners_way case mask ≡ true) where
  abbrev otherwise : Case
  otherwise = record case { is_in = is_in }

  none : (a b : Bool) → (a && false) ≡ (b && false)
  none true true = refl
  none true false = refl
  none false true = refl
  none false false = refl

  noted-way : (x : Ace) → is_noted otherwise mask success x ≡ is_noted case mask success x
  unfolding is_noted is_match
  noted-way x =
      ap (λ (b : Bool). b && is_noting x.sort && meets x.mask mask && has_flag (outcome_flag success) x.flags) (go x.who)
    where
      apart : Bool → Bool → Bool
      apart match group = match && not (is_owners_way case mask && group)

      of-group : (a b : Bool) → apart a true ≡ apart b true
      of-group a b = rw way (none a b)

      go : (w : Who)
          → apart (not (is_only_inherited x.flags) && is_for otherwise w) (is_of_group w)
          ≡ apart (not (is_only_inherited x.flags) && is_for case w) (is_of_group w)
      go (who.User name) = refl
      go (who.Group number) = of-group (not (is_only_inherited x.flags) && is_in number) (not (is_only_inherited x.flags) && case.is_in number)
      go who.Owner = refl
      go who.OwnerGroup = of-group (not (is_only_inherited x.flags) && is_in case.head_group) (not (is_only_inherited x.flags) && case.is_in case.head_group)
      go who.Everyone = refl
      go who.Anonymous = refl
      go who.Authenticated = refl

  kept-way : (n : ℕ) (xs : List Ace)
      → filter (λ (p : ℕ × Ace). is_noted otherwise mask success p.1) (enumerate_from n xs)
      ≡ filter (λ (p : ℕ × Ace). is_noted case mask success p.1) (enumerate_from n xs)
  kept-way n [] = refl
  kept-way n (x ∷ xs) = rw (noted-way x, kept-way (n + 1) xs) refl

  pub audited-way : (entries : List Ace) → audited otherwise mask success entries ≡ audited case mask success entries
  unfolding audited
  audited-way entries = ap (λ (ps : List (ℕ × Ace)). map (λ p. p.0) ps) (kept-way 0 entries)
