-- The verdict of a list, and which entries take note, look at no groups but those that the entries name, and the head
-- group (`verdict-alike`, `audited-alike`), for `Looking`.
use Rattle.std.proofs.Common.{◌≡◌, ◌&&◌, ◌+◌, ℕ, zero, suc, List, [], ◌∷◌, Bool, not, Contains, map, refl, ap, arith}
use Rattle.std.specs.List.{flat_map, position_or_len, filter, enumerate_from}
use Rattle.std.proofs.lemmas.List.Elements.{Contains-append_left, Contains-append_right}
use Rattle.album_access.specs.Bits.{mask_bits, has_bit, has_flag}
use Rattle.album_access.specs.declared.masks.Mask.{Mask}
use Rattle.album_lists.specs.Entries.{is_only_inherited}
use Rattle.album_lists.specs.declared.lists.Ace.{Ace}
use Rattle.album_lists.specs.declared.whos.Who.{Who}
use Rattle.album_lists.specs.declared.whos.Who.TheVariants as who
use Rattle.album_eval.specs.Audit.{is_noting, meets, outcome_flag, is_noted, audited}
use Rattle.album_eval.specs.Matching.{Case, is_for, is_match, is_of_group}
use Rattle.album_eval.specs.Policies.{is_given, is_owners_way}
use Rattle.album_eval.specs.Verdict.{is_asked, allows_or_denies, mentions, first_mention, Tally, tally_below, verdict_by, verdict}
use Rattle.album_eval.specs.declared.facts.Principal.{Principal}
use Rattle.album_eval.specs.declared.policies.Policy.{Policy}
use Rattle.album_items.specs.ItemIds.{group}
use Rattle.album_items.specs.Values.{group_of_who}

pub first-of : (x : ℕ) (xs : List ℕ) → Contains (x ∷ xs) x
first-of x xs = (0, omega arith, refl)

-- what an entry names
abbrev pub groups_by : List Ace → List ℕ
groups_by entries = flat_map (λ entry. group_of_who entry.who) entries

module _ (policy : Policy) (principal : Principal) (owner : List ℕ) (head_group : ℕ) (one other : ℕ → Bool) where
  abbrev case : (ℕ → Bool) → Case
  case is_in =
      record {
        policy = policy;
        principal = principal;
        owner = owner;
        head_group = head_group;
        is_in = is_in;
      }

  for-alike :
      (w : Who) → one head_group ≡ other head_group
      → ((number : ℕ) → Contains (group_of_who w) (group number) → one number ≡ other number)
      → is_for (case one) w ≡ is_for (case other) w
  for-alike (who.User name) head same = refl
  for-alike (who.Group number) head same = same number (first-of (group number) [])
  for-alike who.Owner head same = refl
  for-alike who.OwnerGroup head same = head
  for-alike who.Everyone head same = refl
  for-alike who.Anonymous head same = refl
  for-alike who.Authenticated head same = refl

  match-alike :
      (x : Ace) (xs : List Ace) → one head_group ≡ other head_group
      → ((number : ℕ) → Contains (groups_by (x ∷ xs)) (group number) → one number ≡ other number)
      → is_match (case one) x ≡ is_match (case other) x
  unfolding is_match
  match-alike x xs head same =
      ap (λ (b : Bool). not (is_only_inherited x.flags) && b)
      (for-alike x.who head (λ number c.
      same number (Contains-append_left (group_of_who x.who) (groups_by xs) (group number) c)))

  rest-alike :
      (x : Ace) (xs : List Ace)
      → ((number : ℕ) → Contains (groups_by (x ∷ xs)) (group number) → one number ≡ other number)
      → (number : ℕ) → Contains (groups_by xs) (group number) → one number ≡ other number
  rest-alike x xs same number c =
      same number (Contains-append_right (group_of_who x.who) (groups_by xs) (group number) c)

  mentions-alike :
      (bit : ℕ) (x : Ace) → is_match (case one) x ≡ is_match (case other) x
      → mentions (case one) bit x ≡ mentions (case other) bit x
  unfolding mentions
  mentions-alike bit x e = ap (λ (b : Bool). b && allows_or_denies x.sort && has_bit x.mask bit) e

  index-alike :
      (bit : ℕ) (xs : List Ace) → one head_group ≡ other head_group
      → ((number : ℕ) → Contains (groups_by xs) (group number) → one number ≡ other number)
      → position_or_len (mentions (case one) bit) xs ≡ position_or_len (mentions (case other) bit) xs
  index-alike bit [] head same = refl
  index-alike bit (x ∷ xs) head same =
      rw (mentions-alike bit x (match-alike x xs head same), index-alike bit xs head (rest-alike x xs same)) refl

  first-alike :
      (bit : ℕ) (xs : List Ace) → one head_group ≡ other head_group
      → ((number : ℕ) → Contains (groups_by xs) (group number) → one number ≡ other number)
      → first_mention (case one) bit xs ≡ first_mention (case other) bit xs
  unfolding first_mention
  first-alike bit xs head same = rw (index-alike bit xs head same) refl

  asked-alike : (mask : Mask) (bit : ℕ) → is_asked (case one) mask bit ≡ is_asked (case other) mask bit
  unfolding is_asked is_given
  asked-alike mask bit = refl

  tally-alike :
      (xs : List Ace) (mask : Mask) (n : ℕ) → one head_group ≡ other head_group
      → ((number : ℕ) → Contains (groups_by xs) (group number) → one number ≡ other number)
      → tally_below (case one) xs mask n ≡ tally_below (case other) xs mask n
  tally-alike xs mask zero head same = refl
  tally-alike xs mask (suc n) head same =
      rw (asked-alike mask n, first-alike n xs head same, tally-alike xs mask n head same) refl

  pub verdict-alike :
      (xs : List Ace) (mask : Mask) → one head_group ≡ other head_group
      → ((number : ℕ) → Contains (groups_by xs) (group number) → one number ≡ other number)
      → verdict (case one) xs mask ≡ verdict (case other) xs mask
  unfolding verdict
  verdict-alike xs mask head same =
      ap (λ (tally : Tally). verdict_by tally.denial tally.is_unmentioned) (tally-alike xs mask (mask_bits mask) head same)

  noted-alike :
      (mask : Mask) (success : Bool) (x : Ace) → is_match (case one) x ≡ is_match (case other) x
      → is_noted (case one) mask success x ≡ is_noted (case other) mask success x
  unfolding is_noted
  noted-alike mask success x e =
      ap (λ (b : Bool). b
      && not (is_owners_way (case one) mask && is_of_group x.who)
      && is_noting x.sort
      && meets x.mask mask
      && has_flag (outcome_flag success) x.flags) e

  kept-alike :
      (mask : Mask) (success : Bool) (n : ℕ) (xs : List Ace) → one head_group ≡ other head_group
      → ((number : ℕ) → Contains (groups_by xs) (group number) → one number ≡ other number)
      → filter (λ (p : ℕ × Ace). is_noted (case one) mask success p.1) (enumerate_from n xs)
      ≡ filter (λ (p : ℕ × Ace). is_noted (case other) mask success p.1) (enumerate_from n xs)
  kept-alike mask success n [] head same = refl
  kept-alike mask success n (x ∷ xs) head same =
      rw (
        noted-alike mask success x (match-alike x xs head same),
        kept-alike mask success (n + 1) xs head (rest-alike x xs same),
      ) refl

  pub audited-alike :
      (mask : Mask) (success : Bool) (xs : List Ace) → one head_group ≡ other head_group
      → ((number : ℕ) → Contains (groups_by xs) (group number) → one number ≡ other number)
      → audited (case one) mask success xs ≡ audited (case other) mask success xs
  unfolding audited
  audited-alike mask success xs head same = ap (λ (ps : List (ℕ × Ace)). map (λ p. p.0) ps) (kept-alike mask success 0 xs head same)
