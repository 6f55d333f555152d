-- Who acts as root, and that root is judged as an owner, for the laws `root_by_name` and `root_as_owner`.
use Rattle.std.proofs.Common.{◌≡◌, ◌≢◌, ◌↔◌, ◌&&◌, ◌∙◌, ◌⊎◌, ◌+◌, ℕ, List, [], ◌∷◌, map, Bool, true, false, not, Option, Some, None, Contains, bytes_eq, if◌then◌else◌, refl, sym, ap, arith}
use Rattle.std.specs.List.{filter, enumerate_from}
use Rattle.std.proofs.lemmas.Bool.{false_from_ne_true, both_ways}
use Rattle.std.proofs.lemmas.List.Elements.{Contains-append_right}
use Rattle.std.proofs.lemmas.Slice.Eq.{bytes_eq-Decides}
use Rattle.album_access.specs.Bits.{has_bit}
use Rattle.album_access.specs.declared.masks.Mask.{Mask}
use Rattle.album_lists.specs.declared.lists.Ace.{Ace}
use Rattle.album_lists.specs.declared.whos.Who.{Who}
use Rattle.album_lists.specs.declared.whos.Who.TheVariants as who
use Rattle.album_lists.specs.Entries.{is_only_inherited}
use Rattle.album_eval.specs.declared.facts.Principal.{Principal}
use Rattle.album_eval.specs.declared.facts.Principal.TheVariants.{Anonymous, User, Root}
use Rattle.album_eval.specs.declared.policies.Policy.TheVariants.{Two, Three}
use Rattle.album_eval.specs.declared.verdicts.Verdict.TheVariants.{Granted}
use Rattle.album_eval.specs.Audit.{is_noted, audited}
use Rattle.album_eval.specs.Matching.{Case, is_user, is_for, is_match, is_named, acting, asked_by, IsUnnamed}
use Rattle.album_eval.specs.Policies.{is_given, under}
use Rattle.album_eval.specs.Verdict.{is_asked, verdict}
use Rattle.album_eval.proofs.Comparing.{verdict-same}
use Rattle.album_eval.proofs.Computing.{one_verdict, verdict_computed}
use Rattle.album_eval.proofs.Giving.{owner_granted, three_as_two}

-- ---- who acts as root

same-name : (name : List ℕ) → bytes_eq name name ≡ true
same-name name = (bytes_eq-Decides name name).1 refl

other-name : (a b : List ℕ) → (a ≡ b → ⊥) → bytes_eq a b ≡ false
other-name a b other = false_from_ne_true (bytes_eq a b) (λ e. other ((bytes_eq-Decides a b).0 e))

-- who is named is this one
named-is : (root : Option (List ℕ)) (name : List ℕ) → is_named root name ≡ true → root ≡ Some name
named-is None name e = absurd (cc)
named-is (Some r) name e = ap (λ (n : List ℕ). Some n) ((bytes_eq-Decides r name).0 e)

is-named : (root : Option (List ℕ)) (name : List ℕ) → root ≡ Some name → is_named root name ≡ true
is-named root name e = rw e (same-name name)

acts-root : (name : List ℕ) (b : Bool) → (if b then Root name else User name) ≡ Root name → b ≡ true
acts-root name true e = refl
acts-root name false e = absurd (cc)

acts-user : (name : List ℕ) (b : Bool) → (if b then Root name else User name) ≡ User name → b ≡ false
acts-user name true e = absurd (cc)
acts-user name false e = refl

pub root-acts : (root : Option (List ℕ)) (name : List ℕ) → (acting root (User name) ≡ Root name) ↔ (root ≡ Some name)
root-acts root name = (
  λ e. named-is root name (acts-root name (is_named root name) e),
  λ e. rw (is-named root name e) refl,
)

pub others-act : (root : Option (List ℕ)) (name : List ℕ) → (acting root (User name) ≡ User name) ↔ (root ≢ Some name)
others-act root name = (
  λ e is. both_ways (is_named root name) (acts-user name (is_named root name) e) (is-named root name is),
  λ other. rw (false_from_ne_true (is_named root name) (λ e. other (named-is root name e))) refl,
)

pub same-user : (root : Option (List ℕ)) (p : Principal) (name : List ℕ) → is_user (acting root p) name ≡ is_user p name
same-user root Anonymous name = refl
same-user root (User user) name = go (is_named root user)
  where
    go : (b : Bool) → is_user (if b then Root user else User user) name ≡ bytes_eq user name
    go true = refl
    go false = refl
same-user root (Root user) name = refl

pub nobody-acts : (p : Principal) → acting None p ≡ p
nobody-acts Anonymous = refl
nobody-acts (User name) = refl
nobody-acts (Root name) = refl

-- ---- root is judged as an owner

module _ (case : Case) (user : List ℕ) where
  abbrev as-root : Case
  as-root = asked_by (Root user) case

  abbrev as-owner : Case
  as-owner = asked_by (User case.owner) case

  for-root : (w : Who) → w ≢ who.User user → w ≢ who.User case.owner → is_for as-root w ≡ is_for as-owner w
  for-root (who.User name) a b =
      other-name user name (λ e. a (ap (λ (n : List ℕ). who.User n) (sym e)))
      ∙ sym (other-name case.owner name (λ e. b (ap (λ (n : List ℕ). who.User n) (sym e))))
  for-root (who.Group number) a b = refl
  for-root who.Owner a b = sym (same-name case.owner)
  for-root who.OwnerGroup a b = refl
  for-root who.Everyone a b = refl
  for-root who.Anonymous a b = refl
  for-root who.Authenticated a b = refl

  match-root : (x : Ace) → x.who ≢ who.User user → x.who ≢ who.User case.owner → is_match as-root x ≡ is_match as-owner x
  unfolding is_match
  match-root x a b = ap (λ (b : Bool). not (is_only_inherited x.flags) && b) (for-root x.who a b)

  asked-root : (mask : Mask) (bit : ℕ) → is_asked as-root mask bit ≡ is_asked as-owner mask bit
  unfolding is_asked is_given
  asked-root mask bit = rw (same-name case.owner) refl

  pub root-judged :
      (entries : List Ace) (mask : Mask) → IsUnnamed user entries → IsUnnamed case.owner entries
      → verdict as-root entries mask ≡ verdict as-owner entries mask
  root-judged entries mask a b =
      verdict-same as-root as-owner entries mask (λ x c. match-root x (a x c) (b x c)) (asked-root mask)

  noted-root :
      (mask : Mask) (success : Bool) (x : Ace) → x.who ≢ who.User user → x.who ≢ who.User case.owner
      → is_noted as-root mask success x ≡ is_noted as-owner mask success x
  unfolding is_noted
  noted-root mask success x a b = rw (match-root x a b, same-name case.owner) refl

  kept-root :
      (mask : Mask) (success : Bool) (n : ℕ) (xs : List Ace) → IsUnnamed user xs → IsUnnamed case.owner xs
      → filter (λ (p : ℕ × Ace). is_noted as-root mask success p.1) (enumerate_from n xs)
      ≡ filter (λ (p : ℕ × Ace). is_noted as-owner mask success p.1) (enumerate_from n xs)
  kept-root mask success n [] a b = refl
  kept-root mask success n (x ∷ xs) a b =
      let first : Contains (x ∷ xs) x = (0, omega arith, refl) in
      rw (
        noted-root mask success x (a x first) (b x first),
        kept-root mask success (n + 1) xs
            (λ y c. a y (Contains-append_right (x ∷ []) xs y c))
            (λ y c. b y (Contains-append_right (x ∷ []) xs y c)),
      ) refl

  pub root-noted :
      (entries : List Ace) (mask : Mask) (success : Bool) → IsUnnamed user entries → IsUnnamed case.owner entries
      → audited as-root mask success entries ≡ audited as-owner mask success entries
  unfolding audited
  root-noted entries mask success a b =
      ap (λ (ps : List (ℕ × Ace)). map (λ p. p.0) ps) (kept-root mask success 0 entries a b)

  pub root-given :
      (entries : List Ace) (mask : Mask) → ((bit : ℕ) → has_bit mask bit ≡ true → (bit ≡ 17) ⊎ (bit ≡ 18))
      → verdict (under Three as-root) entries mask ≡ Granted
  root-given entries mask acl =
      three_as_two as-root entries mask
      ∙ one_verdict (under Two as-root) entries mask (verdict (under Two as-root) entries mask) Granted
      (verdict_computed (under Two as-root) entries mask)
      (owner_granted as-root entries mask refl acl)
