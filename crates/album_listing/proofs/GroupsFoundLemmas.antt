-- The groups that are found are those that the principal is in, for the law `a_ruling_has_a_basis` (`basis-based`):
-- after
-- as many turns as there are answers, and one, nothing grows any more (`groups-fixed`).
use Rattle.std.proofs.Common.{◌≡◌, ◌≤◌, ◌<◌, ℕ, zero, suc, ◌+◌, Bool, true, false, ◌==◌, cond, List, [], ◌∷◌, length, filter, map, Option, Some, None, is_some, Contains, ◌⊎◌, inl, inr, refl, sym, ap, subst, ◌∙◌, arith}
use Rattle.std.specs.Fn.{iterate}
use Rattle.std.specs.List.{list_any}
use Rattle.std.specs.Option.{option_map_or}
use Rattle.std.proofs.lemmas.Bool.{or_left, or_right, eqb-true, eq-eqb}
use Rattle.std.proofs.lemmas.List.{length-map}
use Rattle.std.proofs.lemmas.List.Elements.{Contains-append_right, Contains-append_cases, Contains-push_cases}
use Rattle.std.proofs.lemmas.Slice.Eq.{bytes_eq-Decides}
use Rattle.album_lists.specs.declared.whos.Member.{Member}
use Rattle.album_lists.specs.declared.whos.Member.TheVariants as member
use Rattle.album_eval.specs.Groups.{IsIn, IsMember}
use Rattle.album_eval.specs.Matching.{is_user}
use Rattle.album_eval.specs.Groups.IsIn.{by_name, by_group}
use Rattle.album_eval.specs.declared.facts.Principal.{Principal}
use Rattle.album_eval.specs.declared.facts.Principal.TheVariants as principal
use Rattle.album_eval.specs.declared.policies.Policy.{Policy}
use Rattle.album_items.specs.ItemIds.{group, number_of, kind_of}
use Rattle.album_items.specs.Values.{members_of}
use Rattle.album_items.specs.declared.values.Value.{Value}
use Rattle.album_items.specs.declared.values.Value.TheVariants.{Missing}
use Rattle.album_reader.specs.Answers.{ReadVersion}
use Rattle.album_reader.specs.Snapshots.{items_read, version_read}
use Rattle.album_reader.proofs.Snapshots.{length-items}
use Rattle.album_views.specs.Seen.{seen}
use Rattle.album_views.proofs.Sets.{has, one-of}
use Rattle.album_views.proofs.Turns.{read-has}
use Rattle.album_listing.specs.Basis.{IsBasis, members_seen}
use Rattle.album_listing.specs.GroupsFound.{groups_read, brings_in, grown_groups, groups_found, basis_on}

-- ---- filters

-- what passes the one passes the other
abbrev Goes : (ℕ → Bool) → (ℕ → Bool) → Type 0
Goes p q = (n : ℕ) → p n ≡ true → q n ≡ true

longer : (a b : Bool) (x : ℕ) (xs ys : List ℕ) → (a ≡ true → b ≡ true) → length xs ≤ length ys
    → length (cond a (x ∷ xs) xs) ≤ length (cond b (x ∷ ys) ys)
longer true true x xs ys h l = omega (arith, l)
longer true false x xs ys h l = absurd (cc (h refl))
longer false true x xs ys h l = omega (arith, l)
longer false false x xs ys h l = l

filter-le : (p q : ℕ → Bool) → Goes p q → (xs : List ℕ) → length (filter p xs) ≤ length (filter q xs)
filter-le p q goes [] = omega arith
filter-le p q goes (x ∷ xs) = longer (p x) (q x) x (filter p xs) (filter q xs) (goes x) (filter-le p q goes xs)

filter-few : (p : ℕ → Bool) (xs : List ℕ) → length (filter p xs) ≤ length xs
filter-few p [] = omega arith
filter-few p (x ∷ xs) = go (p x) (filter-few p xs)
  where
    go : (b : Bool) → length (filter p xs) ≤ length xs → length (cond b (x ∷ filter p xs) (filter p xs)) ≤ length
        (x ∷ xs)
    go true l = omega (arith, l)
    go false l = omega (arith, l)

-- the filters are one, or the wider one keeps more
same-or-more : (p q : ℕ → Bool) → Goes p q → (xs : List ℕ)
    → (filter p xs ≡ filter q xs) ⊎ (length (filter p xs) < length (filter q xs))
same-or-more p q goes [] = inl refl
same-or-more p q goes (x ∷ xs) = go (p x) (q x) (goes x) (same-or-more p q goes xs)
  where
    go :
        (a b : Bool) → (a ≡ true → b ≡ true)
        → (filter p xs ≡ filter q xs) ⊎ (length (filter p xs) < length (filter q xs))
        → (cond a (x ∷ filter p xs) (filter p xs) ≡ cond b (x ∷ filter q xs) (filter q xs))
        ⊎ (length (cond a (x ∷ filter p xs) (filter p xs)) < length (cond b (x ∷ filter q xs) (filter q xs)))
    go true true h (inl e) = inl (ap (λ (ys : List ℕ). x ∷ ys) e)
    go true true h (inr l) = inr (omega (arith, l))
    go true false h r = absurd (cc (h refl))
    go false true h r = inr (let l : length (filter p xs) ≤ length (filter q xs) = filter-le p q goes xs in
        omega (arith, l))
    go false false h r = r

-- what is kept passes, and was there
has-filter : (p : ℕ → Bool) (xs : List ℕ) (n : ℕ) → has (filter p xs) n ≡ true → p n ≡ true
has-filter p [] n h = absurd (cc)
has-filter p (x ∷ xs) n h = go (p x) refl h (has-filter p xs n)
  where
    go :
        (b : Bool) → p x ≡ b → has (cond b (x ∷ filter p xs) (filter p xs)) n ≡ true
        → (has (filter p xs) n ≡ true → p n ≡ true) → p n ≡ true
    go true e k rest =
        elim (one-of (n == x) (has (filter p xs) n) k) [
          | inl s ↦ subst (λ (m : ℕ). p m ≡ true) (sym (eqb-true n x s)) e
          | inr r ↦ rest r
        ]
    go false e k rest = rest k

filter-has : (p : ℕ → Bool) (xs : List ℕ) (n : ℕ) → has xs n ≡ true → p n ≡ true → has (filter p xs) n ≡ true
filter-has p [] n h t = absurd (cc)
filter-has p (x ∷ xs) n h t = go (p x) refl (one-of (n == x) (has xs n) h) (λ r. filter-has p xs n r t)
  where
    go :
        (b : Bool) → p x ≡ b → (n == x ≡ true) ⊎ (has xs n ≡ true) → (has xs n ≡ true → has (filter p xs) n ≡ true)
        → has (cond b (x ∷ filter p xs) (filter p xs)) n ≡ true
    go true e (inl s) rest = or_left (n == x) (has (filter p xs) n) s
    go true e (inr r) rest = or_right (n == x) (has (filter p xs) n) (rest r)
    go false e (inl s) rest = absurd (cc (sym t ∙ ap p (eqb-true n x s) ∙ e))
    go false e (inr r) rest = rest r

-- and was there
was : (q : ℕ → Bool) (xs : List ℕ) (m : ℕ) → has (filter q xs) m ≡ true → has xs m ≡ true
was q [] m k = k
was q (x ∷ xs) m k = go (q x) k (was q xs m)
  where
    go :
        (b : Bool) → has (cond b (x ∷ filter q xs) (filter q xs)) m ≡ true
        → (has (filter q xs) m ≡ true → has xs m ≡ true)
        → has (x ∷ xs) m ≡ true
    go true l rest =
        elim (one-of (m == x) (has (filter q xs) m) l) [
          | inl s ↦ or_left (m == x) (has xs m) s
          | inr r ↦ or_right (m == x) (has xs m) (rest r)
        ]
    go false l rest = or_right (m == x) (has xs m) (rest l)

-- ---- turns

any-more : {X : Type 0} (p q : X → Bool) → ((x : X) → p x ≡ true → q x ≡ true) → (xs : List X) → list_any p xs ≡ true
    → list_any q xs ≡ true
any-more p q goes [] h = h
any-more p q goes (x ∷ xs) h =
    elim (one-of (p x) (list_any p xs) h) [
      | inl e ↦ or_left (q x) (list_any q xs) (goes x e)
      | inr r ↦ or_right (q x) (list_any q xs) (any-more p q goes xs r)
    ]

module _ (who : Principal) (rows : List ReadVersion) where
  abbrev listed : ℕ → List Member
  listed = members_seen (seen rows)

  abbrev turn : List ℕ → List ℕ
  turn groups = grown_groups who rows groups

  abbrev test : List ℕ → ℕ → Bool
  test groups number = list_any (brings_in who groups) (listed number)

  brings-more : (one more : List ℕ) → Goes (has one) (has more) → (m : Member) → brings_in who one m ≡ true
      → brings_in who more m ≡ true
  brings-more one more goes (member.User name) h = h
  brings-more one more goes (member.Group number) h = goes number h

  test-more : (one more : List ℕ) → Goes (has one) (has more) → Goes (test one) (test more)
  test-more one more goes number h = any-more (brings_in who one) (brings_in who more) (brings-more one more goes)
      (listed number) h

  turns-fixed : (n : ℕ) (groups : List ℕ) → groups ≡ turn groups → iterate turn n groups ≡ groups
  turns-fixed zero groups fixed = refl
  turns-fixed (suc n) groups fixed = ap (iterate turn n) (sym fixed) ∙ turns-fixed n groups fixed

  -- the next turn keeps what one turn kept
  next : (p : ℕ → Bool) (groups : List ℕ) → groups ≡ filter p (groups_read rows) → Goes p (test groups)
      → Goes (has groups) (has (turn groups))
  next p groups is goes n h =
      let kept : has (filter p (groups_read rows)) n ≡ true = subst (λ (gs : List ℕ). has gs n ≡ true) is h in
      filter-has (test groups) (groups_read rows) n (was p (groups_read rows) n kept)
      (goes n (has-filter p (groups_read rows) n kept))

  -- nothing more grows, or more groups are there
  end-by :
      (n : ℕ) (p : ℕ → Bool) (groups : List ℕ) → groups ≡ filter p (groups_read rows) → Goes p (test groups)
      → (length groups < length (turn groups) → iterate turn n (turn groups) ≡ turn (iterate turn n (turn groups)))
      → iterate turn n (turn groups) ≡ turn (iterate turn n (turn groups))
  end-by n p groups is goes deeper = elim (same-or-more p (test groups) goes (groups_read rows)) [
    | inl e ↦ (let fixed : turn groups ≡ turn (turn groups) = ap turn (is ∙ e) in
        let same = turns-fixed n (turn groups) fixed in
        same ∙ fixed ∙ ap turn (sym same))
    | inr l ↦ deeper (subst (λ (gs : List ℕ). length gs < length (turn groups)) (sym is) l)
  ]

  turns-end :
      (n : ℕ) (p : ℕ → Bool) (groups : List ℕ) → groups ≡ filter p (groups_read rows) → Goes p (test groups)
      → length (groups_read rows) ≤ n + length groups
      → iterate turn n (turn groups) ≡ turn (iterate turn n (turn groups))
  turns-end zero p groups is goes few = end-by zero p groups is goes
      (λ l. absurd (omega (arith, l, filter-few (test groups) (groups_read rows), few)))
  turns-end (suc n) p groups is goes few =
      end-by (suc n) p groups is goes
      (λ l. turns-end n (test groups) (turn groups) refl (test-more groups (turn groups) (next p groups is goes))
      (omega (arith, l, few)))

  nothing : (xs : List ℕ) → [] ≡ filter (λ n. false) xs
  nothing [] = refl
  nothing (x ∷ xs) = nothing xs

  few_groups : length (groups_read rows) ≤ length rows + 0
  few_groups =
      let a : length (groups_read rows) ≡ length (filter (λ item. kind_of item == 3) (items_read rows)) =
      length-map _ number_of in
      let b = filter-few (λ item. kind_of item == 3) (items_read rows) in
      let c = length-items rows in
      omega (arith, a, b, c)

  groups-fixed : groups_found who rows ≡ turn (groups_found who rows)
  unfolding groups_found
  groups-fixed =
      let count : length rows + 1 ≡ suc (length rows) = omega arith in
      subst (λ n. iterate turn n [] ≡ turn (iterate turn n [])) (sym count)
      (turns-end (length rows) (λ n. false) [] (nothing (groups_read rows)) (λ n h. absurd (cc)) few_groups)

  -- ---- who is found is in the group

  any-member : (p : Member → Bool) (ms : List Member) → list_any p ms ≡ true
      → (m : Member) × Contains ms m × (p m ≡ true)
  any-member p [] h = absurd (cc)
  any-member p (m ∷ ms) h =
      elim (one-of (p m) (list_any p ms) h) [
        | inl e ↦ (m, (0, omega arith, refl), e)
        | inr r ↦ (let rest = any-member p ms r in (rest.0, Contains-append_right (m ∷ []) ms rest.0 rest.1, rest.2))
      ]

  member-any : (p : Member → Bool) (ms : List Member) (m : Member) → Contains ms m → p m ≡ true → list_any p ms ≡ true
  member-any p [] m c e = absurd (omega (arith, c.1))
  member-any p (x ∷ ms) m c e =
      elim (Contains-append_cases (x ∷ []) ms m c) [
        | inl h ↦ or_left (p x) (list_any p ms) (subst (λ (y : Member). p y ≡ true) (sym (one x m h)) e)
        | inr r ↦ or_right (p x) (list_any p ms) (member-any p ms m r e)
      ]
    where
      one : (x m : Member) → Contains (x ∷ []) m → x ≡ m
      one x m c = elim (Contains-push_cases [] x m c) [ inl h ↦ absurd (omega (arith, h.1)) | inr h ↦ h ]

  abbrev AreIn : List ℕ → Type 0
  AreIn groups = (number : ℕ) → has groups number ≡ true → IsMember listed who number

  is-user : (p : Principal) (name : List ℕ) (number : ℕ) → is_user p name ≡ true
      → Contains (listed number) (member.User name) → IsMember listed p number
  is-user principal.Anonymous name number h c = absurd (cc)
  is-user (principal.User user) name number h c =
      by_name number (subst (λ (n : List ℕ). Contains (listed number) (member.User n))
      (sym ((bytes_eq-Decides user name).0 h)) c)
  is-user (principal.Root user) name number h c =
      by_name number (subst (λ (n : List ℕ). Contains (listed number) (member.User n))
      (sym ((bytes_eq-Decides user name).0 h)) c)

  is-inner : (p : Principal) (inner number : ℕ) → IsMember listed p inner
      → Contains (listed number) (member.Group inner) → IsMember listed p number
  is-inner principal.Anonymous inner number h c = h
  is-inner (principal.User user) inner number h c = by_group number inner c h
  is-inner (principal.Root user) inner number h c = by_group number inner c h

  brought : (groups : List ℕ) → AreIn groups → (number : ℕ) (m : Member) → Contains (listed number) m
      → brings_in who groups m ≡ true → IsMember listed who number
  brought groups are number (member.User name) c h = is-user who name number h c
  brought groups are number (member.Group inner) c h = is-inner who inner number (are inner h) c

  turn-in : (groups : List ℕ) → AreIn groups → AreIn (turn groups)
  turn-in groups are number h =
      let m = any-member (brings_in who groups) (listed number) (has-filter (test groups) (groups_read rows) number h)
      in
      brought groups are number m.0 m.1 m.2

  turns-in : (n : ℕ) (groups : List ℕ) → AreIn groups → AreIn (iterate turn n groups)
  turns-in zero groups are = are
  turns-in (suc n) groups are = turns-in n (turn groups) (turn-in groups are)

  found-in : AreIn (groups_found who rows)
  unfolding groups_found
  found-in = turns-in (length rows + 1) [] (λ number h. absurd (cc))

  -- ---- who is in the group is found

  -- a group that was not read lists nobody
  unread-nobody : (number : ℕ) → has (items_read rows) (group number) ≡ false → listed number ≡ []
  unfolding seen
  unread-nobody number e = go (version_read rows (group number)) (read-has rows (group number) ∙ e)
    where
      go : (o : Option (ℕ × Value)) → is_some o ≡ false
          → members_of (option_map_or (λ version. version.1) o Missing) ≡ []
      go None e = refl
      go (Some version) e = absurd (cc)

  read-group : (number : ℕ) → has (items_read rows) (group number) ≡ true → has (groups_read rows) number ≡ true
  read-group number h =
      mapped (filter (λ item. kind_of item == 3) (items_read rows))
      (filter-has (λ item. kind_of item == 3) (items_read rows) (group number) h
      (eq-eqb (kind_of (group number)) 3 (omega arith)))
    where
      mapped : (xs : List ℕ) → has xs (group number) ≡ true → has (map number_of xs) number ≡ true
      mapped [] k = absurd (cc)
      mapped (x ∷ xs) k =
          elim (one-of (group number == x) (has xs (group number)) k) [
            | inl s ↦ or_left (number == number_of x) (has (map number_of xs) number)
                (eq-eqb number (number_of x)
                (let e : group number ≡ x = eqb-true (group number) x s in omega (arith, e)))
            | inr r ↦ or_right (number == number_of x) (has (map number_of xs) number) (mapped xs r)
          ]

  listing-read : (number : ℕ) (m : Member) → Contains (listed number) m → has (groups_read rows) number ≡ true
  listing-read number m c = go (has (items_read rows) (group number)) refl
    where
      go : (b : Bool) → has (items_read rows) (group number) ≡ b → has (groups_read rows) number ≡ true
      go true e = read-group number e
      go false e =
          let none : Contains [] m = subst (λ (ms : List Member). Contains ms m) (unread-nobody number e) c in
          absurd (omega (arith, none.1))

  into-found : (number : ℕ) (m : Member) → Contains (listed number) m → brings_in who (groups_found who rows) m ≡ true
      → has (groups_found who rows) number ≡ true
  into-found number m c h =
      subst (λ (gs : List ℕ). has gs number ≡ true) (sym groups-fixed)
      (filter-has (test (groups_found who rows)) (groups_read rows) number (listing-read number m c)
      (member-any (brings_in who (groups_found who rows)) (listed number) m c h))

  in-found : (user : List ℕ) → is_user who user ≡ true → (number : ℕ) → IsIn listed user number
      → has (groups_found who rows) number ≡ true
  in-found user is number (by_name n c) = into-found number (member.User user) c is
  in-found user is number (by_group n inner c h) = into-found number (member.Group inner) c (in-found user is inner h)

member-found : (who : Principal) (rows : List ReadVersion) (number : ℕ) → IsMember (members_seen (seen rows)) who number
    → has (groups_found who rows) number ≡ true
member-found principal.Anonymous rows number m = absurd m
member-found (principal.User user) rows number m =
    in-found (principal.User user) rows user ((bytes_eq-Decides user user).1 refl) number m
member-found (principal.Root user) rows number m =
    in-found (principal.Root user) rows user ((bytes_eq-Decides user user).1 refl) number m

pub basis-based : (policy : Policy) (who : Principal) (rows : List ReadVersion)
    → IsBasis policy who rows (basis_on policy who rows)
basis-based policy who rows =
    record {
      ruled_by = refl;
      ruled_for = refl;
      shown = refl;
      groups = record { tied = λ number. (found-in who rows number, member-found who rows number) };
    }
