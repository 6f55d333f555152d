-- A ruling on two snapshots that agree on what is named finds the same of each subject (`reason-alike`), and lists the
-- same rows (`listed-alike`), for the law `listings_look_at_what_is_named` and for those of rulings.
use Rattle.std.proofs.Common.{◌≡◌, ◌<◌, ◌++◌, ℕ, zero, suc, length, get_or, List, [], ◌∷◌, Bool, true, false, Option, Some, None, Contains, IsTrue, option_map, option_to_list, refl, sym, ap, subst, ◌∙◌, arith, if◌then◌else◌}
use Rattle.std.specs.List.{flat_map, filter_map}
use Rattle.std.specs.Option.{option_map_or}
use Rattle.std.proofs.lemmas.Bool.{both_ways}
use Rattle.std.proofs.lemmas.List.Elements.{Contains-append_left, Contains-append_right}
use Rattle.album_access.specs.declared.masks.Mask.{Mask}
use Rattle.album_lists.specs.declared.lists.Ace.{Ace}
use Rattle.album_lists.specs.declared.whos.Member.{Member}
use Rattle.album_lists.specs.declared.whos.Member.TheVariants as member
use Rattle.album_eval.specs.Groups.{IsIn}
use Rattle.album_eval.specs.Groups.IsIn.{by_name, by_group}
use Rattle.album_eval.specs.Policies.{is_owners_way}
use Rattle.album_eval.specs.Verdict.{verdict}
use Rattle.album_eval.proofs.Giving.{other_bits_same, three_as_two, way_granted}
use Rattle.album_eval.specs.declared.facts.Principal.{Principal}
use Rattle.album_eval.specs.declared.facts.Principal.TheVariants as principal
use Rattle.album_eval.specs.declared.policies.Policy.{Policy}
use Rattle.album_eval.specs.declared.policies.Policy.TheVariants.{One, Two, Three}
use Rattle.album_eval.specs.declared.verdicts.Verdict.{Verdict}
use Rattle.album_items.specs.ItemIds.{list, group, number_of}
use Rattle.album_items.specs.Values.{head_of, children_of, entries_of, members_of, list_of, head_group_of, group_of_member}
use Rattle.album_items.specs.declared.values.Head.{Head}
use Rattle.album_items.specs.declared.values.Value.{Value}
use Rattle.album_items.specs.declared.values.Value.TheVariants.{Missing}
use Rattle.album_reader.specs.Answers.{ReadVersion}
use Rattle.album_views.proofs.Ways.{grouped}
use Rattle.album_views.specs.ReadSets.{IsNamed, subjects_of, is_groupless}
use Rattle.album_views.specs.ReadSets.IsNamed.{Subject, ListOf, HeadGroupOf, GroupInListOf, GroupInGroup}
use Rattle.album_views.specs.Seen.{seen}
use Rattle.album_views.specs.declared.asks.Ask.{Ask}
use Rattle.album_views.specs.declared.asks.Ask.TheVariants as ask
use Rattle.album_listing.specs.Agreement.{AgreeOn}
use Rattle.album_listing.specs.Basis.{Basis, IsBasis, AreGroups, members_seen}
use Rattle.album_listing.specs.Listing.{title_in, row_for, listed, IsListing}
use Rattle.album_listing.specs.Masks.{READ_ATTRIBUTES}
use Rattle.album_listing.specs.Reasons.{on, case_on, entries_on, verdict_on, with_verdict, reason_of, is_grant}
use Rattle.album_listing.specs.declared.reasons.Reason.{Reason}
use Rattle.album_listing.specs.declared.rows.Row.{Row}
use Rattle.album_listing.proofs.Judging.{first-of, verdict-alike}

-- ---- the basis

-- a basis, made of its parts
abbrev pub made : Policy → Principal → List ReadVersion → (ℕ → Bool) → Basis
made policy me rows is_in = record { policy = policy; principal = me; is_in = is_in; seen = seen rows }

pub basis-made :
    (policy : Policy) (me : Principal) (rows : List ReadVersion) (basis : Basis) → IsBasis policy me rows basis
    → basis ≡ made policy me rows basis.is_in
basis-made policy me rows basis based =
    λ k. record {
      policy = based.ruled_by k;
      principal = based.ruled_for k;
      is_in = basis.is_in;
      seen = based.shown k;
    }

-- ---- groups

pub same-test : (a b : Bool) → (IsTrue a → IsTrue b) → (IsTrue b → IsTrue a) → a ≡ b
same-test true true f g = refl
same-test true false f g = sym (f refl)
same-test false true f g = g refl
same-test false false f g = refl

-- a group among members is a group that they name
inner-in : (members : List Member) (inner : ℕ) → Contains members (member.Group inner) → Contains (flat_map group_of_member members) (group inner)
inner-in [] inner c = absurd (omega (arith, c.1))
inner-in (m ∷ ms) inner c = go (inner-in ms inner) c.0 c.1 c.2
  where
    go :
        (Contains ms (member.Group inner) → Contains (flat_map group_of_member ms) (group inner))
        → (k : ℕ) → k < length (m ∷ ms) → get_or (m ∷ ms) k (member.Group inner) ≡ member.Group inner
        → Contains (group_of_member m ++ flat_map group_of_member ms) (group inner)
    go rest zero l e =
        Contains-append_left (group_of_member m) (flat_map group_of_member ms) (group inner)
        (subst (λ (x : Member). Contains (group_of_member x) (group inner)) (sym e) (first-of (group inner) []))
    go rest (suc k) l e =
        Contains-append_right (group_of_member m) (flat_map group_of_member ms) (group inner) (rest (k, omega (arith, l), e))

module _ (looker : Option Principal) (ask : Ask) (one other : List ReadVersion) (agree : AgreeOn looker ask one other) where
  -- what is named is seen the same
  pub seen-alike : (item : ℕ) → IsNamed (seen one) looker ask item → seen one item ≡ seen other item
  unfolding seen
  seen-alike item named = ap (λ (o : Option (ℕ × Value)). option_map_or (λ version. version.1) o Missing) (agree.same item named)

  members-alike :
      (number : ℕ) → IsNamed (seen one) looker ask (group number) → members_seen (seen one) number ≡ members_seen (seen other) number
  members-alike number named = ap members_of (seen-alike (group number) named)

  inner-named :
      (number inner : ℕ) → IsNamed (seen one) looker ask (group number)
      → Contains (members_seen (seen one) number) (member.Group inner) → IsNamed (seen one) looker ask (group inner)
  inner-named number inner named c =
      GroupInGroup (group number) (group inner) named (inner-in (members_seen (seen one) number) inner c)

  in-other :
      (user : List ℕ) (number : ℕ) → IsNamed (seen one) looker ask (group number)
      → IsIn (members_seen (seen one)) user number → IsIn (members_seen (seen other)) user number
  in-other user number named (by_name n c) =
      by_name n (subst (λ (ms : List Member). Contains ms (member.User user)) (members-alike n named) c)
  in-other user number named (by_group n inner c h) =
      by_group n inner (subst (λ (ms : List Member). Contains ms (member.Group inner)) (members-alike n named) c)
      (in-other user inner (inner-named n inner named c) h)

  in-one :
      (user : List ℕ) (number : ℕ) → IsNamed (seen one) looker ask (group number)
      → IsIn (members_seen (seen other)) user number → IsIn (members_seen (seen one)) user number
  in-one user number named (by_name n c) =
      by_name n (subst (λ (ms : List Member). Contains ms (member.User user)) (sym (members-alike n named)) c)
  in-one user number named (by_group n inner c h) =
      let back = subst (λ (ms : List Member). Contains ms (member.Group inner)) (sym (members-alike n named)) c in
      by_group n inner back (in-one user inner (inner-named n inner named back) h)

  pub groups-alike :
      (me : Principal) (i j : ℕ → Bool) → AreGroups (seen one) me i → AreGroups (seen other) me j
      → (number : ℕ) → IsNamed (seen one) looker ask (group number) → i number ≡ j number
  groups-alike principal.Anonymous i j a b number named =
      same-test (i number) (j number) (λ t. absurd ((a.tied number).0 t)) (λ t. absurd ((b.tied number).0 t))
  groups-alike (principal.User user) i j a b number named =
      same-test (i number) (j number) (λ t. (b.tied number).1 (in-other user number named ((a.tied number).0 t)))
      (λ t. (a.tied number).1 (in-one user number named ((b.tied number).0 t)))
  groups-alike (principal.Root user) i j a b number named =
      same-test (i number) (j number) (λ t. (b.tied number).1 (in-other user number named ((a.tied number).0 t)))
      (λ t. (a.tied number).1 (in-one user number named ((b.tied number).0 t)))

  -- ---- reasons

  module _ (policy : Policy) (me : Principal) (i j : ℕ → Bool) (same : (number : ℕ) → IsNamed (seen one) looker ask (group number) → i number ≡ j number) where
    -- who goes the owner's way to the object may ask for the mask by it
    abbrev pub GoesFor : ℕ → Mask → Type 0
    GoesFor object mask =
        (head : Head) → head_of (seen one object) ≡ Some head → is_groupless (seen one) looker ask object ≡ true
        → is_owners_way (case_on (made policy me one i) head) mask ≡ true

    pub verdict-same :
        (object : ℕ) (head : Head) (mask : Mask) → Contains (subjects_of (seen one) ask) object → GoesFor object mask
        → head_of (seen one object) ≡ Some head
        → verdict_on (made policy me one i) head mask ≡ verdict_on (made policy me other j) head mask
    verdict-same object head mask subject goes e = go (is_groupless (seen one) looker ask object) refl
      where
        lists : Contains (list_of (seen one object)) (list head.list)
        lists =
            subst (λ (o : Option Head). Contains (option_to_list (option_map (λ (h : Head). list h.list) o)) (list head.list)) (sym e)
            (first-of (list head.list) [])

        groups : Contains (head_group_of (seen one object)) (group head.group)
        groups =
            subst (λ (o : Option Head). Contains (option_to_list (option_map (λ (h : Head). group h.group) o)) (group head.group))
            (sym e) (first-of (group head.group) [])

        go :
            (b : Bool) → is_groupless (seen one) looker ask object ≡ b
            → verdict_on (made policy me one i) head mask ≡ verdict_on (made policy me other j) head mask
        go false by =
            verdict-alike policy me head.owner head.group i j (entries_of (seen one (list head.list))) mask
            (same head.group (HeadGroupOf object (group head.group) subject by groups))
            (λ number c. same number (GroupInListOf object (list head.list) (group number) subject by lists c))
            ∙ ap (λ (es : List Ace). verdict (case_on (made policy me other j) head) es mask)
            (ap entries_of (seen-alike (list head.list) (ListOf object (list head.list) subject lists)))
        go true by =
            way_granted (case_on (made policy me one i) head) (entries_on (made policy me one i) head) mask (goes head e by)
            ∙ sym (way_granted (case_on (made policy me other j) head) (entries_on (made policy me other j) head) mask (goes head e by))

    pub reason-alike :
        (object : ℕ) (mask : Mask) → Contains (subjects_of (seen one) ask) object → GoesFor object mask
        → reason_of (made policy me one i) (on object mask) ≡ reason_of (made policy me other j) (on object mask)
    reason-alike object mask subject goes =
        go (head_of (seen one object)) refl
        ∙ ap (λ (v : Value). option_map (λ head. with_verdict (on object mask) (verdict_on (made policy me other j) head mask)) (head_of v))
        (seen-alike object (Subject object subject))
      where
        go :
            (o : Option Head) → head_of (seen one object) ≡ o
            → option_map (λ head. with_verdict (on object mask) (verdict_on (made policy me one i) head mask)) (head_of (seen one object))
            ≡ option_map (λ head. with_verdict (on object mask) (verdict_on (made policy me other j) head mask)) (head_of (seen one object))
        go None e = rw e refl
        go (Some head) e =
            rw e (ap (λ (v : Verdict). Some (with_verdict (on object mask) v)) (verdict-same object head mask subject goes e))

-- ---- rows

pub filter-same :
    (f g : ℕ → Option Row) (xs : List ℕ) → ((x : ℕ) → Contains xs x → f x ≡ g x) → filter_map f xs ≡ filter_map g xs
filter-same f g [] same = refl
filter-same f g (x ∷ xs) same =
    rw (same x (first-of x xs), filter-same f g xs (λ y c. same y (suc c.0, omega (arith, c.1), c.2))) refl

-- the row of a child, by what is said of it and its value
abbrev row-by : ℕ → ℕ → Option Reason → Value → Option Row
row-by album child reason value =
    option_map (λ title. record { item = child; title = title })
    (if option_map_or (λ (r : Reason). is_grant r.verdict) reason false then title_in (number_of album) value else None)

pub listed-alike :
    (looker : Option Principal) (album : ℕ) (one other : List ReadVersion) (me : Principal) (i j : ℕ → Bool)
    → AgreeOn looker (ask.List album) one other
    → AreGroups (seen one) me i → AreGroups (seen other) me j
    → listed (made One me one i) album ≡ listed (made One me other j) album
listed-alike looker album one other me i j agree a b =
    filter-same (row_for (made One me one i) album) (row_for (made One me other j) album) (children_of (seen one album))
    (λ child c. row child (suc c.0, omega (arith, c.1), c.2))
    ∙ ap (λ (v : Value). filter_map (row_for (made One me other j) album) (children_of v))
    (seen-alike looker (ask.List album) one other agree album (Subject album (first-of album (children_of (seen one album)))))
  where
    row :
        (child : ℕ) → Contains (subjects_of (seen one) (ask.List album)) child
        → row_for (made One me one i) album child ≡ row_for (made One me other j) album child
    row child subject =
        ap (λ (r : Option Reason). row-by album child r (seen one child))
        (reason-alike looker (ask.List album) one other agree One me i j
        (groups-alike looker (ask.List album) one other agree me i j a b) child READ_ATTRIBUTES subject
        (λ head e goes. absurd (both_ways _ (grouped (seen one) looker (ask.List album) child refl) goes)))
        ∙ ap (row-by album child (reason_of (made One me other j) (on child READ_ATTRIBUTES)))
        (seen-alike looker (ask.List album) one other agree child (Subject child subject))

-- the listings of two snapshots that agree are one
pub listings-alike :
    (looker : Option Principal) (asked : Ask) (one other : List ReadVersion) (me : Principal) (rows more : List Row)
    → AgreeOn looker asked one other
    → IsListing (record { looker = looker; ask = asked; rows = one }) me rows
    → IsListing (record { looker = looker; ask = asked; rows = other }) me more → rows ≡ more
listings-alike looker asked one other me rows more agree l m =
    let album : l.album ≡ m.album = cc (l.asked, m.asked) in
    let there : AgreeOn looker (ask.List l.album) one other = subst (λ (a : Ask). AgreeOn looker a one other) l.asked agree in
    l.rows_are
    ∙ ap (λ (b : Basis). listed b l.album) (basis-made One me one l.basis l.based)
    ∙ listed-alike looker l.album one other me l.basis.is_in m.basis.is_in there l.based.groups m.based.groups
    ∙ ap (listed (made One me other m.basis.is_in)) album
    ∙ ap (λ (b : Basis). listed b m.album) (sym (basis-made One me other m.basis m.based))
    ∙ sym m.rows_are

-- ---- policies

listed-by-two :
    (basis : Basis) (album : ℕ)
    → listed (record basis { policy = Two }) album ≡ listed (record basis { policy = One }) album
listed-by-two basis album =
    filter-same (row_for (record basis { policy = Two }) album) (row_for (record basis { policy = One }) album)
    (children_of (basis.seen album))
    (λ child c. ap (λ (r : Option Reason). row-by album child r (basis.seen child)) (reason child (head_of (basis.seen child))))
  where
    reason :
        (child : ℕ) (o : Option Head)
        → option_map (λ head. with_verdict (on child READ_ATTRIBUTES) (verdict_on (record basis { policy = Two }) head READ_ATTRIBUTES)) o
        ≡ option_map (λ head. with_verdict (on child READ_ATTRIBUTES) (verdict_on (record basis { policy = One }) head READ_ATTRIBUTES)) o
    reason child None = refl
    reason child (Some head) =
        ap (λ (v : Verdict). Some (with_verdict (on child READ_ATTRIBUTES) v))
        (other_bits_same (case_on basis head) (entries_on basis head) READ_ATTRIBUTES refl refl)

pub listed-by-any :
    (basis : Basis) (policy : Policy) (album : ℕ)
    → listed (record basis { policy = policy }) album ≡ listed (record basis { policy = One }) album
listed-by-any basis One album = refl
listed-by-any basis Two album = listed-by-two basis album
listed-by-any basis Three album =
    filter-same (row_for (record basis { policy = Three }) album) (row_for (record basis { policy = Two }) album)
    (children_of (basis.seen album))
    (λ child c. ap (λ (r : Option Reason). row-by album child r (basis.seen child)) (reason child (head_of (basis.seen child))))
    ∙ listed-by-two basis album
  where
    reason :
        (child : ℕ) (o : Option Head)
        → option_map (λ head. with_verdict (on child READ_ATTRIBUTES) (verdict_on (record basis { policy = Three }) head READ_ATTRIBUTES)) o
        ≡ option_map (λ head. with_verdict (on child READ_ATTRIBUTES) (verdict_on (record basis { policy = Two }) head READ_ATTRIBUTES)) o
    reason child None = refl
    reason child (Some head) =
        ap (λ (v : Verdict). Some (with_verdict (on child READ_ATTRIBUTES) v))
        (three_as_two (case_on basis head) (entries_on basis head) READ_ATTRIBUTES)
