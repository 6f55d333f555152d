-- A ruling sees of a snapshot what it sees of it when it is bared of titles, contents, children and stamps
-- (`seen-bared`, `basis-bared`); two that are ruled alike agree when they are bared (`agree-bared`), so that a reason
-- is the same on both (`reason-both`), and the rows too that may be seen (`rows-alike`). For the law
-- `listings_disclose_nothing`, and for those of rulings.
use Rattle.std.proofs.Common.{◌≡◌, ◌==◌, ◌&&◌, ◌<◌, ℕ, zero, suc, List, [], ◌∷◌, Bool, true, false, Option, Some, None, Contains, IsTrue, cond, find, map, option_map, refl, sym, ap, subst, ◌∙◌, arith, if◌then◌else◌}
use Rattle.std.specs.List.{filter_map, slice_index_or}
use Rattle.std.specs.Option.{option_map_or}
use Rattle.std.proofs.lemmas.Bool.{both_ways}
use Rattle.std.proofs.lemmas.List.Elements.{Contains-append_left}
use Rattle.album_access.specs.declared.masks.Mask.{Mask}
use Rattle.album_lists.specs.declared.whos.Member.{Member}
use Rattle.album_eval.proofs.Giving.{other_bits_same, three_as_two, way_granted}
use Rattle.album_eval.specs.Groups.{IsMember}
use Rattle.album_eval.specs.Matching.{owns}
use Rattle.album_eval.specs.Policies.{is_owners_way}
use Rattle.album_eval.specs.Verdict.{verdict}
use Rattle.album_eval.specs.declared.facts.Principal.{Principal}
use Rattle.album_eval.specs.declared.policies.Policy.{Policy}
use Rattle.album_eval.specs.declared.policies.Policy.TheVariants.{One, Two, Three}
use Rattle.album_eval.specs.declared.verdicts.Verdict.{Verdict}
use Rattle.album_items.specs.ItemIds.{list, group, number_of}
use Rattle.album_items.specs.Values.{head_of, home_of, children_of, entries_of, members_of, list_of, head_group_of, groups_in_list, groups_in_group}
use Rattle.album_items.specs.declared.values.Head.{Head}
use Rattle.album_items.specs.declared.values.Value.{Value}
use Rattle.album_items.specs.declared.values.Value.TheVariants as value
use Rattle.album_reader.specs.Answers.{ReadVersion}
use Rattle.album_reader.specs.Rounds.{has_item}
use Rattle.album_reader.specs.Snapshots.{version_of, version_read}
use Rattle.album_views.proofs.Ways.{grouped}
use Rattle.album_views.specs.Asks.{needs_list_alone}
use Rattle.album_views.specs.ReadSets.{looker_of, IsNamed, subjects_of, is_groupless}
use Rattle.album_views.specs.ReadSets.IsNamed.{Subject, ListOf, HeadGroupOf, GroupInListOf, GroupInGroup}
use Rattle.album_views.specs.Seen.{seen}
use Rattle.album_views.specs.declared.asks.Ask.{Ask}
use Rattle.album_views.specs.declared.asks.Ask.TheVariants as ask
use Rattle.album_listing.specs.Agreement.{AgreeOn}
use Rattle.album_listing.specs.Basis.{Basis, IsBasis, AreGroups, members_seen}
use Rattle.album_listing.specs.Disclosure.{bare, bare_read, AreRuledAlike, AreAlikeFor}
use Rattle.album_listing.specs.GroupsFound.{groups_found, basis_on}
use Rattle.album_listing.specs.Listing.{title_in, row_for, listed, IsListing}
use Rattle.album_listing.specs.Masks.{READ_ATTRIBUTES, LIST_DIRECTORY}
use Rattle.album_listing.specs.Reasons.{on, case_on, entries_on, verdict_on, with_verdict, reason_of, is_grant, is_granted_on}
use Rattle.album_listing.specs.Fields.{title_field}
use Rattle.album_listing.specs.declared.reasons.Alternative.{Alternative}
use Rattle.album_listing.specs.declared.reasons.Reason.{Reason}
use Rattle.album_listing.specs.declared.rows.Row.{Row}
use Rattle.album_listing.proofs.GroupsFoundLemmas.{basis-based}
use Rattle.album_listing.proofs.Judging.{first-of}
use Rattle.album_listing.proofs.Looking.{made, basis-made, same-test, filter-same, groups-alike, reason-alike}

-- ---- one value

pub head-bare : (v : Value) → head_of (bare v) ≡ head_of v
head-bare value.Missing = refl
head-bare (value.Picture x) = refl
head-bare (value.Album x) = refl
head-bare (value.List x) = refl
head-bare (value.Group x) = refl

-- what is bared has its owner
pub groupless-bare :
    (lookup : ℕ → Value) (looker : Option Principal) (asked : Ask) (item : ℕ)
    → is_groupless (λ i. bare (lookup i)) looker asked item ≡ is_groupless lookup looker asked item
groupless-bare lookup None asked item = refl
groupless-bare lookup (Some principal) asked item =
    ap (λ (o : Option Head). option_map_or (λ (head : Head). owns principal head.owner) o false && needs_list_alone asked item)
    (head-bare (lookup item))

pub home-bare : (v : Value) → home_of (bare v) ≡ home_of v
home-bare value.Missing = refl
home-bare (value.Picture x) = refl
home-bare (value.Album x) = refl
home-bare (value.List x) = refl
home-bare (value.Group x) = refl

pub entries-bare : (v : Value) → entries_of (bare v) ≡ entries_of v
entries-bare value.Missing = refl
entries-bare (value.Picture x) = refl
entries-bare (value.Album x) = refl
entries-bare (value.List x) = refl
entries-bare (value.Group x) = refl

members-bare : (v : Value) → members_of (bare v) ≡ members_of v
members-bare value.Missing = refl
members-bare (value.Picture x) = refl
members-bare (value.Album x) = refl
members-bare (value.List x) = refl
members-bare (value.Group x) = refl

children-bare : (v : Value) → children_of (bare v) ≡ []
children-bare value.Missing = refl
children-bare (value.Picture x) = refl
children-bare (value.Album x) = refl
children-bare (value.List x) = refl
children-bare (value.Group x) = refl

list-bare : (v : Value) → list_of (bare v) ≡ list_of v
list-bare value.Missing = refl
list-bare (value.Picture x) = refl
list-bare (value.Album x) = refl
list-bare (value.List x) = refl
list-bare (value.Group x) = refl

head_group-bare : (v : Value) → head_group_of (bare v) ≡ head_group_of v
head_group-bare value.Missing = refl
head_group-bare (value.Picture x) = refl
head_group-bare (value.Album x) = refl
head_group-bare (value.List x) = refl
head_group-bare (value.Group x) = refl

groups-bare : (v : Value) → groups_in_list (bare v) ≡ groups_in_list v
groups-bare value.Missing = refl
groups-bare (value.Picture x) = refl
groups-bare (value.Album x) = refl
groups-bare (value.List x) = refl
groups-bare (value.Group x) = refl

inner-bare : (v : Value) → groups_in_group (bare v) ≡ groups_in_group v
inner-bare value.Missing = refl
inner-bare (value.Picture x) = refl
inner-bare (value.Album x) = refl
inner-bare (value.List x) = refl
inner-bare (value.Group x) = refl

-- ---- a snapshot

-- the snapshot without titles, contents, children and stamps
abbrev pub bared : List ReadVersion → List ReadVersion
bared rows = map (λ answer. record { item = answer.item; stamp = 0; value = bare answer.value }) rows

read-bared :
    (rows : List ReadVersion) (item : ℕ)
    → version_read (bared rows) item ≡ option_map (λ (v : Value). (0, v)) (bare_read rows item)
read-bared [] item = refl
read-bared (row ∷ rows) item = go (row.item == item) (read-bared rows item)
  where
    go :
        (b : Bool) → version_read (bared rows) item ≡ option_map (λ (v : Value). (0, v)) (bare_read rows item)
        → option_map version_of
        (cond b (Some (record { item = row.item; stamp = 0; value = bare row.value }))
        (find (λ answer. answer.item == item) (bared rows)))
        ≡ option_map (λ (v : Value). (0, v))
        (option_map (λ version. bare version.1)
        (option_map version_of (cond b (Some row) (find (λ answer. answer.item == item) rows))))
    go true rest = refl
    go false rest = rest

pub seen-bared : (rows : List ReadVersion) (item : ℕ) → seen (bared rows) item ≡ bare (seen rows item)
unfolding seen
seen-bared rows item =
    ap (λ (o : Option (ℕ × Value)). option_map_or (λ version. version.1) o value.Missing) (read-bared rows item)
    ∙ go (version_read rows item)
  where
    go :
        (o : Option (ℕ × Value))
        → option_map_or (λ (version : ℕ × Value). version.1)
        (option_map (λ (v : Value). (0, v)) (option_map (λ (version : ℕ × Value). bare version.1) o)) value.Missing
        ≡ bare (option_map_or (λ (version : ℕ × Value). version.1) o value.Missing)
    go None = refl
    go (Some version) = refl

-- ---- what is named

module _
    (lookup : ℕ → Value) (looker inside : Option Principal) (asked inner : Ask)
    (within : (item : ℕ) → Contains (subjects_of (λ i. bare (lookup i)) inner) item → Contains (subjects_of lookup asked) item)
    (grouped : (item : ℕ) → Contains (subjects_of (λ i. bare (lookup i)) inner) item
    → is_groupless (λ i. bare (lookup i)) inside inner item ≡ false → is_groupless lookup looker asked item ≡ false)
  where
    named-back : (item : ℕ) → IsNamed (λ i. bare (lookup i)) inside inner item → IsNamed lookup looker asked item
    named-back item (Subject i s) = Subject i (within i s)
    named-back item (ListOf s i subject c) =
        ListOf s i (within s subject) (subst (λ (xs : List ℕ). Contains xs i) (list-bare (lookup s)) c)
    named-back item (HeadGroupOf s i subject e c) =
        HeadGroupOf s i (within s subject) (grouped s subject e)
        (subst (λ (xs : List ℕ). Contains xs i) (head_group-bare (lookup s)) c)
    named-back item (GroupInListOf s l i subject e c d) =
        GroupInListOf s l i (within s subject) (grouped s subject e)
        (subst (λ (xs : List ℕ). Contains xs l) (list-bare (lookup s)) c)
        (subst (λ (xs : List ℕ). Contains xs i) (groups-bare (lookup l)) d)
    named-back item (GroupInGroup g i named c) =
        GroupInGroup g i (named-back g named) (subst (λ (xs : List ℕ). Contains xs i) (inner-bare (lookup g)) c)

-- the subjects of a bared snapshot are subjects
pub subjects-back :
    (lookup : ℕ → Value) (asked : Ask) (item : ℕ) → Contains (subjects_of (λ i. bare (lookup i)) asked) item
    → Contains (subjects_of lookup asked) item
subjects-back lookup (ask.Read object) item c = c
subjects-back lookup (ask.List album) item c =
    Contains-append_left (album ∷ []) (children_of (lookup album)) item
    (subst (λ (xs : List ℕ). Contains (album ∷ xs) item) (children-bare (lookup album)) c)
subjects-back lookup (ask.GetList object) item c = c
subjects-back lookup (ask.Head object) item c = c
subjects-back lookup (ask.Children album) item c = c
subjects-back lookup (ask.AddPicture album title content) item c = c
subjects-back lookup (ask.AddAlbum album title) item c = c
subjects-back lookup (ask.AddGroup album members) item c = c
subjects-back lookup (ask.Retitle object title) item c = c
subjects-back lookup (ask.Replace object content) item c = c
subjects-back lookup (ask.Delete object) item c =
    subst (λ (xs : List ℕ). Contains (object ∷ xs) item) (home-bare (lookup object)) c
subjects-back lookup (ask.Move object to) item c =
    subst (λ (xs : List ℕ). Contains (object ∷ to ∷ xs) item) (home-bare (lookup object)) c
subjects-back lookup (ask.SetLists lists) item c = c
subjects-back lookup (ask.SetOwner object owner number) item c = c
subjects-back lookup (ask.SetMembers object members) item c = c
subjects-back lookup (ask.Share lists members) item c = c

pub agree-bared :
    (looker inside : Option Principal) (asked inner : Ask) (one other : List ReadVersion)
    → ((item : ℕ) → Contains (subjects_of (λ i. bare (seen one i)) inner) item → Contains (subjects_of (seen one) asked) item)
    → ((item : ℕ) → Contains (subjects_of (λ i. bare (seen one i)) inner) item
    → is_groupless (λ i. bare (seen one i)) inside inner item ≡ false → is_groupless (seen one) looker asked item ≡ false)
    → AreRuledAlike looker asked one other → AgreeOn inside inner (bared one) (bared other)
agree-bared looker inside asked inner one other within grouped alike =
    record {
      same = λ item named.
          let sights : seen (bared one) ≡ (λ i. bare (seen one i)) = λ k i. seen-bared one i k in
          let here : IsNamed (λ i. bare (seen one i)) inside inner item =
          subst (λ (lookup : ℕ → Value). IsNamed lookup inside inner item) sights named in
          read-bared one item
          ∙ ap (option_map (λ (v : Value). (0, v)))
          (alike.bared item (named-back (seen one) looker inside asked inner within grouped item here))
          ∙ sym (read-bared other item);
    }

-- ---- the basis

pub groups-bared :
    (me : Principal) (rows : List ReadVersion) (i : ℕ → Bool) → AreGroups (seen rows) me i → AreGroups (seen (bared rows)) me i
groups-bared me rows i groups =
    let members : members_seen (seen rows) ≡ members_seen (seen (bared rows)) =
    λ k number. (sym (ap members_of (seen-bared rows (group number)) ∙ members-bare (seen rows (group number)))) k in
    record {
      tied = λ number. (
        λ t. subst (λ (listed : ℕ → List Member). IsMember listed me number) members ((groups.tied number).0 t),
        λ m. (groups.tied number).1 (subst (λ (listed : ℕ → List Member). IsMember listed me number) (sym members) m),
      );
    }

pub basis-bared :
    (policy : Policy) (me : Principal) (rows : List ReadVersion) (basis : Basis) → IsBasis policy me rows basis
    → IsBasis policy me (bared rows) (made policy me (bared rows) basis.is_in)
basis-bared policy me rows basis based =
    record {
      ruled_by = refl;
      ruled_for = refl;
      shown = refl;
      groups = groups-bared me rows basis.is_in based.groups;
    }

-- a basis that sees no titles, contents and children
abbrev pub bare_basis : Basis → Basis
bare_basis basis = record basis { seen = λ item. bare (basis.seen item) }

-- it is that of the bared snapshot
pub made-bared :
    (policy : Policy) (me : Principal) (rows : List ReadVersion) (i : ℕ → Bool)
    → made policy me (bared rows) i ≡ bare_basis (made policy me rows i)
made-bared policy me rows i =
    λ k. record { policy = policy; principal = me; is_in = i; seen = λ item. seen-bared rows item k }

-- and has the same reasons
pub reason-bare : (basis : Basis) (a : Alternative) → reason_of (bare_basis basis) a ≡ reason_of basis a
reason-bare basis a =
    λ k. option_map
    (λ head. with_verdict a (verdict (case_on basis head) (entries-bare (basis.seen (list head.list)) k) a.mask))
    (head-bare (basis.seen a.object) k)

reason-bared :
    (policy : Policy) (me : Principal) (rows : List ReadVersion) (i : ℕ → Bool) (a : Alternative)
    → reason_of (made policy me (bared rows) i) a ≡ reason_of (made policy me rows i) a
reason-bared policy me rows i a =
    ap (λ (b : Basis). reason_of b a) (made-bared policy me rows i) ∙ reason-bare (made policy me rows i) a

-- ---- titles

-- the title that is in a value, by what is bare of it and its title
abbrev title-by : ℕ → Value → Option (List ℕ) → Option (List ℕ)
title-by home value.Missing title = None
title-by home (value.Picture x) title = if x.home == home then title else None
title-by home (value.Album x) title = if option_map_or (λ number. number == home) x.home false then title else None
title-by home (value.List x) title = None
title-by home (value.Group x) title = None

title-bare : (home : ℕ) (v : Value) → title_in home v ≡ title-by home (bare v) (title_field v)
title-bare home value.Missing = refl
title-bare home (value.Picture x) = refl
title-bare home (value.Album x) = refl
title-bare home (value.List x) = refl
title-bare home (value.Group x) = refl

-- what is seen of an item of one version
pub seen-same :
    (one other : List ReadVersion) (item : ℕ) → version_read one item ≡ version_read other item
    → seen one item ≡ seen other item
unfolding seen
seen-same one other item e =
    ap (λ (o : Option (ℕ × Value)). option_map_or (λ version. version.1) o value.Missing) e

bare-alike :
    (looker : Option Principal) (asked : Ask) (one other : List ReadVersion) (item : ℕ) → AreRuledAlike looker asked one other
    → IsNamed (seen one) looker asked item → bare (seen one item) ≡ bare (seen other item)
bare-alike looker asked one other item alike named =
    sym (seen-bared one item)
    ∙ seen-same (bared one) (bared other) item
    (read-bared one item
    ∙ ap (option_map (λ (v : Value). (0, v))) (alike.bared item named)
    ∙ sym (read-bared other item))
    ∙ seen-bared other item

-- ---- reasons on both

-- who goes the owner's way to the object may ask for the mask by it
abbrev GoesFor : Option Principal → Ask → List ReadVersion → Policy → Principal → ℕ → Mask → Type 0
GoesFor looker asked one policy me object mask =
    (head : Head) → head_of (seen one object) ≡ Some head → is_groupless (seen one) looker asked object ≡ true
    → is_owners_way (case_on (made policy me one (λ number. false)) head) mask ≡ true

reason-both :
    (looker : Option Principal) (asked : Ask) (one other : List ReadVersion) (policy : Policy) (me : Principal) (i j : ℕ → Bool)
    → AreRuledAlike looker asked one other → AreGroups (seen one) me i → AreGroups (seen other) me j
    → (object : ℕ) (mask : Mask) → Contains (subjects_of (seen one) asked) object
    → GoesFor looker asked one policy me object mask
    → reason_of (made policy me one i) (on object mask) ≡ reason_of (made policy me other j) (on object mask)
reason-both looker asked one other policy me i j alike a b object mask subject goes =
    go (is_groupless (seen one) looker asked object) refl
  where
    only : (P : ℕ → Type 0) → P object → (item k : ℕ) → k < 1 → slice_index_or (object ∷ []) k item ≡ item → P item
    only P p item zero below same = subst P same p
    only P p item (suc k) below same = absurd (omega (arith, below))

    by-head :
        (o : Option Head) → head_of (seen one object) ≡ o → is_groupless (seen one) looker asked object ≡ true
        → option_map (λ head. with_verdict (on object mask) (verdict_on (made policy me one i) head mask)) (head_of (seen one object))
        ≡ option_map (λ head. with_verdict (on object mask) (verdict_on (made policy me other j) head mask)) (head_of (seen one object))
    by-head None e by = rw e refl
    by-head (Some head) e by =
        rw e (ap (λ (v : Verdict). Some (with_verdict (on object mask) v))
        (way_granted (case_on (made policy me one i) head) (entries_on (made policy me one i) head) mask (goes head e by)
        ∙ sym (way_granted (case_on (made policy me other j) head) (entries_on (made policy me other j) head) mask (goes head e by))))

    go :
        (by : Bool) → is_groupless (seen one) looker asked object ≡ by
        → reason_of (made policy me one i) (on object mask) ≡ reason_of (made policy me other j) (on object mask)
    go false by =
        let agree : AgreeOn None (ask.Read object) (bared one) (bared other) =
        agree-bared looker None asked (ask.Read object) one other
        (λ item c. only (Contains (subjects_of (seen one) asked)) subject item c.0 c.1 c.2)
        (λ item c e. only (λ (x : ℕ). is_groupless (seen one) looker asked x ≡ false) by item c.0 c.1 c.2) alike in
        sym (reason-bared policy me one i (on object mask))
        ∙ reason-alike None (ask.Read object) (bared one) (bared other) agree policy me i j
        (groups-alike None (ask.Read object) (bared one) (bared other) agree me i j (groups-bared me one i a)
        (groups-bared me other j b)) object mask (first-of object []) (λ head e none. absurd (both_ways false refl none))
        ∙ reason-bared policy me other j (on object mask)
    go true by =
        let heads : head_of (seen one object) ≡ head_of (seen other object) =
        sym (head-bare (seen one object))
        ∙ ap head_of (bare-alike looker asked one other object alike (Subject object subject))
        ∙ head-bare (seen other object) in
        by-head (head_of (seen one object)) refl by
        ∙ ap (option_map (λ head. with_verdict (on object mask) (verdict_on (made policy me other j) head mask))) heads

-- ---- what is granted

-- READ_ATTRIBUTES is granted alike by each policy, and by all bases of one snapshot
granted-both :
    (policy : Policy) (me : Principal) (rows : List ReadVersion) (i : ℕ → Bool) (child : ℕ) → AreGroups (seen rows) me i
    → is_granted_on (made One me rows i) child READ_ATTRIBUTES
    ≡ is_granted_on (basis_on policy me rows) child READ_ATTRIBUTES
granted-both policy me rows i child groups =
    let j : ℕ → Bool = has_item (groups_found me rows) in
    let other = (basis-based policy me rows).groups in
    let same : i ≡ j =
    λ k number. (same-test (i number) (j number) (λ t. (other.tied number).1 ((groups.tied number).0 t))
    (λ t. (groups.tied number).1 ((other.tied number).0 t))) k in
    ap (λ (is_in : ℕ → Bool). is_granted_on (made One me rows is_in) child READ_ATTRIBUTES) same
    ∙ ap (λ (o : Option Reason). option_map_or (λ (reason : Reason). is_grant reason.verdict) o false)
    (by policy (head_of (seen rows child)))
  where
    two :
        (head : Head)
        → verdict_on (made Two me rows (has_item (groups_found me rows))) head READ_ATTRIBUTES
        ≡ verdict_on (made One me rows (has_item (groups_found me rows))) head READ_ATTRIBUTES
    two head =
        other_bits_same (case_on (made One me rows (has_item (groups_found me rows))) head)
        (entries_on (made One me rows (has_item (groups_found me rows))) head) READ_ATTRIBUTES refl refl

    by :
        (p : Policy) (o : Option Head)
        → option_map
        (λ head. with_verdict (on child READ_ATTRIBUTES)
        (verdict_on (made One me rows (has_item (groups_found me rows))) head READ_ATTRIBUTES))
        o
        ≡ option_map
        (λ head. with_verdict (on child READ_ATTRIBUTES)
        (verdict_on (made p me rows (has_item (groups_found me rows))) head READ_ATTRIBUTES))
        o
    by p None = refl
    by One (Some head) = refl
    by Two (Some head) =
        ap (λ (v : Verdict). Some (with_verdict (on child READ_ATTRIBUTES) v))
        (sym (two head))
    by Three (Some head) =
        ap (λ (v : Verdict). Some (with_verdict (on child READ_ATTRIBUTES) v))
        (sym (three_as_two (case_on (made One me rows (has_item (groups_found me rows))) head)
        (entries_on (made One me rows (has_item (groups_found me rows))) head) READ_ATTRIBUTES ∙ two head))

-- ---- rows

-- the row of a child, by what is said of it and its value
abbrev row-with : ℕ → ℕ → Option Reason → Option (List ℕ) → Option Row
row-with album child reason title =
    option_map (λ title. record { item = child; title = title })
    (if option_map_or (λ (r : Reason). is_grant r.verdict) reason false then title else None)

listed-both :
    (policy : Policy) (me : Principal) (album : ℕ) (one other : List ReadVersion) (i j : ℕ → Bool)
    → AreAlikeFor policy me (ask.List album) one other → AreGroups (seen one) me i → AreGroups (seen other) me j
    → seen one album ≡ seen other album
    → listed (made One me one i) album ≡ listed (made One me other j) album
listed-both policy me album one other i j alike a b same =
    filter-same (row_for (made One me one i) album) (row_for (made One me other j) album) (children_of (seen one album))
    (λ child c. row child (suc c.0, omega (arith, c.1), c.2))
    ∙ ap (λ (v : Value). filter_map (row_for (made One me other j) album) (children_of v)) same
  where
    titles :
        (child : ℕ) (granted : Bool) → is_granted_on (made One me one i) child READ_ATTRIBUTES ≡ granted
        → Contains (subjects_of (seen one) (ask.List album)) child
        → row-with album child (reason_of (made One me one i) (on child READ_ATTRIBUTES))
        (title_in (number_of album) (seen one child))
        ≡ row-with album child (reason_of (made One me one i) (on child READ_ATTRIBUTES))
        (title_in (number_of album) (seen other child))
    titles child false g subject =
        ap (λ (b : Bool). option_map (λ title. record { item = child; title = title })
        (if b then title_in (number_of album) (seen one child) else None)) g
        ∙ sym (ap (λ (b : Bool). option_map (λ title. record { item = child; title = title })
        (if b then title_in (number_of album) (seen other child) else None)) g)
    titles child true g subject =
        let named = Subject child subject in
        let may : IsTrue (is_granted_on (basis_on policy me one) child READ_ATTRIBUTES) =
        sym (granted-both policy me one i child a) ∙ g in
        ap (row-with album child (reason_of (made One me one i) (on child READ_ATTRIBUTES)))
        (title-bare (number_of album) (seen one child)
        ∙ ap (λ (v : Value). title-by (number_of album) v (title_field (seen one child)))
        (bare-alike (looker_of policy me) (ask.List album) one other child alike.ruled named)
        ∙ ap (title-by (number_of album) (bare (seen other child))) (alike.titled child named may)
        ∙ sym (title-bare (number_of album) (seen other child)))

    row :
        (child : ℕ) → Contains (subjects_of (seen one) (ask.List album)) child
        → row_for (made One me one i) album child ≡ row_for (made One me other j) album child
    row child subject =
        titles child (is_granted_on (made One me one i) child READ_ATTRIBUTES) refl subject
        ∙ ap (λ (r : Option Reason). row-with album child r (title_in (number_of album) (seen other child)))
        (reason-both (looker_of policy me) (ask.List album) one other One me i j alike.ruled a b child READ_ATTRIBUTES subject
        (λ head e goes. absurd (both_ways _ (grouped (seen one) (looker_of policy me) (ask.List album) child refl) goes)))

pub rows-alike :
    (policy : Policy) (me : Principal) (album : ℕ) (one other : List ReadVersion) (rows more : List Row)
    → AreAlikeFor policy me (ask.List album) one other
    → IsTrue (is_granted_on (basis_on policy me one) album LIST_DIRECTORY)
    → IsListing (record { looker = looker_of policy me; ask = ask.List album; rows = one }) me rows
    → IsListing (record { looker = looker_of policy me; ask = ask.List album; rows = other }) me more → rows ≡ more
rows-alike policy me album one other rows more alike granted l m =
    let here : album ≡ l.album = cc (l.asked) in
    let there : album ≡ m.album = cc (m.asked) in
    let named : IsNamed (seen one) (looker_of policy me) (ask.List album) album = Subject album (first-of album (children_of (seen one album))) in
    l.rows_are
    ∙ ap (λ (x : ℕ). listed l.basis x) (sym here)
    ∙ ap (λ (b : Basis). listed b album) (basis-made One me one l.basis l.based)
    ∙ listed-both policy me album one other l.basis.is_in m.basis.is_in alike l.based.groups m.based.groups
    (seen-same one other album (alike.read album named granted))
    ∙ ap (λ (b : Basis). listed b album) (sym (basis-made One me other m.basis m.based))
    ∙ ap (λ (x : ℕ). listed m.basis x) there
    ∙ sym m.rows_are
