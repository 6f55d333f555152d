-- On two snapshots that agree on what is named the same is found (`ruling-alike`) and noted (`notes-alike`), for the
-- law
-- `rulings_look_at_what_is_named`. The needs are the same, and each of their objects is a subject.
use Rattle.std.proofs.Common.{◌≡◌, ◌==◌, ◌&&◌, ◌||◌, ◌++◌, ◌+◌, ◌<◌, ℕ, zero, suc, List, [], ◌∷◌, length, get_or, Bool, true, false, not, Option, Some, None, Contains, map, take, position, is_none, is_some, option_map, option_to_list, refl, sym, ap, subst, ◌∙◌, arith, if◌then◌else◌}
use Rattle.std.specs.List.{flat_map, list_any, cons_option}
use Rattle.std.specs.Option.{option_map_or}
use Rattle.std.proofs.lemmas.Bool.{and_from, or_left, or_right, eq-eqb, both_ways}
use Rattle.std.proofs.lemmas.List.Elements.{Contains-append_left, Contains-append_right}
use Rattle.album_access.specs.Bits.{mask_bits, is_within}
use Rattle.album_access.specs.declared.masks.Mask.{Mask}
use Rattle.album_eval.proofs.Giving.{audited-way}
use Rattle.album_eval.specs.Audit.{audited}
use Rattle.album_eval.specs.Matching.{owns}
use Rattle.album_eval.specs.Policies.{has_owners_way, acl_bits, is_owners_way}
use Rattle.album_eval.specs.declared.facts.Principal.{Principal}
use Rattle.album_eval.specs.declared.policies.Policy.{Policy}
use Rattle.album_items.specs.ItemIds.{list, group}
use Rattle.album_items.specs.Values.{head_of, home_of, children_of, entries_of, list_of, head_group_of}
use Rattle.album_items.specs.declared.values.Head.{Head}
use Rattle.album_items.specs.declared.values.Value.{Value}
use Rattle.album_reader.specs.Answers.{ReadVersion}
use Rattle.album_views.proofs.Flaws.{objects_lists, list-shared, group-shared}
use Rattle.album_views.proofs.Ways.{grouped, owner-goes}
use Rattle.album_views.specs.Asks.{objects_of, needs_list_alone}
use Rattle.album_views.specs.ReadSets.{looker_of, IsNamed, subjects_of, is_groupless}
use Rattle.album_views.specs.ReadSets.IsNamed.{Subject, ListOf, HeadGroupOf, GroupInListOf}
use Rattle.album_views.specs.Seen.{seen}
use Rattle.album_views.specs.declared.asks.Ask.{Ask}
use Rattle.album_views.specs.declared.asks.Ask.TheVariants as ask
use Rattle.album_views.specs.declared.asks.NewList.{NewList}
use Rattle.album_views.specs.declared.asks.NewMembership.{NewMembership}
use Rattle.album_listing.specs.Agreement.{AgreeOn}
use Rattle.album_listing.specs.Basis.{Basis, IsBasis}
use Rattle.album_listing.specs.Masks.{WRITE_DATA, DELETE, DELETE_CHILD, READ_ACL, WRITE_ACL}
use Rattle.album_listing.specs.Reasons.{on, case_on, verdict_on, with_verdict, reason_of, is_grant}
use Rattle.album_listing.specs.declared.reasons.Alternative.{Alternative}
use Rattle.album_listing.specs.declared.reasons.Reason.{Reason}
use Rattle.album_listing.proofs.Judging.{first-of, audited-alike}
use Rattle.album_listing.proofs.Looking.{made, basis-made, seen-alike, groups-alike, reason-alike}
use Rattle.album_permits.specs.Findings.{is_missing, missing_in, reasons_of, found_by, need_found, and_then_found, needs_found, ruling_of}
use Rattle.album_permits.specs.Needs.{just, deletion, needs_of}
use Rattle.album_permits.specs.Notes.{note_by, notes_on, notes_for, checked, need_notes, and_then_noted, needs_noted, notes_of}
use Rattle.album_permits.specs.declared.findings.Finding.{Finding}
use Rattle.album_permits.specs.declared.notes.Note.{Note}

-- ---- the objects and masks of needs

-- each alternative of a need is so, and of each need
abbrev AreOn : (ℕ → Mask → Type 0) → List Alternative → Type 0
AreOn P [] = Unit {0}
AreOn P (a ∷ need) = P a.object a.mask × AreOn P need

abbrev AllOn : (ℕ → Mask → Type 0) → List (List Alternative) → Type 0
AllOn P [] = Unit {0}
AllOn P (need ∷ needs) = AreOn P need × AllOn P needs

-- where each object with each mask is so
each-on : (P : ℕ → Mask → Type 0) (need : List Alternative) → ((object : ℕ) (mask : Mask) → P object mask) → AreOn P need
each-on P [] each = tt
each-on P (a ∷ need) each = (each a.object a.mask, each-on P need each)

all-on : (P : ℕ → Mask → Type 0) (needs : List (List Alternative)) → ((object : ℕ) (mask : Mask) → P object mask) → AllOn P needs
all-on P [] each = tt
all-on P (need ∷ needs) each = (each-on P need each, all-on P needs each)

homes-on :
    (P : ℕ → Mask → Type 0) (homes : List ℕ) (mask : Mask) → ((home : ℕ) → Contains homes home → P home mask)
    → AreOn P (map (λ home. on home mask) homes)
homes-on P [] mask each = tt
homes-on P (home ∷ homes) mask each =
    (each home (first-of home homes), homes-on P homes mask (λ x c. each x (suc c.0, omega (arith, c.1), c.2)))

lists-on :
    (P : ℕ → Mask → Type 0) (lists : List NewList)
    → ((object : ℕ) → Contains (map (λ (new : NewList). new.object) lists) object → P object WRITE_ACL)
    → AllOn P (map (λ (new : NewList). just new.object WRITE_ACL) lists)
lists-on P [] each = tt
lists-on P (new ∷ lists) each = (
  (each new.object (first-of new.object (map (λ (new : NewList). new.object) lists)), tt),
  lists-on P lists (λ x c. each x (suc c.0, omega (arith, c.1), c.2)),
)

groups-on :
    (P : ℕ → Mask → Type 0) (members : List NewMembership)
    → ((object : ℕ) → Contains (map (λ (new : NewMembership). new.object) members) object → P object WRITE_DATA)
    → AllOn P (map (λ (new : NewMembership). just new.object WRITE_DATA) members)
groups-on P [] each = tt
groups-on P (new ∷ members) each = (
  (each new.object (first-of new.object (map (λ (new : NewMembership). new.object) members)), tt),
  groups-on P members (λ x c. each x (suc c.0, omega (arith, c.1), c.2)),
)

both-on :
    (P : ℕ → Mask → Type 0) (needs more : List (List Alternative)) → AllOn P needs → AllOn P more → AllOn P (needs ++ more)
both-on P [] more h l = l
both-on P (need ∷ needs) more h l = (h.0, both-on P needs more h.1 l)

-- each object is a subject
abbrev IsOn : List ℕ → ℕ → Mask → Type 0
IsOn subjects object mask = Contains subjects object

deletion-on :
    (lookup : ℕ → Value) (object : ℕ) (firsts : List ℕ) → Contains (firsts ++ home_of (lookup object)) object
    → AreOn (IsOn (firsts ++ home_of (lookup object))) (deletion lookup object)
deletion-on lookup object firsts here = (
  here,
  homes-on (IsOn (firsts ++ home_of (lookup object))) (home_of (lookup object)) DELETE_CHILD
      (λ home c. Contains-append_right firsts (home_of (lookup object)) home c),
)

needs-on : (lookup : ℕ → Value) (asked : Ask) → AllOn (IsOn (subjects_of lookup asked)) (needs_of lookup asked)
needs-on lookup (ask.Read object) = ((first-of object [], tt), tt)
needs-on lookup (ask.List album) = ((first-of album (children_of (lookup album)), tt), tt)
needs-on lookup (ask.GetList object) = ((first-of object [], tt), tt)
needs-on lookup (ask.Head object) = ((first-of object [], tt), tt)
needs-on lookup (ask.Children album) = ((first-of album [], tt), tt)
needs-on lookup (ask.AddPicture album title content) = ((first-of album [], tt), tt)
needs-on lookup (ask.AddAlbum album title) = ((first-of album [], tt), tt)
needs-on lookup (ask.AddGroup album members) = ((first-of album [], tt), tt)
needs-on lookup (ask.Retitle object title) = ((first-of object [], tt), tt)
needs-on lookup (ask.Replace object content) = ((first-of object [], tt), tt)
needs-on lookup (ask.Delete object) =
    (deletion-on lookup object (object ∷ []) (first-of object (home_of (lookup object))), tt)
needs-on lookup (ask.Move object to) = (
  deletion-on lookup object (object ∷ to ∷ []) (first-of object (to ∷ home_of (lookup object))),
  (((1, omega arith, refl), tt), tt),
)
needs-on lookup (ask.SetLists lists) =
    lists-on (IsOn (objects_of (ask.SetLists lists) ++ [])) lists
    (λ object c. Contains-append_left (objects_of (ask.SetLists lists)) [] object
    (subst (λ (xs : List ℕ). Contains xs object) (sym (objects_lists lists)) c))
needs-on lookup (ask.SetOwner object owner number) = ((first-of object [], tt), tt)
needs-on lookup (ask.SetMembers object members) = ((first-of object [], tt), tt)
needs-on lookup (ask.Share lists members) =
    let objects : List ℕ = objects_of (ask.Share lists members) in
    both-on (IsOn (objects ++ [])) (map (λ (new : NewList). just new.object WRITE_ACL) lists)
    (map (λ (new : NewMembership). just new.object WRITE_DATA) members)
    (lists-on (IsOn (objects ++ [])) lists
    (λ object c. Contains-append_left objects [] object (list-shared lists members object c)))
    (groups-on (IsOn (objects ++ [])) members
    (λ object c. Contains-append_left objects [] object (group-shared lists members object c)))

-- ---- the owner's way

-- the object is to have one of the memberships
is-membership :
    (members : List NewMembership) (object : ℕ) → Contains (map (λ (new : NewMembership). new.object) members) object
    → list_any (λ (new : NewMembership). new.object == object) members ≡ true
is-membership [] object c = absurd (omega (arith, c.1))
is-membership (new ∷ members) object c = go (is-membership members object) c.0 c.1 c.2
  where
    rest : Bool
    rest = list_any (λ (new : NewMembership). new.object == object) members

    go :
        (Contains (map (λ (new : NewMembership). new.object) members) object → rest ≡ true)
        → (k : ℕ) → k < length (new.object ∷ map (λ (new : NewMembership). new.object) members)
        → get_or (new.object ∷ map (λ (new : NewMembership). new.object) members) k object ≡ object
        → ((new.object == object) || rest) ≡ true
    go later zero l e = or_left (new.object == object) rest (eq-eqb new.object object e)
    go later (suc k) l e = or_right (new.object == object) rest (later (k, omega (arith, l), e))

module _ (policy : Policy) (me : Principal) (one : List ReadVersion) (i : ℕ → Bool) (asked : Ask) where
  -- who goes the owner's way to the object may ask for the mask by it
  abbrev Goes : ℕ → Mask → Type 0
  Goes object mask =
      (head : Head) → head_of (seen one object) ≡ Some head
      → is_groupless (seen one) (looker_of policy me) asked object ≡ true
      → is_owners_way (case_on (made policy me one i) head) mask ≡ true

  for-lists : (object : ℕ) (mask : Mask) → is_within (mask_bits mask) acl_bits ≡ true → Goes object mask
  for-lists object mask within head e goes =
      let way = owner-goes policy me (seen one) asked object goes in
      let mine : owns me head.owner ≡ true =
      subst (λ (o : Option Head). option_map_or (λ (head : Head). owns me head.owner) o false ≡ true) e way.1 in
      and_from (has_owners_way policy && owns me head.owner) (is_within (mask_bits mask) acl_bits)
      (and_from (has_owners_way policy) (owns me head.owner) way.0 mine) within

  for-more : (object : ℕ) (mask : Mask) → needs_list_alone asked object ≡ false → Goes object mask
  for-more object mask more head e goes =
      absurd (both_ways (is_groupless (seen one) (looker_of policy me) asked object)
      (grouped (seen one) (looker_of policy me) asked object more) goes)

needs-go :
    (policy : Policy) (me : Principal) (one : List ReadVersion) (i : ℕ → Bool) (asked : Ask)
    → AllOn (Goes policy me one i asked) (needs_of (seen one) asked)
needs-go policy me one i (ask.Read object) = all-on _ (needs_of (seen one) (ask.Read object)) (λ o m. for-more policy me one i (ask.Read object) o m refl)
needs-go policy me one i (ask.List album) = all-on _ (needs_of (seen one) (ask.List album)) (λ o m. for-more policy me one i (ask.List album) o m refl)
needs-go policy me one i (ask.GetList object) = ((for-lists policy me one i (ask.GetList object) object READ_ACL refl, tt), tt)
needs-go policy me one i (ask.Head object) =
    all-on _ (needs_of (seen one) (ask.Head object)) (λ o m. for-more policy me one i (ask.Head object) o m refl)
needs-go policy me one i (ask.Children album) =
    all-on _ (needs_of (seen one) (ask.Children album)) (λ o m. for-more policy me one i (ask.Children album) o m refl)
needs-go policy me one i (ask.AddPicture album title content) =
    all-on _ (needs_of (seen one) (ask.AddPicture album title content)) (λ o m. for-more policy me one i (ask.AddPicture album title content) o m refl)
needs-go policy me one i (ask.AddAlbum album title) =
    all-on _ (needs_of (seen one) (ask.AddAlbum album title)) (λ o m. for-more policy me one i (ask.AddAlbum album title) o m refl)
needs-go policy me one i (ask.AddGroup album members) = ((for-lists policy me one i (ask.AddGroup album members) album WRITE_ACL refl, tt), tt)
needs-go policy me one i (ask.Retitle object title) =
    all-on _ (needs_of (seen one) (ask.Retitle object title)) (λ o m. for-more policy me one i (ask.Retitle object title) o m refl)
needs-go policy me one i (ask.Replace object content) =
    all-on _ (needs_of (seen one) (ask.Replace object content)) (λ o m. for-more policy me one i (ask.Replace object content) o m refl)
needs-go policy me one i (ask.Delete object) =
    all-on _ (needs_of (seen one) (ask.Delete object)) (λ o m. for-more policy me one i (ask.Delete object) o m refl)
needs-go policy me one i (ask.Move object to) =
    all-on _ (needs_of (seen one) (ask.Move object to)) (λ o m. for-more policy me one i (ask.Move object to) o m refl)
needs-go policy me one i (ask.SetLists lists) =
    lists-on _ lists (λ object c. for-lists policy me one i (ask.SetLists lists) object WRITE_ACL refl)
needs-go policy me one i (ask.SetOwner object owner number) =
    all-on _ (needs_of (seen one) (ask.SetOwner object owner number)) (λ o m. for-more policy me one i (ask.SetOwner object owner number) o m refl)
needs-go policy me one i (ask.SetMembers object members) =
    all-on _ (needs_of (seen one) (ask.SetMembers object members)) (λ o m. for-more policy me one i (ask.SetMembers object members) o m refl)
needs-go policy me one i (ask.Share lists members) =
    both-on _ (map (λ (new : NewList). just new.object WRITE_ACL) lists)
    (map (λ (new : NewMembership). just new.object WRITE_DATA) members)
    (lists-on _ lists (λ object c. for-lists policy me one i (ask.Share lists members) object WRITE_ACL refl))
    (groups-on _ members
    (λ object c. for-more policy me one i (ask.Share lists members) object WRITE_DATA (ap not (is-membership members object c))))

-- both are so of each alternative
abbrev And : (P Q : ℕ → Mask → Type 0) → ℕ → Mask → Type 0
And P Q object mask = P object mask × Q object mask

are-both : (P Q : ℕ → Mask → Type 0) (need : List Alternative) → AreOn P need → AreOn Q need → AreOn (And P Q) need
are-both P Q [] h l = tt
are-both P Q (a ∷ need) h l = ((h.0, l.0), are-both P Q need h.1 l.1)

all-both : (P Q : ℕ → Mask → Type 0) (needs : List (List Alternative)) → AllOn P needs → AllOn Q needs → AllOn (And P Q) needs
all-both P Q [] h l = tt
all-both P Q (need ∷ needs) h l = (are-both P Q need h.0 l.0, all-both P Q needs h.1 l.1)

-- ---- the objects and masks of reasons

abbrev ReasonsOn : (ℕ → Mask → Type 0) → List Reason → Type 0
ReasonsOn P [] = Unit {0}
ReasonsOn P (r ∷ rs) = P r.object r.mask × ReasonsOn P rs

reasons-on :
    (P : ℕ → Mask → Type 0) (basis : Basis) (need : List Alternative) → AreOn P need → ReasonsOn P (reasons_of basis need)
reasons-on P basis [] all = tt
reasons-on P basis (a ∷ need) all = go (head_of (basis.seen a.object)) (reasons-on P basis need all.1)
  where
    go :
        (o : Option Head) → ReasonsOn P (reasons_of basis need)
        → ReasonsOn P
        (cons_option (option_map (λ head. with_verdict a (verdict_on basis head a.mask)) o) (reasons_of basis need))
    go None rest = rest
    go (Some head) rest = (all.0, rest)

take-on : (P : ℕ → Mask → Type 0) (n : ℕ) (rs : List Reason) → ReasonsOn P rs → ReasonsOn P (take n rs)
take-on P zero rs all = tt
take-on P (suc n) [] all = tt
take-on P (suc n) (r ∷ rs) all = (all.0, take-on P n rs all.1)

checked-on : (P : ℕ → Mask → Type 0) (rs : List Reason) → ReasonsOn P rs → ReasonsOn P (checked rs)
checked-on P rs all = go (position (λ (reason : Reason). is_grant reason.verdict) rs)
  where
    go : (o : Option ℕ) → ReasonsOn P (option_map_or (λ index. take (index + 1) rs) o rs)
    go None = all
    go (Some index) = take-on P (index + 1) rs all

-- ---- on two snapshots

module _ (looker : Option Principal) (asked : Ask) (one other : List ReadVersion) (agree : AgreeOn looker asked one other) where
  needs-alike : (a : Ask) → ((item : ℕ) → Contains (subjects_of (seen one) a) item → seen one item ≡ seen other item) → needs_of (seen one) a ≡ needs_of (seen other) a
  needs-alike (ask.Read object) same = refl
  needs-alike (ask.List album) same = refl
  needs-alike (ask.GetList object) same = refl
  needs-alike (ask.Head object) same = refl
  needs-alike (ask.Children album) same = refl
  needs-alike (ask.AddPicture album title content) same = refl
  needs-alike (ask.AddAlbum album title) same = refl
  needs-alike (ask.AddGroup album members) same = refl
  needs-alike (ask.Retitle object title) same = refl
  needs-alike (ask.Replace object content) same = refl
  needs-alike (ask.Delete object) same =
      ap (λ (v : Value). (on object DELETE ∷ map (λ home. on home DELETE_CHILD) (home_of v)) ∷ [])
      (same object (first-of object (home_of (seen one object))))
  needs-alike (ask.Move object to) same =
      ap (λ (v : Value). (on object DELETE ∷ map (λ home. on home DELETE_CHILD) (home_of v)) ∷ needs_of (seen one) (ask.AddPicture to [] []))
      (same object (first-of object (to ∷ home_of (seen one object))))
  needs-alike (ask.SetLists lists) same = refl
  needs-alike (ask.SetOwner object owner number) same = refl
  needs-alike (ask.SetMembers object members) same = refl
  needs-alike (ask.Share lists members) same = refl

  module _ (policy : Policy) (me : Principal) (i j : ℕ → Bool) (same : (number : ℕ) → IsNamed (seen one) looker asked (group number) → i number ≡ j number) where
    abbrev left : Basis
    left = made policy me one i

    abbrev right : Basis
    right = made policy me other j

    -- each is of a subject, and of one that the owner's way leads to only where it may be asked for so
    abbrev Of : ℕ → Mask → Type 0
    Of =
        And (IsOn (subjects_of (seen one) asked))
        (λ object mask.
        (head : Head) → head_of (seen one object) ≡ Some head → is_groupless (seen one) looker asked object ≡ true
        → is_owners_way (case_on left head) mask ≡ true)

    missing-alike :
        (need : List Alternative) → AreOn Of need
        → missing_in left need ≡ missing_in right need
    missing-alike [] all = refl
    missing-alike (a ∷ need) all =
        let e : is_missing left a.object ≡ is_missing right a.object =
        ap (λ (v : Value). is_none (head_of v)) (seen-alike looker asked one other agree a.object (Subject a.object all.0.0)) in
        rw (e, missing-alike need all.1) refl

    reasons-alike :
        (need : List Alternative) → AreOn Of need
        → reasons_of left need ≡ reasons_of right need
    reasons-alike [] all = refl
    reasons-alike (a ∷ need) all =
        ap (λ (r : Option Reason). cons_option r (reasons_of left need))
        (reason-alike looker asked one other agree policy me i j same a.object a.mask all.0.0 all.0.1)
        ∙ ap (cons_option (reason_of right a)) (reasons-alike need all.1)

    found-alike :
        (need : List Alternative) → AreOn Of need → need_found left need ≡ need_found right need
    found-alike need all =
        ap (λ (o : Option ℕ). found_by o (reasons_of left need)) (missing-alike need all)
        ∙ ap (found_by (missing_in right need)) (reasons-alike need all)

    all-found-alike :
        (needs : List (List Alternative)) → AllOn Of needs
        → needs_found left needs ≡ needs_found right needs
    all-found-alike [] all = refl
    all-found-alike (need ∷ needs) all =
        ap (λ (f : Finding). and_then_found f (needs_found left needs)) (found-alike need all.0)
        ∙ ap (and_then_found (need_found right need)) (all-found-alike needs all.1)

    -- the notes of one reason
    on-alike :
        (r : Reason) (head : Head) → Of r.object r.mask
        → head_of (seen one r.object) ≡ Some head → notes_on left r head ≡ notes_on right r head
    on-alike r head so e =
        ap (λ (is : List ℕ). map (note_by r (entries_of (seen one (list head.list)))) is)
        (audits (is_groupless (seen one) looker asked r.object) refl)
        ∙ ap (λ (v : Value). map (note_by r (entries_of v)) (audited (case_on right head) r.mask (is_grant r.verdict) (entries_of v)))
        (seen-alike looker asked one other agree (list head.list) (ListOf r.object (list head.list) so.0 lists))
      where
        lists : Contains (list_of (seen one r.object)) (list head.list)
        lists =
            subst (λ (o : Option Head). Contains (option_to_list (option_map (λ (h : Head). list h.list) o)) (list head.list)) (sym e)
            (first-of (list head.list) [])

        groups : Contains (head_group_of (seen one r.object)) (group head.group)
        groups =
            subst (λ (o : Option Head). Contains (option_to_list (option_map (λ (h : Head). group h.group) o)) (group head.group))
            (sym e) (first-of (group head.group) [])

        audits :
            (by : Bool) → is_groupless (seen one) looker asked r.object ≡ by
            → audited (case_on left head) r.mask (is_grant r.verdict) (entries_of (seen one (list head.list)))
            ≡ audited (case_on right head) r.mask (is_grant r.verdict) (entries_of (seen one (list head.list)))
        audits false by =
            audited-alike policy me head.owner head.group i j r.mask (is_grant r.verdict) (entries_of (seen one (list head.list)))
            (same head.group (HeadGroupOf r.object (group head.group) so.0 by groups))
            (λ number c. same number (GroupInListOf r.object (list head.list) (group number) so.0 by lists c))
        audits true by =
            audited-way (case_on right head) i r.mask (is_grant r.verdict) (so.1 head e by) (entries_of (seen one (list head.list)))

    for-alike :
        (r : Reason) → Of r.object r.mask → notes_for left r ≡ notes_for right r
    for-alike r so =
        go (head_of (seen one r.object)) refl
        ∙ ap (λ (v : Value). flat_map (notes_on right r) (option_to_list (head_of v)))
        (seen-alike looker asked one other agree r.object (Subject r.object so.0))
      where
        go :
            (o : Option Head) → head_of (seen one r.object) ≡ o
            → flat_map (notes_on left r) (option_to_list (head_of (seen one r.object)))
            ≡ flat_map (notes_on right r) (option_to_list (head_of (seen one r.object)))
        go None e = rw e refl
        go (Some head) e = rw e (ap (λ (ns : List Note). ns ++ []) (on-alike r head so e))

    each-alike :
        (rs : List Reason) → ReasonsOn Of rs
        → flat_map (notes_for left) rs ≡ flat_map (notes_for right) rs
    each-alike [] all = refl
    each-alike (r ∷ rs) all =
        ap (λ (ns : List Note). ns ++ flat_map (notes_for left) rs) (for-alike r all.0)
        ∙ ap (λ (ns : List Note). notes_for right r ++ ns) (each-alike rs all.1)

    noted-alike :
        (need : List Alternative) → AreOn Of need → need_notes left need ≡ need_notes right need
    noted-alike need all =
        ap (λ (o : Option ℕ). if is_some o then [] else flat_map (notes_for left) (checked (reasons_of left need)))
        (missing-alike need all)
        ∙ ap (λ (ns : List Note). if is_some (missing_in right need) then [] else ns)
        (each-alike (checked (reasons_of left need))
        (checked-on Of (reasons_of left need) (reasons-on Of left need all))
        ∙ ap (λ (rs : List Reason). flat_map (notes_for right) (checked rs)) (reasons-alike need all))

    all-noted-alike :
        (needs : List (List Alternative)) → AllOn Of needs
        → needs_noted left needs ≡ needs_noted right needs
    all-noted-alike [] all = refl
    all-noted-alike (need ∷ needs) all =
        ap (λ (f : Finding). and_then_noted f (need_notes left need) (needs_noted left needs)) (found-alike need all.0)
        ∙ ap (λ (ns : List Note). and_then_noted (need_found right need) ns (needs_noted left needs)) (noted-alike need all.0)
        ∙ ap (and_then_noted (need_found right need) (need_notes right need)) (all-noted-alike needs all.1)

-- ---- any two bases

needs-same :
    (looker : Option Principal) (asked : Ask) (one other : List ReadVersion) → AgreeOn looker asked one other
    → needs_of (seen one) asked ≡ needs_of (seen other) asked
needs-same looker asked one other agree =
    needs-alike looker asked one other agree asked (λ item c. seen-alike looker asked one other agree item (Subject item c))

all-of :
    (policy : Policy) (me : Principal) (asked : Ask) (one : List ReadVersion) (i : ℕ → Bool)
    → AllOn (And (IsOn (subjects_of (seen one) asked)) (Goes policy me one i asked)) (needs_of (seen one) asked)
all-of policy me asked one i =
    all-both (IsOn (subjects_of (seen one) asked)) (Goes policy me one i asked) (needs_of (seen one) asked)
    (needs-on (seen one) asked) (needs-go policy me one i asked)

pub ruling-alike :
    (policy : Policy) (me : Principal) (asked : Ask) (one other : List ReadVersion) (b c : Basis)
    → AgreeOn (looker_of policy me) asked one other
    → IsBasis policy me one b → IsBasis policy me other c → ruling_of b asked ≡ ruling_of c asked
ruling-alike policy me asked one other b c agree l m =
    let looker = looker_of policy me in
    let same = groups-alike looker asked one other agree me b.is_in c.is_in l.groups m.groups in
    ap (λ (x : Basis). ruling_of x asked) (basis-made policy me one b l)
    ∙ all-found-alike looker asked one other agree policy me b.is_in c.is_in same (needs_of (seen one) asked)
    (all-of policy me asked one b.is_in)
    ∙ ap (needs_found (made policy me other c.is_in)) (needs-same looker asked one other agree)
    ∙ ap (λ (x : Basis). ruling_of x asked) (sym (basis-made policy me other c m))

pub notes-alike :
    (policy : Policy) (me : Principal) (asked : Ask) (one other : List ReadVersion) (b c : Basis)
    → AgreeOn (looker_of policy me) asked one other
    → IsBasis policy me one b → IsBasis policy me other c → notes_of b asked ≡ notes_of c asked
notes-alike policy me asked one other b c agree l m =
    let looker = looker_of policy me in
    let same = groups-alike looker asked one other agree me b.is_in c.is_in l.groups m.groups in
    ap (λ (x : Basis). notes_of x asked) (basis-made policy me one b l)
    ∙ all-noted-alike looker asked one other agree policy me b.is_in c.is_in same (needs_of (seen one) asked)
    (all-of policy me asked one b.is_in)
    ∙ ap (needs_noted (made policy me other c.is_in)) (needs-same looker asked one other agree)
    ∙ ap (λ (x : Basis). notes_of x asked) (sym (basis-made policy me other c m))
