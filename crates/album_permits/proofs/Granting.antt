-- What a permit writes of what it does not make is a granted change (`effect-granted`), and what it is served is granted
-- (`picture-granted`, `group-granted`, `rows-granted`, `entries-granted`), for the laws `what_changes_is_granted` and
-- `what_is_served_is_granted`.
use Rattle.std.proofs.Common.{◌≡◌, ◌⊎◌, ◌==◌, ◌++◌, ◌<◌, ◌&&◌, ◌||◌, ℕ, zero, suc, List, [], ◌∷◌, length, Bool, true, false, not, Some, Contains, IsTrue, map, inl, inr, refl, sym, ap, subst, ◌∙◌, arith}
use Rattle.std.specs.List.{list_any, list_all, flat_map, slice_index_or}
use Rattle.std.proofs.lemmas.Bool.{and_parts, or_left, not-true, both_ways, eqb-true}
use Rattle.std.proofs.lemmas.List.Folds.{list_all-append}
use Rattle.album_access.specs.declared.masks.Mask.{Mask}
use Rattle.album_eval.specs.declared.facts.Principal.{Principal}
use Rattle.album_lists.specs.declared.lists.Ace.{Ace}
use Rattle.album_lists.specs.declared.whos.Member.{Member}
use Rattle.album_items.specs.ItemBack.{kind_of-item}
use Rattle.album_items.specs.ItemIds.{picture, album, list, kind_of, number_of}
use Rattle.album_items.specs.Values.{home_of, children_of, list_of, members_of}
use Rattle.album_items.specs.declared.values.Value.{Value}
use Rattle.album_items.specs.declared.values.Value.TheVariants as value
use Rattle.album_views.proofs.Flaws.{no_flaw}
use Rattle.album_views.specs.Asks.{made_by}
use Rattle.album_views.specs.Checks.{has_kinds, has_single_objects}
use Rattle.album_views.specs.Seen.{seen}
use Rattle.album_views.specs.declared.asks.Ask.{Ask}
use Rattle.album_views.specs.declared.asks.Ask.TheVariants as ask
use Rattle.album_views.specs.declared.asks.NewList.{NewList}
use Rattle.album_views.specs.declared.asks.NewMembership.{NewMembership}
use Rattle.album_listing.specs.Basis.{Basis}
use Rattle.album_listing.specs.GroupsFound.{basis_on}
use Rattle.album_listing.specs.Masks.{READ_DATA, WRITE_DATA, LIST_DIRECTORY, ADD_FILE, ADD_SUBDIRECTORY, DELETE_CHILD, READ_ATTRIBUTES, WRITE_ATTRIBUTES, DELETE, READ_ACL, WRITE_ACL, WRITE_OWNER}
use Rattle.album_listing.specs.Reasons.{on, is_granted_on}
use Rattle.album_listing.specs.ViewLookups.{stamp_seen, stamp_named, list_named, entries_named}
use Rattle.album_listing.specs.Fields.{title_field, content_field}
use Rattle.album_listing.specs.declared.reasons.Alternative.{Alternative}
use Rattle.album_listing.specs.declared.rows.Row.{Row}
use Rattle.album_listing.proofs.GroupsFoundLemmas.{basis-based}
use Rattle.album_permits.specs.Attributes.{attributes_of}
use Rattle.album_permits.specs.Changes.{with_title, with_content, with_home, with_owner, with_members, with_children, without_child, with_child}
use Rattle.album_permits.specs.Effects.{Write, list_dropped, taken_out, list_written, members_written, written, effect_of}
use Rattle.album_permits.specs.Findings.{is_missing}
use Rattle.album_permits.specs.Meaning.{is_need_met, has_needs_met}
use Rattle.album_permits.specs.Needs.{just, deletion}
use Rattle.album_permits.specs.Permits.{PermitState, IsPermit}
use Rattle.album_permits.specs.Rights.{is_granted_to, may_delete, IsNew, IsRewritten, IsGrantedChange}
use Rattle.album_permits.specs.Serving.{read_of, IsServed, IsServedFor}
use Rattle.album_permits.specs.declared.attributes.Attributes.{Attributes}
use Rattle.album_permits.specs.declared.attributes.Attributes.TheVariants as attributes
use Rattle.album_permits.specs.declared.serving.Served.TheVariants as served
use Rattle.album_permits.proofs.Agreeing.{ruling-alike}
use Rattle.album_permits.proofs.Changing.{IsHeaded, MayGain, MayLose, granted-change, titled, refilled, remembered, reowned, rehomed, with-child, without-child}
use Rattle.album_permits.proofs.Elements.{Each, each-append, each-one, each-mapped, each-fold}
use Rattle.album_permits.proofs.Meeting.{granted-met}
use Rattle.album_permits.proofs.Transacting.{no-flaw-of}

-- what is ruled on for a permit
abbrev pub basis_for : PermitState → Basis
basis_for permit = basis_on permit.policy permit.principal permit.view.rows

-- each need of a permit's ask is met
pub needs-met : (permit : PermitState) → IsPermit permit → has_needs_met (basis_for permit) permit.view.ask ≡ true
needs-met permit kept =
    (granted-met (basis_for permit) permit.view.ask).0
    (sym (ruling-alike permit.policy permit.principal permit.view.ask permit.view.rows permit.view.rows kept.basis
    (basis_for permit) (record { same = λ item named. refl }) kept.based
    (basis-based permit.policy permit.principal permit.view.rows))
    ∙ kept.granted)

-- ---- what a met need means

-- one mask on one object
just-met :
    (basis : Basis) (object : ℕ) (mask : Mask) → is_need_met basis (just object mask) ≡ true
    → IsHeaded (basis.seen object) × (is_granted_on basis object mask ≡ true)
just-met basis object mask met =
    let parts = and_parts (not (is_missing basis object) && true) (is_granted_on basis object mask || false) met in
    let there = and_parts (not (is_missing basis object)) true parts.0 in
    (not-true (is_missing basis object) there.0, one (is_granted_on basis object mask) parts.1)
  where
    one : (b : Bool) → (b || false) ≡ true → b ≡ true
    one true e = refl
    one false e = e

pub only-met :
    (basis : Basis) (object : ℕ) (mask : Mask) → (is_need_met basis (just object mask) && true) ≡ true
    → IsHeaded (basis.seen object) × (is_granted_on basis object mask ≡ true)
only-met basis object mask met = just-met basis object mask (and_parts (is_need_met basis (just object mask)) true met).0

-- DELETE on the picture, or DELETE_CHILD on its home: which is there too
record IsDeleted (permit : PermitState) (object : ℕ) : Type 0 where
  headed : IsHeaded (seen permit.view.rows object)
  granted : may_delete permit object ≡ true
  home :
      (home : ℕ) → Contains (home_of (seen permit.view.rows object)) home
      → IsHeaded (seen permit.view.rows home) × MayLose permit home object

-- a picture has one home
housed :
    (permit : PermitState) (object number : ℕ) → home_of (seen permit.view.rows object) ≡ album number ∷ []
    → is_need_met (basis_for permit) (on object DELETE ∷ on (album number) DELETE_CHILD ∷ []) ≡ true
    → IsDeleted permit object
housed permit object number same met =
    let gone = is_missing (basis_for permit) object in
    let homeless = is_missing (basis_for permit) (album number) in
    let may = is_granted_to permit object DELETE || (is_granted_to permit (album number) DELETE_CHILD || false) in
    let parts = and_parts (not gone && (not homeless && true)) may met in
    let there = and_parts (not gone) (not homeless && true) parts.0 in
    let home = not-true homeless (and_parts (not homeless) true there.1).0 in
    record {
      headed = not-true gone there.0;
      granted = subst
          (λ (homes : List ℕ). (is_granted_to permit object DELETE
          || list_any (λ h. is_granted_to permit h DELETE_CHILD) homes)
          ≡ true)
          (sym same) parts.1;
      home = λ h c. at h home parts.1 (subst (λ (homes : List ℕ). Contains homes h) same c);
    }
  where
    either : (a b : Bool) → (a || (b || false)) ≡ true → (a ≡ true) ⊎ (b ≡ true)
    either true b e = inl refl
    either false true e = inr refl
    either false false e = absurd (both_ways false refl e)

    one : (h k : ℕ) → k < 1 → slice_index_or (album number ∷ []) k h ≡ h → album number ≡ h
    one h zero below same = same
    one h (suc k) below same = absurd (omega (arith, below))

    at :
        (h : ℕ) → IsHeaded (seen permit.view.rows (album number))
        → (is_granted_to permit object DELETE || (is_granted_to permit (album number) DELETE_CHILD || false)) ≡ true
        → Contains (album number ∷ []) h → IsHeaded (seen permit.view.rows h) × MayLose permit h object
    at h there met c =
        subst (λ (i : ℕ). IsHeaded (seen permit.view.rows i) × MayLose permit i object) (one h c.0 c.1 c.2)
        (there, either (is_granted_to permit object DELETE) (is_granted_to permit (album number) DELETE_CHILD) met)

-- what is no picture has none
homeless :
    (permit : PermitState) (object : ℕ) → home_of (seen permit.view.rows object) ≡ []
    → is_need_met (basis_for permit) (on object DELETE ∷ []) ≡ true → IsDeleted permit object
homeless permit object same met =
    let parts = just-met (basis_for permit) object DELETE met in
    record {
      headed = parts.0;
      granted = subst
          (λ (homes : List ℕ). (is_granted_to permit object DELETE
          || list_any (λ h. is_granted_to permit h DELETE_CHILD) homes)
          ≡ true)
          (sym same) (or_left (is_granted_to permit object DELETE) false parts.1);
      home = λ h c. absurd (none h (subst (λ (homes : List ℕ). Contains homes h) same c));
    }
  where
    none : (h : ℕ) → Contains [] h → ⊥
    none h c = omega (arith, c.1)

abbrev deletion_of : ℕ → Value → List Alternative
deletion_of object v = on object DELETE ∷ map (λ home. on home DELETE_CHILD) (home_of v)

deletion-met :
    (permit : PermitState) (object : ℕ)
    → is_need_met (basis_for permit) (deletion (seen permit.view.rows) object) ≡ true → IsDeleted permit object
deletion-met permit object met = go (seen permit.view.rows object) refl met
  where
    go :
        (v : Value) → seen permit.view.rows object ≡ v → is_need_met (basis_for permit) (deletion_of object v) ≡ true
        → IsDeleted permit object
    go value.Missing same met = homeless permit object (ap home_of same) met
    go (value.Picture x) same met = housed permit object x.home (ap home_of same) met
    go (value.Album x) same met = homeless permit object (ap home_of same) met
    go (value.List x) same met = homeless permit object (ap home_of same) met
    go (value.Group x) same met = homeless permit object (ap home_of same) met

-- ---- what is written

module _ (permit : PermitState) (stamp : ℕ) where
  abbrev shown : ℕ → Value
  shown = seen permit.view.rows

  -- a write of what is there already, that is granted
  abbrev IsGranted : Write → Type 0
  IsGranted write = IsGrantedChange permit write.0 (shown write.0) write.1

  -- or a write of something new, by an ask that makes it
  abbrev IsRight : Ask → Write → Type 0
  IsRight asked write =
      Contains (made_by asked stamp) write.0 ⊎ IsGranted write

  right : (asked : Ask) (writes : List Write) → Each IsGranted writes → Each (IsRight asked) writes
  right asked [] all = tt
  right asked (w ∷ ws) all = (inr all.0, right asked ws all.1)

  vanishes :
      (object item : ℕ) → (object ≡ item) ⊎ Contains (list_of (shown object)) item → may_delete permit object ≡ true
      → IsGranted (item, value.Missing)
  vanishes object item whose granted =
      record {
        gone = λ e. record { object = object; whose = whose; granted = granted };
        entries = λ entries e. absurd (cc);
        own_list = λ number c. absurd (none number c);
        head = λ lacks head e. absurd (cc);
        title = λ lacks title e. absurd (cc);
        content = λ lacks content e. absurd (cc);
        members = λ lacks members e. absurd (cc);
        home = λ lacks home c. absurd (none home c);
        new_home = λ home lacks c. absurd (none home c);
        album_home = λ home e. absurd (cc);
        picture_gained = λ lacks child kind c. absurd (none child c);
        other_gained = λ lacks child kind c. absurd (none child c);
        lost = λ lacks child lacks_it album e c. absurd (cc);
      }
    where
      none : (x : ℕ) → Contains [] x → ⊥
      none x c = omega (arith, c.1)

  is-listed :
      (object item : ℕ) (entries : List Ace) → Contains (list_of (shown object)) item
      → is_granted_to permit object WRITE_ACL ≡ true → IsGranted (item, value.List entries)
  is-listed object item entries whose granted =
      record {
        gone = λ e. absurd (cc);
        entries = λ entries e. record { object = object; whose = whose; granted = granted };
        own_list = λ number c. absurd (none number c);
        head = λ lacks head e. absurd (cc);
        title = λ lacks title e. absurd (cc);
        content = λ lacks content e. absurd (cc);
        members = λ lacks members e. absurd (cc);
        home = λ lacks home c. absurd (none home c);
        new_home = λ home lacks c. absurd (none home c);
        album_home = λ home e. absurd (cc);
        picture_gained = λ lacks child kind c. absurd (none child c);
        other_gained = λ lacks child kind c. absurd (none child c);
        lost = λ lacks child lacks_it album e c. absurd (cc);
      }
    where
      none : (x : ℕ) → Contains [] x → ⊥
      none x c = omega (arith, c.1)

  lists-right :
      (lists : List NewList)
      → list_all (is_need_met (basis_for permit)) (map (λ (new : NewList). just new.object WRITE_ACL) lists) ≡ true
      → Each IsGranted (flat_map (list_written shown) lists)
  lists-right [] met = tt
  lists-right (new ∷ lists) met =
      let parts = and_parts (is_need_met (basis_for permit) (just new.object WRITE_ACL)) _ met in
      let granted = (just-met (basis_for permit) new.object WRITE_ACL parts.0).1 in
      each-append IsGranted (list_written shown new) (flat_map (list_written shown) lists)
      (each-mapped IsGranted (λ item. value.List new.list) (list_of (shown new.object))
      (λ item c. is-listed new.object item new.list c granted))
      (lists-right lists parts.1)

  members-right :
      (members : List NewMembership)
      → list_all (is_need_met (basis_for permit)) (map (λ (new : NewMembership). just new.object WRITE_DATA) members) ≡ true
      → Each IsGranted (map (members_written shown) members)
  members-right [] met = tt
  members-right (new ∷ members) met =
      let parts = and_parts (is_need_met (basis_for permit) (just new.object WRITE_DATA)) _ met in
      let granted = just-met (basis_for permit) new.object WRITE_DATA parts.0 in (
        granted-change permit new.object (shown new.object) (with_members new.members (shown new.object))
            (remembered permit new.object new.members (shown new.object) granted.0 granted.1),
        members-right members parts.1,
      )

  out-right : (object : ℕ) → IsDeleted permit object → Each IsGranted (taken_out shown object)
  out-right object may =
      each-mapped IsGranted (λ home. without_child object (shown home)) (home_of (shown object))
      (λ home c.
      let here = may.home home c in
      granted-change permit home (shown home) (without_child object (shown home))
      (without-child permit home object (shown home) here.0 here.1))

  gains :
      (child into : ℕ) → IsHeaded (shown into) → MayGain permit into child → IsGranted (into, with_child child (shown into))
  gains child into headed may =
      granted-change permit into (shown into) (with_child child (shown into))
      (with-child permit into child (shown into) headed may)

  -- the kinds of what is moved
  moved-kinds :
      (object to : ℕ) → has_kinds (ask.Move object to) ≡ true → (kind_of object ≡ 0) × (album (number_of to) ≡ to)
  moved-kinds object to kinds =
      let parts = and_parts (0 == kind_of object || false) _ kinds in
      let second = and_parts (1 == kind_of to || false) true parts.1 in
      let one : 0 ≡ kind_of object = eqb-true 0 (kind_of object) (only (0 == kind_of object) parts.0) in
      let other : 1 ≡ kind_of to = eqb-true 1 (kind_of to) (only (1 == kind_of to) second.0) in
      (sym one, omega (arith, other))
    where
      only : (b : Bool) → (b || false) ≡ true → b ≡ true
      only true e = refl
      only false e = e

  written-right :
      (me : Principal) (asked : Ask) → has_needs_met (basis_for permit) asked ≡ true → has_kinds asked ≡ true
      → Each (IsRight asked) (written shown me stamp asked)
  written-right me (ask.Read object) met kinds = tt
  written-right me (ask.List object) met kinds = tt
  written-right me (ask.GetList object) met kinds = tt
  written-right me (ask.Head object) met kinds = tt
  written-right me (ask.Children album) met kinds = tt
  written-right me (ask.AddPicture into title content) met kinds =
      let granted = only-met (basis_for permit) into ADD_FILE met in (
        inl (0, omega arith, refl),
        (
          inl (1, omega arith, refl),
          (
            inr (gains (picture stamp) into granted.0 (inl (kind_of-item 0 stamp (omega arith), granted.1))),
            tt,
          ),
        ),
      )
  written-right me (ask.AddAlbum into title) met kinds =
      let granted = only-met (basis_for permit) into ADD_SUBDIRECTORY met in
      let other : kind_of (album stamp) ≡ 0 → ⊥ = λ e. omega (arith, e, kind_of-item 1 stamp (omega arith)) in (
        inl (0, omega arith, refl),
        (
          inl (1, omega arith, refl),
          (inr (gains (album stamp) into granted.0 (inr (other, granted.1))), tt),
        ),
      )
  written-right me (ask.AddGroup into members) met kinds =
      (inl (0, omega arith, refl), (inl (1, omega arith, refl), tt))
  written-right me (ask.Retitle object title) met kinds =
      let granted = only-met (basis_for permit) object WRITE_ATTRIBUTES met in (
        inr (granted-change permit object (shown object) (with_title title (shown object))
            (titled permit object title (shown object) granted.0 granted.1)),
        tt,
      )
  written-right me (ask.Replace object content) met kinds =
      let granted = only-met (basis_for permit) object WRITE_DATA met in (
        inr (granted-change permit object (shown object) (with_content content (shown object))
            (refilled permit object content (shown object) granted.0 granted.1)),
        tt,
      )
  written-right me (ask.Delete object) met kinds =
      let may = deletion-met permit object (and_parts (is_need_met (basis_for permit) (deletion shown object)) true met).0
      in (
        inr (vanishes object object (inl refl) may.granted),
        right (ask.Delete object) (list_dropped shown object ++ taken_out shown object)
            (each-append IsGranted (list_dropped shown object) (taken_out shown object)
            (each-mapped IsGranted (λ item. value.Missing) (list_of (shown object))
            (λ item c. vanishes object item (inr c) may.granted))
            (out-right object may)),
      )
  written-right me (ask.Move object to) met kinds =
      let parts = and_parts (is_need_met (basis_for permit) (deletion shown object)) _ met in
      let may = deletion-met permit object parts.0 in
      let granted = only-met (basis_for permit) to ADD_FILE parts.1 in
      let right_kinds = moved-kinds object to kinds in
      let home : is_granted_to permit (album (number_of to)) ADD_FILE ≡ true =
      subst (λ (i : ℕ). is_granted_to permit i ADD_FILE ≡ true) (sym right_kinds.1) granted.1 in (
        inr (granted-change permit object (shown object) (with_home (number_of to) (shown object))
            (rehomed permit object (number_of to) (shown object) may.headed may.granted home)),
        right (ask.Move object to) (taken_out shown object ++ (to, with_child object (shown to)) ∷ [])
            (each-append IsGranted (taken_out shown object) ((to, with_child object (shown to)) ∷ [])
            (out-right object may)
            (gains object to granted.0 (inl (right_kinds.0, granted.1)), tt)),
      )
  written-right me (ask.SetLists lists) met kinds =
      right (ask.SetLists lists) (flat_map (list_written shown) lists) (lists-right lists met)
  written-right me (ask.SetOwner object owner number) met kinds =
      let granted = only-met (basis_for permit) object WRITE_OWNER met in (
        inr (granted-change permit object (shown object) (with_owner owner number (shown object))
            (reowned permit object owner number (shown object) granted.0 granted.1)),
        tt,
      )
  written-right me (ask.SetMembers object members) met kinds =
      let granted = only-met (basis_for permit) object WRITE_DATA met in (
        inr (granted-change permit object (shown object) (with_members members (shown object))
            (remembered permit object members (shown object) granted.0 granted.1)),
        tt,
      )
  written-right me (ask.Share lists members) met kinds =
      let acl : List (List Alternative) = map (λ (new : NewList). just new.object WRITE_ACL) lists in
      let data_needs : List (List Alternative) = map (λ (new : NewMembership). just new.object WRITE_DATA) members in
      let parts = and_parts (list_all (is_need_met (basis_for permit)) acl)
      (list_all (is_need_met (basis_for permit)) data_needs)
      (sym (list_all-append (is_need_met (basis_for permit)) acl data_needs) ∙ met) in
      right (ask.Share lists members) (flat_map (list_written shown) lists ++ map (members_written shown) members)
      (each-append IsGranted (flat_map (list_written shown) lists) (map (members_written shown) members)
      (lists-right lists parts.0) (members-right members parts.1))

pub effect-granted :
    (permit : PermitState) (stamp item : ℕ) (is : Value) → IsRewritten permit stamp item is
    → IsGrantedChange permit item (seen permit.view.rows item) is
effect-granted permit stamp item is change =
    let asked = permit.view.ask in
    let flawless = no_flaw asked (no-flaw-of asked permit.principal change.permitted.taken) in
    let kinds = (and_parts (has_kinds asked) (has_single_objects asked) flawless.request).0 in
    let writes = written (seen permit.view.rows) permit.principal stamp asked in
    go (each-one (IsRight permit stamp asked) (effect_of permit stamp) (item, is)
    (each-fold (IsRight permit stamp asked) [] writes tt
    (written-right permit stamp permit.principal asked (needs-met permit change.permitted) kinds))
    change.written)
  where
    go :
        IsNew permit stamp item ⊎ IsGrantedChange permit item (seen permit.view.rows item) is
        → IsGrantedChange permit item (seen permit.view.rows item) is
    go (inl new) = absurd (change.older new)
    go (inr granted) = granted

-- ---- what is served

module _ (permit : PermitState) where
  abbrev lookup : ℕ → Value
  lookup = seen permit.view.rows

  abbrev IsReadPicture : ℕ → List ℕ → List ℕ → Type 0
  IsReadPicture object title content =
      IsTrue (is_granted_to permit object READ_DATA)
      × (title_field (lookup object) ≡ Some title)
      × (content_field (lookup object) ≡ Some content)

  picture-for :
      (object stamp : ℕ) (title content : List ℕ) (asked : Ask) → has_needs_met (basis_for permit) asked ≡ true
      → IsServedFor permit (served.Picture object stamp title content) asked → IsReadPicture object title content
  picture-for object stamp title content (ask.Read other) met l =
      go (lookup other) refl (only-met (basis_for permit) other READ_DATA met).1 l
    where
      go :
          (v : Value) → lookup other ≡ v → is_granted_to permit other READ_DATA ≡ true
          → served.Picture object stamp title content ≡ read_of other (stamp_seen permit.view.rows other) v
          → IsReadPicture object title content
      go value.Missing same granted e = absurd (cc)
      go (value.Picture x) same granted e =
          let o : object ≡ other = cc in
          let t : title ≡ x.title = cc in
          let k : content ≡ x.content = cc in (
            subst (λ (i : ℕ). is_granted_to permit i READ_DATA ≡ true) (sym o) granted,
            ap (λ (i : ℕ). title_field (lookup i)) o ∙ ap title_field same ∙ ap Some (sym t),
            ap (λ (i : ℕ). content_field (lookup i)) o ∙ ap content_field same ∙ ap Some (sym k),
          )
      go (value.Album x) same granted e = absurd (cc)
      go (value.List x) same granted e = absurd (cc)
      go (value.Group x) same granted e = absurd (cc)
  picture-for object stamp title content (ask.List album) met l =
      let e = l.given_is in absurd (let f : served.Picture object stamp title content ≡ served.Listed album (stamp_seen permit.view.rows album) l.rows = e in cc)
  picture-for object stamp title content (ask.GetList other) met l = absurd (cc)
  picture-for object stamp title content (ask.Head other) met l = absurd (cc)
  picture-for object stamp title content (ask.Children other) met l = absurd (cc)
  picture-for object stamp title content (ask.AddPicture into t k) met l = absurd l
  picture-for object stamp title content (ask.AddAlbum into t) met l = absurd l
  picture-for object stamp title content (ask.AddGroup into more) met l = absurd l
  picture-for object stamp title content (ask.Retitle other t) met l = absurd l
  picture-for object stamp title content (ask.Replace other k) met l = absurd l
  picture-for object stamp title content (ask.Delete other) met l = absurd l
  picture-for object stamp title content (ask.Move other to) met l = absurd l
  picture-for object stamp title content (ask.SetLists lists) met l = absurd l
  picture-for object stamp title content (ask.SetOwner other owner number) met l = absurd l
  picture-for object stamp title content (ask.SetMembers other members) met l = absurd l
  picture-for object stamp title content (ask.Share lists members) met l = absurd l

  abbrev IsReadGroup : ℕ → List Member → Type 0
  IsReadGroup object members =
      IsTrue (is_granted_to permit object READ_DATA) × (members_of (lookup object) ≡ members)

  group-for :
      (object stamp : ℕ) (members : List Member) (asked : Ask) → has_needs_met (basis_for permit) asked ≡ true
      → IsServedFor permit (served.Group object stamp members) asked → IsReadGroup object members
  group-for object stamp members (ask.Read other) met l =
      go (lookup other) refl (only-met (basis_for permit) other READ_DATA met).1 l
    where
      at :
          (v : Value) → lookup other ≡ v → is_granted_to permit other READ_DATA ≡ true
          → served.Group object stamp members ≡ served.Group other (stamp_seen permit.view.rows other) (members_of v)
          → IsReadGroup object members
      at v same granted e =
          let o : object ≡ other = cc in
          let m : members ≡ members_of v = cc in (
            subst (λ (i : ℕ). is_granted_to permit i READ_DATA ≡ true) (sym o) granted,
            ap (λ (i : ℕ). members_of (lookup i)) o ∙ ap members_of same ∙ sym m,
          )

      go :
          (v : Value) → lookup other ≡ v → is_granted_to permit other READ_DATA ≡ true
          → served.Group object stamp members ≡ read_of other (stamp_seen permit.view.rows other) v
          → IsReadGroup object members
      go value.Missing same granted e = at value.Missing same granted e
      go (value.Picture x) same granted e = absurd (cc)
      go (value.Album x) same granted e = at (value.Album x) same granted e
      go (value.List x) same granted e = at (value.List x) same granted e
      go (value.Group x) same granted e = at (value.Group x) same granted e
  group-for object stamp members (ask.List album) met l =
      let e = l.given_is in absurd (let f : served.Group object stamp members ≡ served.Listed album (stamp_seen permit.view.rows album) l.rows = e in cc)
  group-for object stamp members (ask.GetList other) met l = absurd (cc)
  group-for object stamp members (ask.Head other) met l = absurd (cc)
  group-for object stamp members (ask.Children other) met l = absurd (cc)
  group-for object stamp members (ask.AddPicture into t k) met l = absurd l
  group-for object stamp members (ask.AddAlbum into t) met l = absurd l
  group-for object stamp members (ask.AddGroup into more) met l = absurd l
  group-for object stamp members (ask.Retitle other t) met l = absurd l
  group-for object stamp members (ask.Replace other k) met l = absurd l
  group-for object stamp members (ask.Delete other) met l = absurd l
  group-for object stamp members (ask.Move other to) met l = absurd l
  group-for object stamp members (ask.SetLists lists) met l = absurd l
  group-for object stamp members (ask.SetOwner other owner number) met l = absurd l
  group-for object stamp members (ask.SetMembers other more) met l = absurd l
  group-for object stamp members (ask.Share lists more) met l = absurd l

  -- what a read is served is no listing and no list
  read-rows :
      (object s album stamp : ℕ) (rows : List Row) (v : Value) → served.Listed album stamp rows ≡ read_of object s v → ⊥
  read-rows object s album stamp rows value.Missing e = cc
  read-rows object s album stamp rows (value.Picture x) e = cc
  read-rows object s album stamp rows (value.Album x) e = cc
  read-rows object s album stamp rows (value.List x) e = cc
  read-rows object s album stamp rows (value.Group x) e = cc

  read-entries :
      (other s object of stamp : ℕ) (entries : List Ace) (v : Value)
      → served.Entries object of stamp entries ≡ read_of other s v → ⊥
  read-entries other s object of stamp entries value.Missing e = cc
  read-entries other s object of stamp entries (value.Picture x) e = cc
  read-entries other s object of stamp entries (value.Album x) e = cc
  read-entries other s object of stamp entries (value.List x) e = cc
  read-entries other s object of stamp entries (value.Group x) e = cc

  rows-for :
      (album stamp : ℕ) (rows : List Row) (asked : Ask) → has_needs_met (basis_for permit) asked ≡ true
      → IsServedFor permit (served.Listed album stamp rows) asked → IsTrue (is_granted_to permit album LIST_DIRECTORY)
  rows-for album stamp rows (ask.Read other) met l =
      absurd (read-rows other (stamp_seen permit.view.rows other) album stamp rows (lookup other) l)
  rows-for album stamp rows (ask.List other) met l =
      let e = l.given_is in
      let o : album ≡ other =
      let f : served.Listed album stamp rows ≡ served.Listed other (stamp_seen permit.view.rows other) l.rows = e in cc in
      subst (λ (i : ℕ). is_granted_to permit i LIST_DIRECTORY ≡ true) (sym o)
      (only-met (basis_for permit) other LIST_DIRECTORY met).1
  rows-for album stamp rows (ask.GetList other) met l = absurd (cc)
  rows-for album stamp rows (ask.Head other) met l = absurd (cc)
  rows-for album stamp rows (ask.Children other) met l = absurd (cc)
  rows-for album stamp rows (ask.AddPicture into t k) met l = absurd l
  rows-for album stamp rows (ask.AddAlbum into t) met l = absurd l
  rows-for album stamp rows (ask.AddGroup into more) met l = absurd l
  rows-for album stamp rows (ask.Retitle other t) met l = absurd l
  rows-for album stamp rows (ask.Replace other k) met l = absurd l
  rows-for album stamp rows (ask.Delete other) met l = absurd l
  rows-for album stamp rows (ask.Move other to) met l = absurd l
  rows-for album stamp rows (ask.SetLists lists) met l = absurd l
  rows-for album stamp rows (ask.SetOwner other owner number) met l = absurd l
  rows-for album stamp rows (ask.SetMembers other members) met l = absurd l
  rows-for album stamp rows (ask.Share lists members) met l = absurd l

  abbrev IsReadList : ℕ → List Ace → Type 0
  IsReadList object entries =
      IsTrue (is_granted_to permit object READ_ACL) × (entries_named lookup object ≡ entries)

  entries-for :
      (object of stamp : ℕ) (entries : List Ace) (asked : Ask) → has_needs_met (basis_for permit) asked ≡ true
      → IsServedFor permit (served.Entries object of stamp entries) asked → IsReadList object entries
  entries-for object of stamp entries (ask.Read other) met l =
      absurd (read-entries other (stamp_seen permit.view.rows other) object of stamp entries (lookup other) l)
  entries-for object of stamp entries (ask.List album) met l =
      let e = l.given_is in absurd (let f : served.Entries object of stamp entries ≡ served.Listed album (stamp_seen permit.view.rows album) l.rows = e in cc)
  entries-for object of stamp entries (ask.GetList other) met l =
      let e : served.Entries object of stamp entries
      ≡ served.Entries other (list_named lookup other) (stamp_named permit.view.rows other)
      (entries_named lookup other) = l in
      let o : object ≡ other = cc in
      let k : entries ≡ entries_named lookup other = cc in (
        subst (λ (i : ℕ). is_granted_to permit i READ_ACL ≡ true) (sym o)
            (only-met (basis_for permit) other READ_ACL met).1,
        ap (entries_named lookup) o ∙ sym k,
      )
  entries-for object of stamp entries (ask.Head other) met l = absurd (cc)
  entries-for object of stamp entries (ask.Children other) met l = absurd (cc)
  entries-for object of stamp entries (ask.AddPicture into t k) met l = absurd l
  entries-for object of stamp entries (ask.AddAlbum into t) met l = absurd l
  entries-for object of stamp entries (ask.AddGroup into more) met l = absurd l
  entries-for object of stamp entries (ask.Retitle other t) met l = absurd l
  entries-for object of stamp entries (ask.Replace other k) met l = absurd l
  entries-for object of stamp entries (ask.Delete other) met l = absurd l
  entries-for object of stamp entries (ask.Move other to) met l = absurd l
  entries-for object of stamp entries (ask.SetLists lists) met l = absurd l
  entries-for object of stamp entries (ask.SetOwner other owner number) met l = absurd l
  entries-for object of stamp entries (ask.SetMembers other members) met l = absurd l
  entries-for object of stamp entries (ask.Share lists members) met l = absurd l

  -- what a read is served is no head, and no album's children
  read-head :
      (other s object stamp : ℕ) (shown : Attributes) (v : Value) → served.Head object stamp shown ≡ read_of other s v → ⊥
  read-head other s object stamp shown value.Missing e = cc
  read-head other s object stamp shown (value.Picture x) e = cc
  read-head other s object stamp shown (value.Album x) e = cc
  read-head other s object stamp shown (value.List x) e = cc
  read-head other s object stamp shown (value.Group x) e = cc

  read-children :
      (other s album stamp : ℕ) (children : List ℕ) (v : Value)
      → served.Children album stamp children ≡ read_of other s v → ⊥
  read-children other s album stamp children value.Missing e = cc
  read-children other s album stamp children (value.Picture x) e = cc
  read-children other s album stamp children (value.Album x) e = cc
  read-children other s album stamp children (value.List x) e = cc
  read-children other s album stamp children (value.Group x) e = cc

  abbrev IsReadHead : ℕ → Attributes → Type 0
  IsReadHead object shown =
      IsTrue (is_granted_to permit object READ_ATTRIBUTES) × (attributes_of (lookup object) ≡ shown)

  head-for :
      (object stamp : ℕ) (shown : Attributes) (asked : Ask) → has_needs_met (basis_for permit) asked ≡ true
      → IsServedFor permit (served.Head object stamp shown) asked → IsReadHead object shown
  head-for object stamp shown (ask.Read other) met l =
      absurd (read-head other (stamp_seen permit.view.rows other) object stamp shown (lookup other) l)
  head-for object stamp shown (ask.List album) met l =
      let e = l.given_is in absurd (let f : served.Head object stamp shown ≡ served.Listed album (stamp_seen permit.view.rows album) l.rows = e in cc)
  head-for object stamp shown (ask.GetList other) met l = absurd (cc)
  head-for object stamp shown (ask.Head other) met l =
      let e : served.Head object stamp shown
      ≡ served.Head other (stamp_seen permit.view.rows other) (attributes_of (lookup other)) = l in
      let o : object ≡ other = cc in
      let k : shown ≡ attributes_of (lookup other) = cc in (
        subst (λ (i : ℕ). is_granted_to permit i READ_ATTRIBUTES ≡ true) (sym o)
            (only-met (basis_for permit) other READ_ATTRIBUTES met).1,
        ap (λ (i : ℕ). attributes_of (lookup i)) o ∙ sym k,
      )
  head-for object stamp shown (ask.Children other) met l = absurd (cc)
  head-for object stamp shown (ask.AddPicture into t k) met l = absurd l
  head-for object stamp shown (ask.AddAlbum into t) met l = absurd l
  head-for object stamp shown (ask.AddGroup into more) met l = absurd l
  head-for object stamp shown (ask.Retitle other t) met l = absurd l
  head-for object stamp shown (ask.Replace other k) met l = absurd l
  head-for object stamp shown (ask.Delete other) met l = absurd l
  head-for object stamp shown (ask.Move other to) met l = absurd l
  head-for object stamp shown (ask.SetLists lists) met l = absurd l
  head-for object stamp shown (ask.SetOwner other owner number) met l = absurd l
  head-for object stamp shown (ask.SetMembers other more) met l = absurd l
  head-for object stamp shown (ask.Share lists more) met l = absurd l

  abbrev AreReadChildren : ℕ → List ℕ → Type 0
  AreReadChildren album children =
      IsTrue (is_granted_to permit album LIST_DIRECTORY) × (children_of (lookup album) ≡ children)

  children-for :
      (album stamp : ℕ) (children : List ℕ) (asked : Ask) → has_needs_met (basis_for permit) asked ≡ true
      → IsServedFor permit (served.Children album stamp children) asked → AreReadChildren album children
  children-for album stamp children (ask.Read other) met l =
      absurd (read-children other (stamp_seen permit.view.rows other) album stamp children (lookup other) l)
  children-for album stamp children (ask.List other) met l =
      let e = l.given_is in absurd (let f : served.Children album stamp children ≡ served.Listed other (stamp_seen permit.view.rows other) l.rows = e in cc)
  children-for album stamp children (ask.GetList other) met l = absurd (cc)
  children-for album stamp children (ask.Head other) met l = absurd (cc)
  children-for album stamp children (ask.Children other) met l =
      let e : served.Children album stamp children
      ≡ served.Children other (stamp_seen permit.view.rows other) (children_of (lookup other)) = l in
      let o : album ≡ other = cc in
      let k : children ≡ children_of (lookup other) = cc in (
        subst (λ (i : ℕ). is_granted_to permit i LIST_DIRECTORY ≡ true) (sym o)
            (only-met (basis_for permit) other LIST_DIRECTORY met).1,
        ap (λ (i : ℕ). children_of (lookup i)) o ∙ sym k,
      )
  children-for album stamp children (ask.AddPicture into t k) met l = absurd l
  children-for album stamp children (ask.AddAlbum into t) met l = absurd l
  children-for album stamp children (ask.AddGroup into more) met l = absurd l
  children-for album stamp children (ask.Retitle other t) met l = absurd l
  children-for album stamp children (ask.Replace other k) met l = absurd l
  children-for album stamp children (ask.Delete other) met l = absurd l
  children-for album stamp children (ask.Move other to) met l = absurd l
  children-for album stamp children (ask.SetLists lists) met l = absurd l
  children-for album stamp children (ask.SetOwner other owner number) met l = absurd l
  children-for album stamp children (ask.SetMembers other more) met l = absurd l
  children-for album stamp children (ask.Share lists more) met l = absurd l

pub picture-granted :
    (permit : PermitState) (object stamp : ℕ) (title content : List ℕ) → IsPermit permit
    → IsServed permit (served.Picture object stamp title content) → IsReadPicture permit object title content
picture-granted permit object stamp title content kept l =
    picture-for permit object stamp title content permit.view.ask (needs-met permit kept) l

pub group-granted :
    (permit : PermitState) (object stamp : ℕ) (members : List Member) → IsPermit permit
    → IsServed permit (served.Group object stamp members) → IsReadGroup permit object members
group-granted permit object stamp members kept l =
    group-for permit object stamp members permit.view.ask (needs-met permit kept) l

pub rows-granted :
    (permit : PermitState) (album stamp : ℕ) (rows : List Row) → IsPermit permit
    → IsServed permit (served.Listed album stamp rows) → IsTrue (is_granted_to permit album LIST_DIRECTORY)
rows-granted permit album stamp rows kept l =
    rows-for permit album stamp rows permit.view.ask (needs-met permit kept) l

pub entries-granted :
    (permit : PermitState) (object of stamp : ℕ) (entries : List Ace) → IsPermit permit
    → IsServed permit (served.Entries object of stamp entries) → IsReadList permit object entries
entries-granted permit object of stamp entries kept l =
    entries-for permit object of stamp entries permit.view.ask (needs-met permit kept) l

pub head-granted :
    (permit : PermitState) (object stamp : ℕ) (shown : Attributes) → IsPermit permit
    → IsServed permit (served.Head object stamp shown) → IsReadHead permit object shown
head-granted permit object stamp shown kept l =
    head-for permit object stamp shown permit.view.ask (needs-met permit kept) l

pub children-granted :
    (permit : PermitState) (album stamp : ℕ) (children : List ℕ) → IsPermit permit
    → IsServed permit (served.Children album stamp children) → AreReadChildren permit album children
children-granted permit album stamp children kept l =
    children-for permit album stamp children permit.view.ask (needs-met permit kept) l

-- what an object holds is no attribute of it
pub content-unshown : (v : Value) (content : List ℕ) → attributes_of (with_content content v) ≡ attributes_of v
content-unshown value.Missing content = refl
content-unshown (value.Picture x) content = refl
content-unshown (value.Album x) content = refl
content-unshown (value.List x) content = refl
content-unshown (value.Group x) content = refl

pub children-unshown :
    (v : Value) (children : List ℕ) → length children ≡ length (children_of v)
    → attributes_of (with_children children v) ≡ attributes_of v
children-unshown value.Missing children e = refl
children-unshown (value.Picture x) children e = refl
children-unshown (value.Album x) children e = ap (attributes.Album x.head x.title x.home) e
children-unshown (value.List x) children e = refl
children-unshown (value.Group x) children e = refl

pub members-unshown :
    (v : Value) (members : List Member) → length members ≡ length (members_of v)
    → attributes_of (with_members members v) ≡ attributes_of v
members-unshown value.Missing members e = refl
members-unshown (value.Picture x) members e = refl
members-unshown (value.Album x) members e = refl
members-unshown (value.List x) members e = refl
members-unshown (value.Group x) members e = ap (attributes.Group x.head) e
