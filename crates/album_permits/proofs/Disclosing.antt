-- On two snapshots that are ruled alike the same is found and noted (`ruled-alike`, `noted-alike`); on two that are alike
-- for a principal it is granted and served the same (`granted-alike`, `served-alike`). For the laws
-- `secrets_decide_nothing` and `answers_disclose_nothing`: what is found on a basis is what is found on it when it is
-- bared (`ruling-bare`, `notes-bare`).
use Rattle.std.proofs.Common.{◌≡◌, ℕ, List, [], ◌∷◌, Option, Some, None, length, is_none, is_some, map, find, option_map, option_to_list, refl, sym, ap, ◌∙◌, if◌then◌else◌}
use Rattle.std.specs.List.{flat_map, filter_map}
use Rattle.std.specs.Option.{option_map_or}
use Rattle.album_eval.specs.Audit.{audited}
use Rattle.album_eval.specs.Verdict.{verdict}
use Rattle.album_eval.specs.declared.facts.Principal.{Principal}
use Rattle.album_eval.specs.declared.policies.Policy.{Policy}
use Rattle.album_items.specs.ItemIds.{list}
use Rattle.album_items.specs.Values.{children_of}
use Rattle.album_items.specs.declared.values.Head.{Head}
use Rattle.album_items.specs.declared.values.Value.{Value}
use Rattle.album_items.specs.declared.values.Value.TheVariants as value
use Rattle.album_reader.specs.Answers.{ReadVersion}
use Rattle.album_views.specs.ReadSets.{looker_of}
use Rattle.album_views.specs.ReadSets.IsNamed.{Subject}
use Rattle.album_views.specs.Seen.{seen}
use Rattle.album_views.specs.declared.asks.Ask.{Ask}
use Rattle.album_views.specs.declared.asks.Ask.TheVariants as ask
use Rattle.album_listing.specs.Agreement.{AgreeOn}
use Rattle.album_listing.specs.Basis.{Basis, IsBasis}
use Rattle.album_listing.specs.Disclosure.{bare, AreRuledAlike, AreAlikeFor}
use Rattle.album_listing.specs.GroupsFound.{basis_on}
use Rattle.album_listing.specs.Fields.{title_field}
use Rattle.album_listing.specs.Masks.{READ_DATA, LIST_DIRECTORY, READ_ATTRIBUTES, READ_ACL, DELETE, DELETE_CHILD, ADD_FILE}
use Rattle.album_listing.specs.Reasons.{on, case_on, with_verdict, is_grant}
use Rattle.album_listing.specs.ViewLookups.{stamp_seen, stamp_named, list_named, entries_named}
use Rattle.album_listing.specs.declared.reasons.Alternative.{Alternative}
use Rattle.album_listing.specs.declared.reasons.Reason.{Reason}
use Rattle.album_listing.proofs.Baring.{head-bare, groupless-bare, home-bare, entries-bare, bared, seen-bared, subjects-back, agree-bared, basis-bared, bare_basis, made-bared, seen-same, rows-alike}
use Rattle.album_listing.proofs.GroupsFoundLemmas.{basis-based}
use Rattle.album_listing.proofs.Judging.{first-of}
use Rattle.album_listing.proofs.Looking.{made, basis-made, seen-alike}
use Rattle.album_permits.specs.Attributes.{attributes_of}
use Rattle.album_permits.specs.Findings.{missing_in, reasons_of, found_by, need_found, and_then_found, needs_found, ruling_of}
use Rattle.album_permits.specs.Needs.{just, needs_of}
use Rattle.album_permits.specs.Notes.{note_by, notes_for, checked, need_notes, and_then_noted, needs_noted, notes_of}
use Rattle.album_permits.specs.Permits.{permit_on, IsPermit}
use Rattle.album_permits.specs.Serving.{read_of, IsServed}
use Rattle.album_permits.specs.declared.attributes.Attributes.{Attributes}
use Rattle.album_permits.specs.declared.attributes.Attributes.TheVariants as attributes
use Rattle.album_permits.specs.declared.serving.Served.{Served}
use Rattle.album_permits.specs.declared.serving.Served.TheVariants as served
use Rattle.album_permits.proofs.Agreeing.{ruling-alike, notes-alike}
use Rattle.album_permits.proofs.Granting.{needs-met, only-met}
use Rattle.album_permits.proofs.Spending.{entries-alike, list-named-alike}

-- ---- a basis that is bared

needs-bare : (lookup : ℕ → Value) (asked : Ask) → needs_of (λ i. bare (lookup i)) asked ≡ needs_of lookup asked
needs-bare lookup (ask.Read object) = refl
needs-bare lookup (ask.List album) = refl
needs-bare lookup (ask.GetList object) = refl
needs-bare lookup (ask.Head object) = refl
needs-bare lookup (ask.Children album) = refl
needs-bare lookup (ask.AddPicture album title content) = refl
needs-bare lookup (ask.AddAlbum album title) = refl
needs-bare lookup (ask.AddGroup album members) = refl
needs-bare lookup (ask.Retitle object title) = refl
needs-bare lookup (ask.Replace object content) = refl
needs-bare lookup (ask.Delete object) =
    ap (λ (homes : List ℕ). (on object DELETE ∷ map (λ home. on home DELETE_CHILD) homes) ∷ [])
    (home-bare (lookup object))
needs-bare lookup (ask.Move object to) =
    ap
    (λ (homes : List ℕ). (on object DELETE ∷ map (λ home. on home DELETE_CHILD) homes) ∷ just to ADD_FILE ∷ [])
    (home-bare (lookup object))
needs-bare lookup (ask.SetLists lists) = refl
needs-bare lookup (ask.SetOwner object owner number) = refl
needs-bare lookup (ask.SetMembers object members) = refl
needs-bare lookup (ask.Share lists members) = refl

module _ (basis : Basis) where
  missing-bare : (need : List Alternative) → missing_in (bare_basis basis) need ≡ missing_in basis need
  missing-bare need =
      λ k. find (λ object. is_none (head-bare (basis.seen object) k)) (map (λ alternative. alternative.object) need)

  reasons-bare : (need : List Alternative) → reasons_of (bare_basis basis) need ≡ reasons_of basis need
  reasons-bare need =
      λ k. filter_map
      (λ (a : Alternative). option_map
      (λ head. with_verdict a (verdict (case_on basis head) (entries-bare (basis.seen (list head.list)) k) a.mask))
      (head-bare (basis.seen a.object) k))
      need

  found-bare : (need : List Alternative) → need_found (bare_basis basis) need ≡ need_found basis need
  found-bare need = λ k. found_by (missing-bare need k) (reasons-bare need k)

  all-found-bare :
      (needs : List (List Alternative)) → needs_found (bare_basis basis) needs ≡ needs_found basis needs
  all-found-bare [] = refl
  all-found-bare (need ∷ needs) = λ k. and_then_found (found-bare need k) (all-found-bare needs k)

  for-bare : (r : Reason) → notes_for (bare_basis basis) r ≡ notes_for basis r
  for-bare r =
      λ k. flat_map
      (λ (head : Head). map (note_by r (entries-bare (basis.seen (list head.list)) k))
      (audited (case_on basis head) r.mask (is_grant r.verdict) (entries-bare (basis.seen (list head.list)) k)))
      (option_to_list (head-bare (basis.seen r.object) k))

  noted-bare : (need : List Alternative) → need_notes (bare_basis basis) need ≡ need_notes basis need
  noted-bare need =
      λ k. if is_some (missing-bare need k) then []
      else flat_map (λ r. for-bare r k) (checked (reasons-bare need k))

  all-noted-bare :
      (needs : List (List Alternative)) → needs_noted (bare_basis basis) needs ≡ needs_noted basis needs
  all-noted-bare [] = refl
  all-noted-bare (need ∷ needs) =
      λ k. and_then_noted (found-bare need k) (noted-bare need k) (all-noted-bare needs k)

  ruling-bare : (asked : Ask) → ruling_of (bare_basis basis) asked ≡ ruling_of basis asked
  ruling-bare asked =
      ap (needs_found (bare_basis basis)) (needs-bare basis.seen asked) ∙ all-found-bare (needs_of basis.seen asked)

  notes-bare : (asked : Ask) → notes_of (bare_basis basis) asked ≡ notes_of basis asked
  notes-bare asked =
      ap (needs_noted (bare_basis basis)) (needs-bare basis.seen asked) ∙ all-noted-bare (needs_of basis.seen asked)

-- ---- two snapshots that are ruled alike

agree :
    (looker : Option Principal) (asked : Ask) (one other : List ReadVersion) → AreRuledAlike looker asked one other
    → AgreeOn looker asked (bared one) (bared other)
agree looker asked one other alike =
    agree-bared looker looker asked asked one other (subjects-back (seen one) asked)
    (λ item c e. sym (groupless-bare (seen one) looker asked item) ∙ e) alike

ruling-bared :
    (policy : Policy) (me : Principal) (asked : Ask) (rows : List ReadVersion) (b : Basis) → IsBasis policy me rows b
    → ruling_of b asked ≡ ruling_of (made policy me (bared rows) b.is_in) asked
ruling-bared policy me asked rows b based =
    ap (λ (x : Basis). ruling_of x asked) (basis-made policy me rows b based)
    ∙ sym (ruling-bare (made policy me rows b.is_in) asked)
    ∙ sym (ap (λ (x : Basis). ruling_of x asked) (made-bared policy me rows b.is_in))

notes-bared :
    (policy : Policy) (me : Principal) (asked : Ask) (rows : List ReadVersion) (b : Basis) → IsBasis policy me rows b
    → notes_of b asked ≡ notes_of (made policy me (bared rows) b.is_in) asked
notes-bared policy me asked rows b based =
    ap (λ (x : Basis). notes_of x asked) (basis-made policy me rows b based)
    ∙ sym (notes-bare (made policy me rows b.is_in) asked)
    ∙ sym (ap (λ (x : Basis). notes_of x asked) (made-bared policy me rows b.is_in))

pub ruled-alike :
    (policy : Policy) (me : Principal) (asked : Ask) (one other : List ReadVersion) (b c : Basis)
    → AreRuledAlike (looker_of policy me) asked one other → IsBasis policy me one b → IsBasis policy me other c
    → ruling_of b asked ≡ ruling_of c asked
ruled-alike policy me asked one other b c alike l m =
    ruling-bared policy me asked one b l
    ∙ ruling-alike policy me asked (bared one) (bared other) (made policy me (bared one) b.is_in)
    (made policy me (bared other) c.is_in) (agree (looker_of policy me) asked one other alike) (basis-bared policy me one b l)
    (basis-bared policy me other c m)
    ∙ sym (ruling-bared policy me asked other c m)

pub noted-alike :
    (policy : Policy) (me : Principal) (asked : Ask) (one other : List ReadVersion) (b c : Basis)
    → AreRuledAlike (looker_of policy me) asked one other → IsBasis policy me one b → IsBasis policy me other c
    → notes_of b asked ≡ notes_of c asked
noted-alike policy me asked one other b c alike l m =
    notes-bared policy me asked one b l
    ∙ notes-alike policy me asked (bared one) (bared other) (made policy me (bared one) b.is_in)
    (made policy me (bared other) c.is_in) (agree (looker_of policy me) asked one other alike) (basis-bared policy me one b l)
    (basis-bared policy me other c m)
    ∙ sym (notes-bared policy me asked other c m)

-- ---- two snapshots that are alike for the principal

pub granted-alike :
    (policy : Policy) (me : Principal) (asked : Ask) (one other : List ReadVersion)
    → AreAlikeFor policy me asked one other → IsPermit (permit_on policy me asked one)
    → IsPermit (permit_on policy me asked other)
granted-alike policy me asked one other alike kept =
    record {
      taken = kept.taken;
      looks = refl;
      basis = basis_on policy me other;
      based = basis-based policy me other;
      granted = sym (ruled-alike policy me asked one other kept.basis (basis_on policy me other) alike.ruled kept.based
          (basis-based policy me other)) ∙ kept.granted;
    }

-- the entries of the list that an item names
entries-bared : (rows : List ReadVersion) (item : ℕ) → entries_named (seen (bared rows)) item ≡ entries_named (seen rows) item
entries-bared rows item =
    ap (λ (lookup : ℕ → Value). entries_named lookup item) (λ k i. seen-bared rows i k)
    ∙ λ k. option_map_or (λ (head : Head). entries-bare (seen rows (list head.list)) k) (head-bare (seen rows item) k) []

list-bared : (rows : List ReadVersion) (item : ℕ) → list_named (seen (bared rows)) item ≡ list_named (seen rows) item
list-bared rows item =
    ap (λ (lookup : ℕ → Value). list_named lookup item) (λ k i. seen-bared rows i k)
    ∙ ap (λ (o : Option Head). option_map_or (λ (head : Head). list head.list) o item) (head-bare (seen rows item))

-- the attributes of a value, by what a ruling looks at in it, its title, and how many children it has
abbrev rebuilt : Value → Option (List ℕ) → ℕ → Attributes
rebuilt value.Missing title count = attributes.Nothing
rebuilt (value.Picture x) None count = attributes.Nothing
rebuilt (value.Picture x) (Some title) count = attributes.Picture x.head title x.home
rebuilt (value.Album x) None count = attributes.Nothing
rebuilt (value.Album x) (Some title) count = attributes.Album x.head title x.home count
rebuilt (value.List x) title count = attributes.Nothing
rebuilt (value.Group x) title count = attributes.Group x.head (length x.members)

built : (v : Value) → attributes_of v ≡ rebuilt (bare v) (title_field v) (length (children_of v))
built value.Missing = refl
built (value.Picture x) = refl
built (value.Album x) = refl
built (value.List x) = refl
built (value.Group x) = refl

attributes-same :
    (v w : Value) → bare v ≡ bare w → title_field v ≡ title_field w → length (children_of v) ≡ length (children_of w)
    → attributes_of v ≡ attributes_of w
attributes-same v w bares titles counts =
    built v ∙ (λ k. rebuilt (bares k) (titles k) (counts k)) ∙ sym (built w)

pub served-alike :
    (policy : Policy) (me : Principal) (asked : Ask) (one other : List ReadVersion) (given more : Served)
    → AreAlikeFor policy me asked one other → IsPermit (permit_on policy me asked one)
    → IsServed (permit_on policy me asked one) given → IsServed (permit_on policy me asked other) more → given ≡ more
served-alike policy me (ask.Read object) one other given more alike kept l m =
    let granted = (only-met (basis_on policy me one) object READ_DATA
    (needs-met (permit_on policy me (ask.Read object) one) kept)).1 in
    let same = alike.read object (Subject object (first-of object [])) granted in
    l
    ∙ ap (λ (o : Option (ℕ × Value)). read_of object (option_map_or (λ version. version.0) o 0) (seen one object)) same
    ∙ ap (read_of object (stamp_seen other object)) (seen-same one other object same)
    ∙ sym m
served-alike policy me (ask.List album) one other given more alike kept l m =
    let granted = (only-met (basis_on policy me one) album LIST_DIRECTORY
    (needs-met (permit_on policy me (ask.List album) one) kept)).1 in
    let same = alike.read album (Subject album (first-of album (children_of (seen one album)))) granted in
    l.given_is
    ∙ ap (λ (o : Option (ℕ × Value)). served.Listed album (option_map_or (λ version. version.0) o 0) l.rows) same
    ∙ ap (served.Listed album (stamp_seen other album))
    (rows-alike policy me album one other l.rows m.rows alike granted l.listing m.listing)
    ∙ sym m.given_is
served-alike policy me (ask.GetList object) one other given more alike kept l m =
    let granted = (only-met (basis_on policy me one) object READ_ACL
    (needs-met (permit_on policy me (ask.GetList object) one) kept)).1 in
    let named = Subject object (first-of object []) in
    l
    ∙ ap (λ (i : ℕ). served.Entries object i (stamp_named one object) (entries_named (seen one) object))
    (sym (list-bared one object)
    ∙ list-named-alike (looker_of policy me) (ask.GetList object) (bared one) (bared other)
    (agree (looker_of policy me) (ask.GetList object) one other alike.ruled)
    object (first-of object [])
    ∙ list-bared other object)
    ∙ ap (λ (s : ℕ). served.Entries object (list_named (seen other) object) s (entries_named (seen one) object))
    (alike.listed object named granted)
    ∙ ap (served.Entries object (list_named (seen other) object) (stamp_named other object))
    (sym (entries-bared one object)
    ∙ entries-alike (looker_of policy me) (ask.GetList object) (bared one) (bared other)
    (agree (looker_of policy me) (ask.GetList object) one other alike.ruled)
    object (first-of object [])
    ∙ entries-bared other object)
    ∙ sym m
served-alike policy me (ask.Head object) one other given more alike kept l m =
    let granted = (only-met (basis_on policy me one) object READ_ATTRIBUTES
    (needs-met (permit_on policy me (ask.Head object) one) kept)).1 in
    let named = Subject object (first-of object []) in
    let headed = alike.headed object refl granted in
    let bare_same : bare (seen one object) ≡ bare (seen other object) =
    sym (seen-bared one object)
    ∙ seen-alike (looker_of policy me) (ask.Head object) (bared one) (bared other)
    (agree (looker_of policy me) (ask.Head object) one other alike.ruled) object named
    ∙ seen-bared other object in
    l
    ∙ ap (λ (s : ℕ). served.Head object s (attributes_of (seen one object))) headed.0
    ∙ ap (served.Head object (stamp_seen other object))
    (attributes-same (seen one object) (seen other object) bare_same
    (alike.titled object (Subject object (first-of object [])) granted) headed.1)
    ∙ sym m
served-alike policy me (ask.Children album) one other given more alike kept l m =
    let granted = (only-met (basis_on policy me one) album LIST_DIRECTORY
    (needs-met (permit_on policy me (ask.Children album) one) kept)).1 in
    let same = alike.read album (Subject album (first-of album [])) granted in
    l
    ∙ ap (λ (o : Option (ℕ × Value)). served.Children album (option_map_or (λ version. version.0) o 0) (children_of (seen one album))) same
    ∙ ap (λ (v : Value). served.Children album (stamp_seen other album) (children_of v)) (seen-same one other album same)
    ∙ sym m
served-alike policy me (ask.AddPicture into title content) one other given more alike kept l m = absurd l
served-alike policy me (ask.AddAlbum into title) one other given more alike kept l m = absurd l
served-alike policy me (ask.AddGroup into members) one other given more alike kept l m = absurd l
served-alike policy me (ask.Retitle object title) one other given more alike kept l m = absurd l
served-alike policy me (ask.Replace object content) one other given more alike kept l m = absurd l
served-alike policy me (ask.Delete object) one other given more alike kept l m = absurd l
served-alike policy me (ask.Move object to) one other given more alike kept l m = absurd l
served-alike policy me (ask.SetLists lists) one other given more alike kept l m = absurd l
served-alike policy me (ask.SetOwner object owner number) one other given more alike kept l m = absurd l
served-alike policy me (ask.SetMembers object members) one other given more alike kept l m = absurd l
served-alike policy me (ask.Share lists members) one other given more alike kept l m = absurd l
