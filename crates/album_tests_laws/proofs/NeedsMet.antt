-- Where each need is met, for the laws of `needing`.
use Rattle.std.proofs.Common.{◌≡◌, ◌↔◌, ◌&&◌, ◌||◌, ℕ, List, [], ◌∷◌, Bool, true, false, Option, Some, None, Contains, IsTrue, map, refl, sym, ap, ◌∙◌, not, is_none}
use Rattle.std.specs.List.{list_all}
use Rattle.std.specs.Option.{option_map, option_map_or}
use Rattle.std.proofs.Math.Bool.{and-true, or-false}
use Rattle.std.proofs.lemmas.List.Folds.{list_all-append}
use Rattle.album_access.specs.declared.masks.Mask.{Mask}
use Rattle.std.proofs.lemmas.Bool.{and_from}
use Rattle.album_access.specs.Bits.{mask_bits, is_within}
use Rattle.album_eval.specs.Matching.{owns}
use Rattle.album_eval.specs.Policies.{has_owners_way, acl_bits, is_owners_way}
use Rattle.album_eval.specs.declared.facts.Principal.{Principal}
use Rattle.album_eval.specs.declared.facts.Principal.TheVariants.{Root}
use Rattle.album_eval.specs.declared.policies.Policy.{Policy}
use Rattle.album_eval.specs.declared.policies.Policy.TheVariants.{Three}
use Rattle.album_eval.specs.declared.verdicts.Verdict.{Verdict}
use Rattle.album_eval.proofs.Giving.{way_granted}
use Rattle.album_items.specs.ItemIds.{album}
use Rattle.album_items.specs.Values.{head_of, home_of}
use Rattle.album_items.specs.declared.values.Head.{Head}
use Rattle.album_items.specs.declared.values.Picture.{Picture}
use Rattle.album_items.specs.declared.values.Value.{Value}
use Rattle.album_items.specs.declared.values.Value.TheVariants as value
use Rattle.album_views.specs.ReadSets.{is_owned_by}
use Rattle.album_views.specs.declared.asks.Ask.{Ask}
use Rattle.album_views.specs.declared.asks.Ask.TheVariants as ask
use Rattle.album_views.specs.declared.asks.NewList.{NewList}
use Rattle.album_views.specs.declared.asks.NewMembership.{NewMembership}
use Rattle.album_listing.specs.Basis.{Basis}
use Rattle.album_listing.specs.Masks.{WRITE_DATA, ADD_FILE, DELETE_CHILD, DELETE, WRITE_ACL}
use Rattle.album_listing.specs.Reasons.{on, case_on, entries_on, verdict_on, with_verdict, is_grant, is_granted_on}
use Rattle.album_listing.specs.declared.reasons.Reason.{Reason}
use Rattle.album_permits.proofs.Elements.{first, behind}
use Rattle.album_permits.proofs.Meeting.{granted-met}
use Rattle.album_permits.specs.Findings.{is_missing, ruling_of}
use Rattle.album_permits.specs.Meaning.{is_need_met, has_needs_met}
use Rattle.album_permits.specs.Needs.{just, deletion}
use Rattle.album_permits.specs.declared.findings.Finding.TheVariants.{Granted}

-- where all needs are met is where this is true
pub granted-where :
    (basis : Basis) (a : Ask) (right : Bool) → has_needs_met basis a ≡ right
    → (ruling_of basis a ≡ Granted) ↔ IsTrue right
granted-where basis a right same =
    let met = granted-met basis a in
    (λ e. sym same ∙ met.0 e, λ e. met.1 (same ∙ e))

-- one right to one object
pub one-met : (basis : Basis) (object : ℕ) (mask : Mask) → is_need_met basis (just object mask) ≡ is_granted_on basis object mask
one-met basis object mask = go (head_of (basis.seen object))
  where
    go :
        (o : Option Head)
        → ((not (is_none o) && true) && (option_map_or (λ (reason : Reason). is_grant reason.verdict)
        (option_map (λ (head : Head). with_verdict (on object mask) (verdict_on basis head mask)) o) false || false))
        ≡ option_map_or (λ (reason : Reason). is_grant reason.verdict)
        (option_map (λ (head : Head). with_verdict (on object mask) (verdict_on basis head mask)) o) false
    go None = refl
    go (Some head) = or-false (is_grant (verdict_on basis head mask))

pub just-met : (basis : Basis) (object : ℕ) (mask : Mask) → (is_need_met basis (just object mask) && true) ≡ is_granted_on basis object mask
just-met basis object mask = and-true (is_need_met basis (just object mask)) ∙ one-met basis object mask

-- ---- a deletion

there : (basis : Basis) (object : ℕ) (head : Head) → head_of (basis.seen object) ≡ Some head → is_missing basis object ≡ false
there basis object head same = ap (λ (o : Option Head). is_none o) same

two-met :
    (basis : Basis) (object home : ℕ) → is_missing basis object ≡ false → is_missing basis home ≡ false
    → is_need_met basis (on object DELETE ∷ on home DELETE_CHILD ∷ [])
    ≡ (is_granted_on basis object DELETE || is_granted_on basis home DELETE_CHILD)
two-met basis object home here near =
    rw (here, near)
    (ap (λ (b : Bool). is_granted_on basis object DELETE || b) (or-false (is_granted_on basis home DELETE_CHILD)))

pub deletion-met :
    (basis : Basis) (object : ℕ) (was : Picture) (home : Head) → basis.seen object ≡ value.Picture was
    → head_of (basis.seen (album was.home)) ≡ Some home
    → is_need_met basis (deletion basis.seen object)
    ≡ (is_granted_on basis object DELETE || is_granted_on basis (album was.home) DELETE_CHILD)
deletion-met basis object was home same near =
    ap
    (λ (v : Value). is_need_met basis (on object DELETE ∷ map (λ at. on at DELETE_CHILD) (home_of v)))
    same
    ∙ two-met basis object (album was.home) (there basis object was.head (ap (λ (v : Value). head_of v) same))
    (there basis (album was.home) home near)

pub moved-met :
    (basis : Basis) (object to : ℕ) (right : Bool) → is_need_met basis (deletion basis.seen object) ≡ right
    → has_needs_met basis (ask.Move object to) ≡ (right && is_granted_on basis to ADD_FILE)
moved-met basis object to right same =
    ap (λ (b : Bool). b && (is_need_met basis (just to ADD_FILE) && true)) same
    ∙ ap (λ (b : Bool). right && b) (just-met basis to ADD_FILE)

-- ---- each of many

pub lists-met :
    (basis : Basis) (lists : List NewList)
    → list_all (is_need_met basis) (map (λ (new : NewList). just new.object WRITE_ACL) lists)
    ≡ list_all (λ (new : NewList). is_granted_on basis new.object WRITE_ACL) lists
lists-met basis [] = refl
lists-met basis (new ∷ lists) = rw (one-met basis new.object WRITE_ACL, lists-met basis lists) refl

pub groups-met :
    (basis : Basis) (members : List NewMembership)
    → list_all (is_need_met basis) (map (λ (new : NewMembership). just new.object WRITE_DATA) members)
    ≡ list_all (λ (new : NewMembership). is_granted_on basis new.object WRITE_DATA) members
groups-met basis [] = refl
groups-met basis (new ∷ members) = rw (one-met basis new.object WRITE_DATA, groups-met basis members) refl

pub share-met :
    (basis : Basis) (lists : List NewList) (members : List NewMembership)
    → has_needs_met basis (ask.Share lists members)
    ≡ (list_all (λ (new : NewList). is_granted_on basis new.object WRITE_ACL) lists
    && list_all (λ (new : NewMembership). is_granted_on basis new.object WRITE_DATA) members)
share-met basis lists members =
    list_all-append (is_need_met basis) (map (λ (new : NewList). just new.object WRITE_ACL) lists)
    (map (λ (new : NewMembership). just new.object WRITE_DATA) members)
    ∙ ap (λ (b : Bool). b && list_all (is_need_met basis) (map (λ (new : NewMembership). just new.object WRITE_DATA) members)) (lists-met basis lists)
    ∙ ap (λ (b : Bool). list_all (λ (new : NewList). is_granted_on basis new.object WRITE_ACL) lists && b) (groups-met basis members)

-- ---- what an owner is given

-- by policy 3 whoever has what the owner has is granted what is within READ_ACL and WRITE_ACL
pub owner-granted :
    (basis : Basis) (object : ℕ) (mask : Mask) → is_within (mask_bits mask) acl_bits ≡ true → basis.policy ≡ Three
    → is_owned_by basis.principal (basis.seen object) ≡ true → is_granted_on basis object mask ≡ true
owner-granted basis object mask within three owned = go (head_of (basis.seen object)) owned
  where
    go :
        (o : Option Head) → option_map_or (λ (head : Head). owns basis.principal head.owner) o false ≡ true
        → option_map_or (λ (reason : Reason). is_grant reason.verdict)
        (option_map (λ (head : Head). with_verdict (on object mask) (verdict_on basis head mask)) o) false
        ≡ true
    go None e = absurd (cc)
    go (Some head) e =
        let way : is_owners_way (case_on basis head) mask ≡ true =
        and_from (has_owners_way basis.policy && owns basis.principal head.owner) (is_within (mask_bits mask) acl_bits)
        (and_from (has_owners_way basis.policy) (owns basis.principal head.owner)
        (ap (λ (p : Policy). has_owners_way p) three) e)
        within in
        ap (λ (v : Verdict). is_grant v) (way_granted (case_on basis head) (entries_on basis head) mask way)

pub lists-granted :
    (basis : Basis) (lists : List NewList) → basis.policy ≡ Three
    → ((new : NewList) → Contains lists new → is_owned_by basis.principal (basis.seen new.object) ≡ true)
    → list_all (λ (new : NewList). is_granted_on basis new.object WRITE_ACL) lists ≡ true
lists-granted basis [] three owned = refl
lists-granted basis (new ∷ lists) three owned =
    and_from (is_granted_on basis new.object WRITE_ACL)
    (list_all (λ (new : NewList). is_granted_on basis new.object WRITE_ACL) lists)
    (owner-granted basis new.object WRITE_ACL refl three (owned new (first new lists)))
    (lists-granted basis lists three (λ other c. owned other (behind new lists other c)))

pub root-owns :
    (basis : Basis) (object : ℕ) (head : Head) (user : List ℕ) → basis.principal ≡ Root user
    → head_of (basis.seen object) ≡ Some head → is_owned_by basis.principal (basis.seen object) ≡ true
root-owns basis object head user root there =
    ap (λ (o : Option Head). option_map_or (λ (head : Head). owns basis.principal head.owner) o false) there
    ∙ ap (λ (p : Principal). owns p head.owner) root
