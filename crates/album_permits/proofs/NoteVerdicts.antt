-- Each note is of what is needed and says its verdict (`note-verdict`), no reason of a denial is granted
-- (`denied-unsuccessful`), and in the place of what a granted ask is not granted it is granted something else
-- (`granted-spared`), for the laws `notes_say_the_verdict` and `notes_go_with_the_ruling`.
use Rattle.std.proofs.Common.{◌≡◌, ◌+◌, ◌||◌, ℕ, List, [], ◌∷◌, Bool, true, false, Option, Some, None, Contains, IsTrue, is_some, map, take, position, option_map, option_to_list, refl, sym, ap, subst, ◌∙◌, if◌then◌else◌}
use Rattle.std.specs.List.{list_all, list_any, flat_map, cons_option}
use Rattle.std.specs.Option.{option_map_or}
use Rattle.std.proofs.lemmas.Bool.{and_parts, or_parts, both_ways}
use Rattle.album_lists.specs.declared.lists.Ace.{Ace}
use Rattle.album_items.specs.Values.{head_of}
use Rattle.album_items.specs.declared.values.Head.{Head}
use Rattle.album_eval.specs.Audit.{audited}
use Rattle.album_views.specs.declared.asks.Ask.{Ask}
use Rattle.album_listing.specs.Basis.{Basis}
use Rattle.album_listing.specs.Reasons.{on, case_on, entries_on, verdict_on, with_verdict, is_grant, is_granted_on}
use Rattle.album_listing.specs.declared.reasons.Alternative.{Alternative}
use Rattle.album_listing.specs.declared.reasons.Reason.{Reason}
use Rattle.album_permits.specs.Findings.{missing_in, reasons_of, is_met, found_by, need_found, and_then_found, needs_found, ruling_of}
use Rattle.album_permits.specs.Meaning.{is_need_met}
use Rattle.album_permits.specs.Needs.{needs_of}
use Rattle.album_permits.specs.Notes.{note_by, notes_on, notes_for, checked, need_notes, and_then_noted, needs_noted, notes_of}
use Rattle.album_permits.specs.Noting.{IsNeeded, IsSpared}
use Rattle.album_permits.specs.declared.findings.Finding.{Finding}
use Rattle.album_permits.specs.declared.findings.Finding.TheVariants.{Granted, Denied, Missing}
use Rattle.album_permits.specs.declared.notes.Note.{Note}
use Rattle.album_permits.proofs.Elements.{Each, each-append, each-take, each-one, first, behind}
use Rattle.album_permits.proofs.Meeting.{granted-met}

-- ---- one need

module _ (basis : Basis) (good : Alternative → Type 0) where
  -- a reason that says of a good alternative whether it is granted, and a note that says so
  abbrev IsRight : Reason → Type 0
  IsRight reason =
      (is_grant reason.verdict ≡ is_granted_on basis reason.object reason.mask) × good (on reason.object reason.mask)

  abbrev SaysVerdict : Note → Type 0
  SaysVerdict note = (note.success ≡ is_granted_on basis note.object note.mask) × good (on note.object note.mask)

  right-reasons :
      (need : List Alternative) → ((a : Alternative) → Contains need a → good a)
      → Each IsRight (reasons_of basis need)
  right-reasons [] all = tt
  right-reasons (a ∷ need) all =
      go (head_of (basis.seen a.object)) refl (right-reasons need (λ b c. all b (behind a need b c)))
    where
      go :
          (o : Option Head) → head_of (basis.seen a.object) ≡ o → Each IsRight (reasons_of basis need)
          → Each IsRight (cons_option (option_map (λ head. with_verdict a (verdict_on basis head a.mask)) o)
          (reasons_of basis need))
      go None e rest = rest
      go (Some head) e rest = (
        (
          sym (ap
              (λ (o : Option Head). option_map_or (λ (r : Reason). is_grant r.verdict)
              (option_map (λ h. with_verdict a (verdict_on basis h a.mask)) o) false)
              e),
          all a (first a need),
        ),
        rest,
      )

  says-by :
      (reason : Reason) (entries : List Ace) (indexes : List ℕ) → IsRight reason
      → Each SaysVerdict (map (note_by reason entries) indexes)
  says-by reason entries [] right = tt
  says-by reason entries (index ∷ indexes) right = (right, says-by reason entries indexes right)

  says-for : (reason : Reason) → IsRight reason → Each SaysVerdict (notes_for basis reason)
  says-for reason right = go (head_of (basis.seen reason.object))
    where
      go : (o : Option Head) → Each SaysVerdict (flat_map (notes_on basis reason) (option_to_list o))
      go None = tt
      go (Some head) =
          each-append SaysVerdict (notes_on basis reason head) []
          (says-by reason (entries_on basis head)
          (audited (case_on basis head) reason.mask (is_grant reason.verdict) (entries_on basis head)) right)
          tt

  says-each : (rs : List Reason) → Each IsRight rs → Each SaysVerdict (flat_map (notes_for basis) rs)
  says-each [] right = tt
  says-each (r ∷ rs) right =
      each-append SaysVerdict (notes_for basis r) (flat_map (notes_for basis) rs) (says-for r right.0) (says-each rs right.1)

  right-checked : (rs : List Reason) → Each IsRight rs → Each IsRight (checked rs)
  right-checked rs right = go (position (λ (reason : Reason). is_grant reason.verdict) rs)
    where
      go : (o : Option ℕ) → Each IsRight (option_map_or (λ index. take (index + 1) rs) o rs)
      go None = right
      go (Some index) = each-take IsRight (index + 1) rs right

  says-need :
      (need : List Alternative) → ((a : Alternative) → Contains need a → good a) → Each SaysVerdict (need_notes basis need)
  says-need need all = go (is_some (missing_in basis need))
    where
      go : (b : Bool) → Each SaysVerdict (if b then [] else flat_map (notes_for basis) (checked (reasons_of basis need)))
      go true = tt
      go false =
          says-each (checked (reasons_of basis need)) (right-checked (reasons_of basis need) (right-reasons need all))

  -- ---- all needs

  says-needs :
      (needs : List (List Alternative))
      → ((need : List Alternative) (a : Alternative) → Contains needs need → Contains need a → good a)
      → Each SaysVerdict (needs_noted basis needs)
  says-needs [] all = tt
  says-needs (need ∷ needs) all =
      go (need_found basis need)
      (says-need need (λ a c. all need a (first need needs) c))
      (says-needs needs (λ n a m c. all n a (behind need needs n m) c))
    where
      go :
          (f : Finding) → Each SaysVerdict (need_notes basis need) → Each SaysVerdict (needs_noted basis needs)
          → Each SaysVerdict (and_then_noted f (need_notes basis need) (needs_noted basis needs))
      go Granted one rest = each-append SaysVerdict (need_notes basis need) (needs_noted basis needs) one rest
      go (Denied reasons) one rest = one
      go (Missing object) one rest = one

-- a note of an ask is of an alternative of a need
pub note-verdict :
    (basis : Basis) (ask : Ask) (note : Note) → Contains (notes_of basis ask) note
    → (note.success ≡ is_granted_on basis note.object note.mask)
    × IsNeeded (needs_of basis.seen ask) (on note.object note.mask)
note-verdict basis ask note c =
    let good : Alternative → Type 0 = IsNeeded (needs_of basis.seen ask) in
    each-one (SaysVerdict basis good) (notes_of basis ask) note
    (says-needs basis good (needs_of basis.seen ask)
    (λ need a m c. record { need = need; among = m; one = c }))
    c

-- ---- a denial

-- no reason grants
pub none-met : (rs : List Reason) → is_met rs ≡ false → Each (λ (r : Reason). is_grant r.verdict ≡ false) rs
none-met [] e = tt
none-met (r ∷ rs) e = let parts = or_parts (is_grant r.verdict) (is_met rs) e in (parts.0, none-met rs parts.1)

module _ (basis : Basis) where
  -- a reason of a denial
  abbrev IsRefused : Reason → Type 0
  IsRefused reason = is_granted_on basis reason.object reason.mask ≡ false

  refused-both :
      (rs : List Reason) → Each (IsRight basis (λ a. Unit {0})) rs → Each (λ (r : Reason). is_grant r.verdict ≡ false) rs
      → Each IsRefused rs
  refused-both [] right none = tt
  refused-both (r ∷ rs) right none = (sym right.0.0 ∙ none.0, refused-both rs right.1 none.1)

  refused-need :
      (need : List Alternative) (reasons : List Reason) → need_found basis need ≡ Denied reasons → Each IsRefused reasons
  refused-need need reasons e = missing (missing_in basis need) e
    where
      met :
          (b : Bool) → is_met (reasons_of basis need) ≡ b
          → (if b then Granted else Denied (reasons_of basis need)) ≡ Denied reasons → Each IsRefused reasons
      met true m e = absurd (cc)
      met false m e =
          let same : reasons_of basis need ≡ reasons = cc in
          subst (Each IsRefused) same
          (refused-both (reasons_of basis need) (right-reasons basis (λ a. Unit {0}) need (λ a c. tt))
          (none-met (reasons_of basis need) m))

      missing : (o : Option ℕ) → found_by o (reasons_of basis need) ≡ Denied reasons → Each IsRefused reasons
      missing (Some object) e = absurd (cc)
      missing None e = met (is_met (reasons_of basis need)) refl e

  refused-needs :
      (needs : List (List Alternative)) (reasons : List Reason) → needs_found basis needs ≡ Denied reasons
      → Each IsRefused reasons
  refused-needs [] reasons e = absurd (cc)
  refused-needs (need ∷ needs) reasons e = go (need_found basis need) refl e (refused-needs needs reasons)
    where
      go :
          (f : Finding) → need_found basis need ≡ f → and_then_found f (needs_found basis needs) ≡ Denied reasons
          → (needs_found basis needs ≡ Denied reasons → Each IsRefused reasons) → Each IsRefused reasons
      go Granted same e rest = rest e
      go (Denied rs) same e rest = refused-need need reasons (same ∙ e)
      go (Missing object) same e rest = absurd (cc)

pub denied-unsuccessful :
    (basis : Basis) (ask : Ask) (reasons : List Reason) (reason : Reason) (note : Note)
    → ruling_of basis ask ≡ Denied reasons → Contains reasons reason → Contains (notes_of basis ask) note
    → on note.object note.mask ≡ on reason.object reason.mask → note.success ≡ false
denied-unsuccessful basis ask reasons reason note e r c same =
    (note-verdict basis ask note c).0
    ∙ ap (λ (a : Alternative). is_granted_on basis a.object a.mask) same
    ∙ each-one (IsRefused basis) reasons reason (refused-needs basis (needs_of basis.seen ask) reasons e) r

-- ---- a grant

-- one that passes
abbrev HasGranted : Basis → List Alternative → Type 0
HasGranted basis need =
    (other : Alternative) × Contains need other × IsTrue (is_granted_on basis other.object other.mask)

some-passes :
    (basis : Basis) (need : List Alternative)
    → list_any (λ (a : Alternative). is_granted_on basis a.object a.mask) need ≡ true → HasGranted basis need
some-passes basis [] e = absurd (both_ways false refl e)
some-passes basis (a ∷ need) e = go (is_granted_on basis a.object a.mask) refl e (some-passes basis need)
  where
    go :
        (b : Bool) → is_granted_on basis a.object a.mask ≡ b
        → (b || list_any (λ (a : Alternative). is_granted_on basis a.object a.mask) need) ≡ true
        → (list_any (λ (a : Alternative). is_granted_on basis a.object a.mask) need ≡ true → HasGranted basis need)
        → HasGranted basis (a ∷ need)
    go true same e rest = (a, first a need, same)
    go false same e rest = let found = rest e in (found.0, behind a need found.0 found.1, found.2)

each-met :
    (basis : Basis) (needs : List (List Alternative)) → list_all (is_need_met basis) needs ≡ true
    → Each (λ need. is_need_met basis need ≡ true) needs
each-met basis [] e = tt
each-met basis (need ∷ needs) e =
    let parts = and_parts (is_need_met basis need) (list_all (is_need_met basis) needs) e in
    (parts.0, each-met basis needs parts.1)

pub granted-spared :
    (basis : Basis) (ask : Ask) (note : Note) → ruling_of basis ask ≡ Granted → Contains (notes_of basis ask) note
    → IsSpared basis (needs_of basis.seen ask) (on note.object note.mask)
granted-spared basis ask note e c =
    let needed = (note-verdict basis ask note c).1 in
    let met : is_need_met basis needed.need ≡ true =
    each-one (λ need. is_need_met basis need ≡ true) (needs_of basis.seen ask) needed.need
    (each-met basis (needs_of basis.seen ask) ((granted-met basis ask).0 e)) needed.among in
    let some = some-passes basis needed.need (and_parts _ _ met).1 in
    record {
      need = needed.need;
      among = needed.among;
      one = needed.one;
      other = some.0;
      also = some.1;
      granted = some.2;
    }
