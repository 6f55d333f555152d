-- A need is found granted exactly where it is met (`need-met`), and so are needs (`needs-met`, `granted-met`), for
-- the law `granted_where_each_need_is_met`.
use Rattle.std.proofs.Common.{◌≡◌, ◌↔◌, ◌&&◌, ◌||◌, ℕ, List, [], ◌∷◌, Bool, true, false, not, Option, Some, None, IsTrue, is_none, option_map, refl, sym, ap, ◌∙◌, if◌then◌else◌}
use Rattle.std.specs.List.{list_all, list_any, cons_option}
use Rattle.std.specs.Option.{option_map_or}
use Rattle.album_items.specs.Values.{head_of}
use Rattle.album_items.specs.declared.values.Head.{Head}
use Rattle.album_listing.specs.Basis.{Basis}
use Rattle.album_listing.specs.Reasons.{with_verdict, verdict_on, is_grant, is_granted_on}
use Rattle.album_listing.specs.declared.reasons.Alternative.{Alternative}
use Rattle.album_listing.specs.declared.reasons.Reason.{Reason}
use Rattle.album_permits.specs.Findings.{is_missing, missing_in, reasons_of, is_met, found_by, need_found, and_then_found, needs_found, ruling_of}
use Rattle.album_permits.specs.Meaning.{is_need_met, has_needs_met}
use Rattle.album_permits.specs.Needs.{needs_of}
use Rattle.album_views.specs.declared.asks.Ask.{Ask}
use Rattle.album_permits.specs.declared.findings.Finding.{Finding}
use Rattle.album_permits.specs.declared.findings.Finding.TheVariants.{Granted, Denied, Missing}

abbrev is_granted : Finding → Bool
is_granted Granted = true
is_granted (Denied reasons) = false
is_granted (Missing object) = false

is_granted-true : (f : Finding) → is_granted f ≡ true → f ≡ Granted
is_granted-true Granted e = refl
is_granted-true (Denied reasons) e = absurd (let g : false ≡ true = e in cc)
is_granted-true (Missing object) e = absurd (let g : false ≡ true = e in cc)

module _ (basis : Basis) where
  -- nothing is missing where each object is there
  missing-all :
      (need : List Alternative)
      → is_none (missing_in basis need) ≡ list_all (λ (a : Alternative). not (is_missing basis a.object)) need
  missing-all [] = refl
  missing-all (a ∷ need) = go (is_missing basis a.object) (missing-all need)
    where
      go :
          (b : Bool)
          → is_none (missing_in basis need) ≡ list_all (λ (a : Alternative). not (is_missing basis a.object)) need
          → is_none (if b then Some a.object else missing_in basis need)
          ≡ (not b && list_all (λ (a : Alternative). not (is_missing basis a.object)) need)
      go true h = refl
      go false h = h

  -- a reason grants where an alternative is granted
  met-any :
      (need : List Alternative)
      → is_met (reasons_of basis need) ≡ list_any (λ (a : Alternative). is_granted_on basis a.object a.mask) need
  met-any [] = refl
  met-any (a ∷ need) = go (head_of (basis.seen a.object)) (met-any need)
    where
      go :
          (o : Option Head)
          → is_met (reasons_of basis need) ≡ list_any (λ (a : Alternative). is_granted_on basis a.object a.mask) need
          → is_met (cons_option (option_map (λ head. with_verdict a (verdict_on basis head a.mask)) o)
          (reasons_of basis need))
          ≡ (option_map_or (λ (r : Reason). is_grant r.verdict)
          (option_map (λ head. with_verdict a (verdict_on basis head a.mask)) o) false
          || list_any (λ (a : Alternative). is_granted_on basis a.object a.mask) need)
      go None h = h
      go (Some head) h = ap (λ (b : Bool). is_grant (verdict_on basis head a.mask) || b) h

  found-granted : (o : Option ℕ) (rs : List Reason) → is_granted (found_by o rs) ≡ (is_none o && is_met rs)
  found-granted (Some object) rs = refl
  found-granted None rs = go (is_met rs)
    where
      go : (b : Bool) → is_granted (if b then Granted else Denied rs) ≡ b
      go true = refl
      go false = refl

  need-met : (need : List Alternative) → is_granted (need_found basis need) ≡ is_need_met basis need
  need-met need =
      found-granted (missing_in basis need) (reasons_of basis need)
      ∙ ap (λ (b : Bool). b && is_met (reasons_of basis need)) (missing-all need)
      ∙ ap (λ (b : Bool). list_all (λ (a : Alternative). not (is_missing basis a.object)) need && b) (met-any need)

  both-granted : (f g : Finding) → is_granted (and_then_found f g) ≡ (is_granted f && is_granted g)
  both-granted Granted g = refl
  both-granted (Denied reasons) g = refl
  both-granted (Missing object) g = refl

  needs-met :
      (needs : List (List Alternative)) → is_granted (needs_found basis needs) ≡ list_all (is_need_met basis) needs
  needs-met [] = refl
  needs-met (need ∷ needs) =
      both-granted (need_found basis need) (needs_found basis needs)
      ∙ ap (λ (b : Bool). b && is_granted (needs_found basis needs)) (need-met need)
      ∙ ap (λ (b : Bool). is_need_met basis need && b) (needs-met needs)

pub granted-met :
    (basis : Basis) (ask : Ask) → (ruling_of basis ask ≡ Granted) ↔ IsTrue (has_needs_met basis ask)
granted-met basis ask = (
  λ e. sym (needs-met basis (needs_of basis.seen ask)) ∙ ap is_granted e,
  λ met. is_granted-true (ruling_of basis ask) (needs-met basis (needs_of basis.seen ask) ∙ met),
)
