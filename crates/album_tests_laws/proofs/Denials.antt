-- Where a denial comes from, for the law `denials_name_what_denies`: it has the reasons of one need, none of which is a
-- grant.
use Rattle.std.proofs.Common.{◌≡◌, ◌<◌, ℕ, zero, suc, List, [], ◌∷◌, Bool, true, false, Contains, Option, Some, None, length, cond, refl, sym, ap, subst, ◌∙◌, arith, ◌||◌}
use Rattle.std.specs.List.{cons_option, slice_index_or}
use Rattle.std.specs.Option.{option_map}
use Rattle.album_items.specs.Values.{head_of}
use Rattle.album_items.specs.declared.values.Head.{Head}
use Rattle.album_listing.specs.Basis.{Basis}
use Rattle.album_listing.specs.Reasons.{reason_of, is_grant, verdict_on, with_verdict}
use Rattle.album_listing.specs.declared.reasons.Alternative.{Alternative}
use Rattle.album_listing.specs.declared.reasons.Reason.{Reason}
use Rattle.album_permits.specs.Findings.{missing_in, reasons_of, is_met, found_by, need_found, and_then_found, needs_found}
use Rattle.album_permits.specs.declared.findings.Finding.{Finding}
use Rattle.album_permits.specs.declared.findings.Finding.TheVariants.{Granted, Denied, Missing}
use Rattle.album_permits.proofs.Elements.{first, behind}

-- the reason, if there is one
abbrev pub some-or : Reason → Option Reason → Reason
some-or other None = other
some-or other (Some reason) = reason

-- the reasons of a denial
abbrev reasons-in : Finding → List Reason
reasons-in Granted = []
reasons-in (Denied reasons) = reasons
reasons-in (Missing object) = []

-- the alternative that a reason is of
pub record IsOf (basis : Basis) (need : List Alternative) (reason : Reason) : Type 0 where
  pub alternative : Alternative
  pub among : Contains need alternative
  pub is : reason_of basis alternative ≡ Some reason

pub record ComesFrom (basis : Basis) (needs : List (List Alternative)) (reasons : List Reason) : Type 0 where
  pub need : List Alternative
  pub listed : Contains needs need
  pub same : reasons ≡ reasons_of basis need
  pub unmet : is_met reasons ≡ false

denied-need :
    (basis : Basis) (need : List Alternative) (reasons : List Reason) → need_found basis need ≡ Denied reasons
    → (reasons ≡ reasons_of basis need) × (is_met reasons ≡ false)
denied-need basis need reasons e = go (missing_in basis need) (is_met (reasons_of basis need)) refl e
  where
    go :
        (o : Option ℕ) (b : Bool) → is_met (reasons_of basis need) ≡ b
        → found_by o (reasons_of basis need) ≡ Denied reasons
        → (reasons ≡ reasons_of basis need) × (is_met reasons ≡ false)
    go (Some object) b met denied = absurd (cc)
    go None b met denied = by b met (subst (λ (m : Bool). cond m Granted (Denied (reasons_of basis need)) ≡ Denied reasons) met denied)
      where
        by :
            (m : Bool) → is_met (reasons_of basis need) ≡ m
            → cond m Granted (Denied (reasons_of basis need)) ≡ Denied reasons
            → (reasons ≡ reasons_of basis need) × (is_met reasons ≡ false)
        by true h d = absurd (cc)
        by false h d =
            let same : reasons ≡ reasons_of basis need = sym (ap reasons-in d) in
            (same, ap is_met same ∙ h)

pub comes-from :
    (basis : Basis) (needs : List (List Alternative)) (reasons : List Reason)
    → needs_found basis needs ≡ Denied reasons → ComesFrom basis needs reasons
comes-from basis [] reasons e = absurd (cc)
comes-from basis (need ∷ needs) reasons e =
    go (need_found basis need) refl e (comes-from basis needs reasons)
  where
    go :
        (f : Finding) → need_found basis need ≡ f → and_then_found f (needs_found basis needs) ≡ Denied reasons
        → (needs_found basis needs ≡ Denied reasons → ComesFrom basis needs reasons)
        → ComesFrom basis (need ∷ needs) reasons
    go Granted is denied later =
        let rest = later denied in
        record { need = rest.need; listed = behind need needs rest.need rest.listed; same = rest.same; unmet = rest.unmet }
    go (Denied others) is denied later =
        let here = denied-need basis need reasons (is ∙ denied) in
        record { need = need; listed = first need needs; same = here.0; unmet = here.1 }
    go (Missing object) is denied later = absurd (cc)

pub reason-of-one :
    (basis : Basis) (need : List Alternative) (reason : Reason) → Contains (reasons_of basis need) reason
    → IsOf basis need reason
reason-of-one basis [] reason c = absurd (omega (arith, c.1))
reason-of-one basis (alternative ∷ need) reason c =
    go (reason_of basis alternative) refl c (reason-of-one basis need reason)
  where
    later : IsOf basis need reason → IsOf basis (alternative ∷ need) reason
    later of = record {
      alternative = of.alternative;
      among = behind alternative need of.alternative of.among;
      is = of.is;
    }

    go :
        (o : Option Reason) → reason_of basis alternative ≡ o → Contains (cons_option o (reasons_of basis need)) reason
        → (Contains (reasons_of basis need) reason → IsOf basis need reason) → IsOf basis (alternative ∷ need) reason
    go None is d rest = later (rest d)
    go (Some found) is d rest = at d.0 d.1 d.2
      where
        at :
            (k : ℕ) → k < suc (length (reasons_of basis need))
            → slice_index_or (found ∷ reasons_of basis need) k reason ≡ reason → IsOf basis (alternative ∷ need) reason
        at zero below same = record {
          alternative = alternative;
          among = first alternative need;
          is = is ∙ ap (λ (r : Reason). Some r) same;
        }
        at (suc k) below same = later (rest (k, omega (arith, below), same))

-- none of the reasons is a grant
pub no-grant :
    (reasons : List Reason) (reason : Reason) → is_met reasons ≡ false → Contains reasons reason
    → is_grant reason.verdict ≡ false
no-grant [] reason unmet c = absurd (omega (arith, c.1))
no-grant (r ∷ reasons) reason unmet c = go (is_grant r.verdict) refl unmet (no-grant reasons reason) c.0 c.1 c.2
  where
    go :
        (b : Bool) → is_grant r.verdict ≡ b → (b || is_met reasons) ≡ false
        → (is_met reasons ≡ false → Contains reasons reason → is_grant reason.verdict ≡ false)
        → (k : ℕ) → k < suc (length reasons) → slice_index_or (r ∷ reasons) k reason ≡ reason
        → is_grant reason.verdict ≡ false
    go true is h rest k below same = absurd (cc)
    go false is h rest zero below same = subst (λ (x : Reason). is_grant x.verdict ≡ false) same is
    go false is h rest (suc k) below same = rest h (k, omega (arith, below), same)

-- a reason is of the object and the mask of its alternative
pub same-alternative :
    (basis : Basis) (alternative : Alternative) (reason : Reason) → reason_of basis alternative ≡ Some reason
    → alternative ≡ record { object = reason.object; mask = reason.mask }
same-alternative basis alternative reason e = go (head_of (basis.seen alternative.object)) e
  where
    go :
        (o : Option Head)
        → option_map (λ (head : Head). with_verdict alternative (verdict_on basis head alternative.mask)) o ≡ Some reason
        → alternative ≡ record { object = reason.object; mask = reason.mask }
    go None same = absurd (cc)
    go (Some head) same =
        ap (λ (r : Reason). record { object = r.object; mask = r.mask }) (ap (some-or reason) same)
