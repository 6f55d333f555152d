-- What the store judges is what `album judge` judges, for the laws of `judging`.
use Rattle.std.proofs.Common.{◌≡◌, true, false, Option, Some, ◌↔◌, IsTrue, ℕ, List, refl, sym, ap, subst, ◌∙◌}
use Rattle.std.specs.Option.{option_map, option_map_or}
use Rattle.album_access.specs.declared.masks.Mask.{Mask}
use Rattle.album_lists.specs.declared.lists.Ace.{Ace}
use Rattle.album_eval.proofs.Computing.{one_verdict, verdict_computed}
use Rattle.album_eval.specs.Verdict.{verdict, IsVerdict}
use Rattle.album_eval.specs.declared.verdicts.Verdict.{Verdict}
use Rattle.album_eval.specs.declared.verdicts.Verdict.TheVariants.{Granted, DeniedBy, DeniedAtEnd}
use Rattle.album_items.specs.ItemIds.{list}
use Rattle.album_items.specs.Values.{head_of, entries_of}
use Rattle.album_items.specs.declared.values.Head.{Head}
use Rattle.album_items.specs.declared.values.Value.{Value}
use Rattle.album_items.specs.declared.values.Value.TheVariants as value
use Rattle.album_listing.specs.Basis.{Basis}
use Rattle.album_listing.specs.Reasons.{case_on, verdict_on, with_verdict, on, reason_of, is_grant, is_granted_on}
use Rattle.album_listing.specs.declared.reasons.Alternative.{Alternative}
use Rattle.album_listing.specs.declared.reasons.Reason.{Reason}
use Rattle.album_tests_laws.proofs.Denials.{some-or}

grant-is : (v : Verdict) → is_grant v ≡ true → v ≡ Granted
grant-is Granted e = refl
grant-is (DeniedBy i) e = absurd (cc)
grant-is DeniedAtEnd e = absurd (cc)

pub judged-grant :
    (basis : Basis) (object : ℕ) (mask : Mask) (head : Head) (entries : List Ace)
    → head_of (basis.seen object) ≡ Some head → basis.seen (list head.list) ≡ value.List entries
    → IsTrue (is_granted_on basis object mask) ↔ IsVerdict (case_on basis head) entries mask Granted
judged-grant basis object mask head entries there listed =
    let case = case_on basis head in
    let v : Verdict = verdict case entries mask in
    let is : is_granted_on basis object mask ≡ is_grant v =
    ap
    (λ (o : Option Head). option_map_or (λ (reason : Reason). is_grant reason.verdict)
    (option_map (λ (h : Head). with_verdict (on object mask) (verdict_on basis h mask)) o) false)
    there
    ∙ ap (λ (value : Value). is_grant (verdict case (entries_of value) mask)) listed
    in (
      λ yes. subst (λ (w : Verdict). IsVerdict case entries mask w) (grant-is v (sym is ∙ yes))
          (verdict_computed case entries mask),
      λ judged. is ∙ ap is_grant (one_verdict case entries mask v Granted (verdict_computed case entries mask) judged),
    )

-- the reason that is found is this one
same-reason :
    (basis : Basis) (alternative : Alternative) (reason : Reason) (head : Head)
    → head_of (basis.seen alternative.object) ≡ Some head → reason_of basis alternative ≡ Some reason
    → with_verdict alternative (verdict_on basis head alternative.mask) ≡ reason
same-reason basis alternative reason head there found =
    ap (some-or reason)
    (sym (ap (option_map (λ (h : Head). with_verdict alternative (verdict_on basis h alternative.mask))) there) ∙ found)

pub judged-reason :
    (basis : Basis) (alternative : Alternative) (reason : Reason) (head : Head) (entries : List Ace)
    → head_of (basis.seen alternative.object) ≡ Some head → basis.seen (list head.list) ≡ value.List entries
    → reason_of basis alternative ≡ Some reason
    → IsVerdict (case_on basis head) entries alternative.mask reason.verdict
judged-reason basis alternative reason head entries there listed found =
    let case = case_on basis head in
    let judged : verdict case entries alternative.mask ≡ reason.verdict =
    sym (ap (λ (value : Value). verdict case (entries_of value) alternative.mask) listed)
    ∙ ap (λ (r : Reason). r.verdict) (same-reason basis alternative reason head there found)
    in
    subst (λ (w : Verdict). IsVerdict case entries alternative.mask w) judged
    (verdict_computed case entries alternative.mask)

pub reason-of-alternative :
    (basis : Basis) (alternative : Alternative) (reason : Reason) (head : Head)
    → head_of (basis.seen alternative.object) ≡ Some head → reason_of basis alternative ≡ Some reason
    → (reason.object ≡ alternative.object) × (reason.mask ≡ alternative.mask)
reason-of-alternative basis alternative reason head there found =
    let same = same-reason basis alternative reason head there found in
    (sym (ap (λ (r : Reason). r.object) same), sym (ap (λ (r : Reason). r.mask) same))
