use Rattle.std.proofs.Common.{◌≡◌, Some, Contains, List, ap, subst}
use Rattle.album_listing.specs.Reasons.{is_grant, reason_of}
use Rattle.album_listing.specs.declared.reasons.Alternative.{Alternative}
use Rattle.album_listing.specs.declared.reasons.Reason.{Reason}
use Rattle.album_permits.specs.Needs.{needs_of}
use Rattle.album_tests_laws.proofs.Denials.{comes-from, reason-of-one, no-grant, same-alternative}
use Rattle.album_tests_laws.proofs.Judged.{judged-reason}
use Rattle.album_tests_laws.proofs.judging.denials_name_what_denies.Goals as goal

pub returns : goal.returns
returns c basis ask reasons reason head entries denied among there listed =
    let from = comes-from basis (needs_of basis.seen ask) reasons denied in
    let of = reason-of-one basis from.need reason (subst (λ (rs : List Reason). Contains rs reason) from.same among) in
    let alike = same-alternative basis of.alternative reason of.is in
    let is : reason_of basis (record { object = reason.object; mask = reason.mask }) ≡ Some reason =
    subst (λ (a : Alternative). reason_of basis a ≡ Some reason) alike of.is
    in (
      record {
        need = from.need;
        listed = from.listed;
        asked = subst (λ (a : Alternative). Contains from.need a) alike of.among;
      },
      λ granted. absurd (cc (ap is_grant granted, no-grant reasons reason from.unmet among)),
      judged-reason basis (record { object = reason.object; mask = reason.mask }) reason head entries there listed is,
    )
