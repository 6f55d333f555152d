-- What the list of an object says of a mask.
use Rattle.std.specs.Prelude.{ℕ, List, Bool, true, false, Option, option_map}
use Rattle.std.specs.Option.{option_map_or}
use Rattle.album_access.specs.declared.masks.Mask.{Mask}
use Rattle.album_lists.specs.declared.lists.Ace.{Ace}
use Rattle.album_eval.specs.Matching.{Case}
use Rattle.album_eval.specs.Verdict.{verdict}
use Rattle.album_eval.specs.declared.verdicts.Verdict.{Verdict}
use Rattle.album_eval.specs.declared.verdicts.Verdict.TheVariants.{Granted, DeniedBy, DeniedAtEnd}
use Rattle.album_items.specs.ItemIds.{list}
use Rattle.album_items.specs.Values.{head_of, entries_of}
use Rattle.album_items.specs.declared.values.Head.{Head}
use Rattle.album_listing.specs.Basis.{Basis}
use Rattle.album_listing.specs.declared.reasons.Alternative.{Alternative}
use Rattle.album_listing.specs.declared.reasons.Reason.{Reason}

-- the mask on the object
abbrev pub on : ℕ → Mask → Alternative
on object mask = record { object = object; mask = mask }

-- what the list of an object with this head is judged by
abbrev pub case_on : Basis → Head → Case
case_on basis head =
    record {
      policy = basis.policy;
      principal = basis.principal;
      owner = head.owner;
      head_group = head.group;
      is_in = basis.is_in;
    }

-- the entries of the list that the head names; a list that is missing has none
abbrev pub entries_on : Basis → Head → List Ace
entries_on basis head = entries_of (basis.seen (list head.list))

-- what that list says of the mask
abbrev pub verdict_on : Basis → Head → Mask → Verdict
verdict_on basis head mask = verdict (case_on basis head) (entries_on basis head) mask

abbrev pub with_verdict : Alternative → Verdict → Reason
with_verdict alternative verdict =
    record { object = alternative.object; mask = alternative.mask; verdict = verdict }

-- the verdict on an alternative, if its object is there: what is there has a head
abbrev pub reason_of : Basis → Alternative → Option Reason
reason_of basis alternative =
    option_map (λ head. with_verdict alternative (verdict_on basis head alternative.mask))
    (head_of (basis.seen alternative.object))

abbrev pub is_grant : Verdict → Bool
is_grant Granted = true
is_grant (DeniedBy index) = false
is_grant DeniedAtEnd = false

-- the mask is granted on the object, which is there
abbrev pub is_granted_on : Basis → ℕ → Mask → Bool
is_granted_on basis object mask =
    option_map_or (λ (reason : Reason). is_grant reason.verdict) (reason_of basis (on object mask)) false
