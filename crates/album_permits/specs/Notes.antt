-- What is noted as an ask is ruled on (RFC 7530, section 6.2.1.1: AUDIT and ALARM entries).
use Rattle.std.specs.Prelude.{ℕ, List, [], ◌∷◌, ◌++◌, ◌+◌, Bool, true, false, is_some, map, take, position, option_to_list, if◌then◌else◌}
use Rattle.std.specs.List.{flat_map, slice_get}
use Rattle.std.specs.Option.{option_map_or}
use Rattle.album_access.specs.declared.types.AceType.{AceType}
use Rattle.album_access.specs.declared.types.AceType.TheVariants as sort
use Rattle.album_lists.specs.declared.lists.Ace.{Ace}
use Rattle.album_eval.specs.Audit.{audited}
use Rattle.album_items.specs.Values.{head_of}
use Rattle.album_items.specs.declared.values.Head.{Head}
use Rattle.album_views.specs.declared.asks.Ask.{Ask}
use Rattle.album_listing.specs.Basis.{Basis}
use Rattle.album_listing.specs.Reasons.{case_on, entries_on, is_grant}
use Rattle.album_listing.specs.declared.reasons.Alternative.{Alternative}
use Rattle.album_listing.specs.declared.reasons.Reason.{Reason}
use Rattle.album_permits.specs.Needs.{needs_of}
use Rattle.album_permits.specs.Findings.{missing_in, reasons_of, need_found}
use Rattle.album_permits.specs.declared.findings.Finding.{Finding}
use Rattle.album_permits.specs.declared.findings.Finding.TheVariants.{Granted, Denied, Missing}
use Rattle.album_permits.specs.declared.notes.Note.{Note}

-- ---- one alternative

abbrev pub is_alarm : AceType → Bool
is_alarm sort.Allowed = false
is_alarm sort.Denied = false
is_alarm sort.Audit = false
is_alarm sort.Alarm = true

-- the entry at the index is an alarm
abbrev pub is_alarm_at : List Ace → ℕ → Bool
is_alarm_at entries index = option_map_or (λ (entry : Ace). is_alarm entry.sort) (slice_get entries index) false

-- the entry at the index takes note of what was said of an alternative
abbrev pub note_by : Reason → List Ace → ℕ → Note
note_by reason entries index =
    record {
      object = reason.object;
      mask = reason.mask;
      index = index;
      alarm = is_alarm_at entries index;
      success = is_grant reason.verdict;
    }

-- a note of each entry that takes note, in order, in the list of an object with this head
abbrev pub notes_on : Basis → Reason → Head → List Note
notes_on basis reason head =
    map (note_by reason (entries_on basis head))
    (audited (case_on basis head) reason.mask (is_grant reason.verdict) (entries_on basis head))

abbrev pub notes_for : Basis → Reason → List Note
notes_for basis reason = flat_map (notes_on basis reason) (option_to_list (head_of (basis.seen reason.object)))

-- ---- one need

-- alternatives are checked in order, up to the first that is granted
abbrev pub checked : List Reason → List Reason
checked reasons =
    option_map_or (λ index. take (index + 1) reasons)
    (position (λ (reason : Reason). is_grant reason.verdict) reasons) reasons

-- the notes of the alternatives that are checked; where an object is missing, none is
abbrev pub need_notes : Basis → List Alternative → List Note
need_notes basis need =
    if is_some (missing_in basis need) then [] else flat_map (notes_for basis) (checked (reasons_of basis need))

-- ---- all needs

-- later needs are checked where this one is met
abbrev pub and_then_noted : Finding → List Note → List Note → List Note
and_then_noted Granted notes later = notes ++ later
and_then_noted (Denied reasons) notes later = notes
and_then_noted (Missing object) notes later = notes

abbrev pub needs_noted : Basis → List (List Alternative) → List Note
needs_noted basis [] = []
needs_noted basis (need ∷ needs) =
    and_then_noted (need_found basis need) (need_notes basis need) (needs_noted basis needs)

-- the notes of the ruling on an ask
abbrev pub notes_of : Basis → Ask → List Note
notes_of basis ask = needs_noted basis (needs_of basis.seen ask)
