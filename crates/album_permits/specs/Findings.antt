-- What is found of the needs of an ask: whether it is granted, or else why not.
use Rattle.std.specs.Prelude.{ℕ, List, [], ◌∷◌, Bool, Option, Some, None, is_none, map, find, if◌then◌else◌}
use Rattle.std.specs.List.{list_any, filter_map}
use Rattle.album_items.specs.Values.{head_of}
use Rattle.album_views.specs.declared.asks.Ask.{Ask}
use Rattle.album_listing.specs.Basis.{Basis}
use Rattle.album_listing.specs.Reasons.{reason_of, is_grant}
use Rattle.album_listing.specs.declared.reasons.Alternative.{Alternative}
use Rattle.album_listing.specs.declared.reasons.Reason.{Reason}
use Rattle.album_permits.specs.Needs.{needs_of}
use Rattle.album_permits.specs.declared.findings.Finding.{Finding}
use Rattle.album_permits.specs.declared.findings.Finding.TheVariants.{Granted, Denied, Missing}

-- ---- one need

-- the object is not there: what is there has a head
abbrev pub is_missing : Basis → ℕ → Bool
is_missing basis object = is_none (head_of (basis.seen object))

-- the first object of the need that is not there
abbrev pub missing_in : Basis → List Alternative → Option ℕ
missing_in basis need = find (is_missing basis) (map (λ alternative. alternative.object) need)

-- what is said of each alternative whose object is there
abbrev pub reasons_of : Basis → List Alternative → List Reason
reasons_of basis need = filter_map (reason_of basis) need

-- one of the alternatives is granted
abbrev pub is_met : List Reason → Bool
is_met reasons = list_any (λ (reason : Reason). is_grant reason.verdict) reasons

-- a need with a missing object fails, whatever else is said
abbrev pub found_by : Option ℕ → List Reason → Finding
found_by (Some object) reasons = Missing object
found_by None reasons = if is_met reasons then Granted else Denied reasons

abbrev pub need_found : Basis → List Alternative → Finding
need_found basis need = found_by (missing_in basis need) (reasons_of basis need)

-- ---- all needs

-- what is found of later needs counts where this one is met
abbrev pub and_then_found : Finding → Finding → Finding
and_then_found Granted later = later
and_then_found (Denied reasons) later = Denied reasons
and_then_found (Missing object) later = Missing object

-- the first need that fails decides; where none fails, it is granted
abbrev pub needs_found : Basis → List (List Alternative) → Finding
needs_found basis [] = Granted
needs_found basis (need ∷ needs) = and_then_found (need_found basis need) (needs_found basis needs)

-- the ruling on an ask
abbrev pub ruling_of : Basis → Ask → Finding
ruling_of basis ask = needs_found basis (needs_of basis.seen ask)
