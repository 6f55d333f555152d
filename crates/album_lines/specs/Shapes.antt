-- The shapes of entries, members and groups in a line: which parts they have, before any of these is tested further.
use Rattle.std.specs.Prelude.{ℕ, List, codes, bytes_eq, if◌then◌else◌, Option, Some, None, Result, Ok}
use Rattle.std.specs.Option.{ok_or}
use Rattle.serde_json.specs.Data.{Data}
use Rattle.album_stamps.specs.declared.refusals.Refusal.{Refusal}
use Rattle.album_stamps.specs.declared.refusals.Refusal.TheVariants.{BadRequest}
use Rattle.album_stamps.specs.Outcome.{◌>>=◌}
use Rattle.album_access.specs.declared.types.AceType.{AceType}
use Rattle.album_access.specs.declared.types.AceType.TheVariants.{Allowed, Denied, Audit, Alarm}
use Rattle.album_lines.specs.declared.shapes.EntryShape.{EntryShape}
use Rattle.album_lines.specs.Fields.{item_of, text_of, whole_of, list_of, sized, each}

-- an entry as it is spelled
pub record SpelledEntry : Type 0 where
  pub sort : AceType
  pub who : List ℕ
  pub mask : ℕ
  pub flags : ℕ

abbrev pub spelled_entry : EntryShape → SpelledEntry
spelled_entry e = record { sort = e.sort; who = e.who.now; mask = e.mask; flags = e.flags }

-- the word of a type
abbrev pub sort_of : List ℕ → Option AceType
sort_of word =
    if bytes_eq word (codes "allow") then Some Allowed
    else if bytes_eq word (codes "deny") then Some Denied
    else if bytes_eq word (codes "audit") then Some Audit
    else if bytes_eq word (codes "alarm") then Some Alarm
    else None

-- [type, who, mask, flags]
unfoldable pub entry_shape_of : Data → Result SpelledEntry Refusal
entry_shape_of d = do
  _ ← sized 4 d
  sort ← item_of 0 d >>= text_of >>= λ word. ok_or (sort_of word) BadRequest
  who ← item_of 1 d >>= text_of
  mask ← item_of 2 d >>= whole_of
  flags ← item_of 3 d >>= whole_of
  Ok (record { sort = sort; who = who; mask = mask; flags = flags })

-- a list of entries, and a list of texts
abbrev pub entry_shapes_of : Data → Result (List SpelledEntry) Refusal
entry_shapes_of d = list_of d >>= each entry_shape_of

abbrev pub texts_of : Data → Result (List (List ℕ)) Refusal
texts_of d = list_of d >>= each text_of
