-- The lines of an audit file.
use Rattle.std.specs.Prelude.{ℕ, List, [], ◌∷◌, codes}
use Rattle.serde_json.specs.Data.{Data, string, boolean}
use Rattle.album_access.specs.Bits.{mask_bits}
use Rattle.album_eval.specs.declared.facts.Principal.{Principal}
use Rattle.album_eval.specs.declared.facts.Principal.TheVariants as principal
use Rattle.album_permits.specs.declared.notes.Note.{Note}
use Rattle.album_lines.specs.Spelling.{whole_data}
use Rattle.album_lines.specs.Output.{line_text}
use Rattle.album_wire.specs.ValueJson.{object_data, item_json, owner_text}

-- the principal, as it is spelled
abbrev pub principal_text : Principal → List ℕ
principal_text principal.Anonymous = codes "ANONYMOUS@"
principal_text (principal.User name) = owner_text name
principal_text (principal.Root name) = owner_text name

-- a note as a replay writes it, and the principal; the index is that of the entry that takes note
abbrev pub record_json : ℕ → Principal → Note → Data
record_json client who note = object_data (
    (codes "alarm", boolean note.alarm)
    ∷ (codes "audit", whole_data note.index)
    ∷ (codes "client", whole_data client)
    ∷ (codes "mask", whole_data (mask_bits note.mask))
    ∷ (codes "object", item_json note.object)
    ∷ (codes "success", boolean note.success)
    ∷ (codes "who", string (principal_text who))
    ∷ [])

-- the line
unfoldable pub record_text : ℕ → Principal → Note → List ℕ
record_text client who note = line_text (record_json client who note)
