-- The lines of an event's outputs: its notes, its answers, and in a trace its messages.
use Rattle.std.specs.Prelude.{ℕ, List, [], ◌∷◌, codes, map, Option, Some, None}
use Rattle.serde_json.specs.Data.{Data, null, boolean, string}
use Rattle.album_stamps.specs.Refusals.{number_of, name_of}
use Rattle.album_stamps.specs.declared.refusals.Refusal.{Refusal}
use Rattle.album_access.specs.Bits.{mask_bits}
use Rattle.album_eval.specs.declared.verdicts.Verdict.{Verdict}
use Rattle.album_eval.specs.declared.verdicts.Verdict.TheVariants as verdict
use Rattle.album_calls.specs.declared.messages.Message.{Message}
use Rattle.album_views.specs.declared.viewing.Why.{Why}
use Rattle.album_views.specs.declared.viewing.Why.TheVariants as why
use Rattle.album_listing.specs.declared.reasons.Reason.{Reason}
use Rattle.album_permits.specs.declared.notes.Note.{Note}
use Rattle.album_permits.specs.declared.answers.Answer.{Answer}
use Rattle.album_permits.specs.declared.answers.Answer.TheVariants as answer
use Rattle.album_permits.specs.declared.outs.Out.{Out}
use Rattle.album_permits.specs.declared.outs.Out.TheVariants as out
use Rattle.album_lines.specs.Spelling.{whole_data, list_data}
use Rattle.album_lines.specs.Output.{line_text}
use Rattle.album_wire.specs.ValueJson.{object_data, item_json}
use Rattle.album_wire.specs.MessageJson.{message_json}
use Rattle.album_wire.specs.ServedJson.{served_json}

-- ---- notes

-- the index is that of the entry that takes note
abbrev pub note_fields : ℕ → Note → List (List ℕ × Data)
note_fields client note =
    (codes "alarm", boolean note.alarm)
    ∷ (codes "audit", whole_data note.index)
    ∷ (codes "client", whole_data client)
    ∷ (codes "mask", whole_data (mask_bits note.mask))
    ∷ (codes "object", item_json note.object)
    ∷ (codes "success", boolean note.success)
    ∷ []

abbrev pub note_json : ℕ → Note → Data
note_json client note = object_data (note_fields client note)

-- ---- answers

-- the index of the entry that denies, or the end; of what is granted, nothing
abbrev pub at_json : Verdict → Data
at_json verdict.Granted = null
at_json (verdict.DeniedBy index) = whole_data index
at_json verdict.DeniedAtEnd = string (codes "end")

-- [object, mask, at]
abbrev pub reason_json : Reason → Data
reason_json reason =
    list_data (item_json reason.object ∷ whole_data (mask_bits reason.mask) ∷ at_json reason.verdict ∷ [])

abbrev pub reasons_json : List Reason → Data
reasons_json reasons = list_data (map reason_json reasons)

abbrev pub denied_json : ℕ → List Reason → Data
denied_json client reasons = object_data (
    (codes "answer", string (codes "denied"))
    ∷ (codes "client", whole_data client)
    ∷ (codes "reasons", reasons_json reasons)
    ∷ [])

abbrev pub missing_json : ℕ → ℕ → Data
missing_json client object = object_data (
    (codes "answer", string (codes "missing"))
    ∷ (codes "client", whole_data client)
    ∷ (codes "object", item_json object)
    ∷ [])

abbrev pub why_word : Why → List ℕ
why_word why.Rounds = codes "rounds"
why_word why.Wide = codes "wide"

abbrev pub busy_json : ℕ → Why → Data
busy_json client why = object_data (
    (codes "answer", string (codes "busy"))
    ∷ (codes "client", whole_data client)
    ∷ (codes "why", string (why_word why))
    ∷ [])

-- a write that ended, by the word that says how
abbrev pub ended_json : ℕ → List ℕ → ℕ → Data
ended_json client word stamp = object_data (
    (codes "answer", string word)
    ∷ (codes "client", whole_data client)
    ∷ (codes "stamp", whole_data stamp)
    ∷ [])

-- a write that was left, with the refusal for which it was
abbrev pub unsettled_json : ℕ → ℕ → Refusal → Data
unsettled_json client stamp refusal = object_data (
    (codes "answer", string (codes "unsettled"))
    ∷ (codes "client", whole_data client)
    ∷ (codes "name", string (name_of refusal))
    ∷ (codes "refused", whole_data (number_of refusal))
    ∷ (codes "stamp", whole_data stamp)
    ∷ [])

-- a refusal of what was granted
abbrev pub refused_json : ℕ → Refusal → Data
refused_json client refusal = object_data (
    (codes "client", whole_data client)
    ∷ (codes "name", string (name_of refusal))
    ∷ (codes "refused", whole_data (number_of refusal))
    ∷ [])

-- the answer to the client
abbrev pub answer_json : ℕ → Answer → Data
answer_json client (answer.Served served) = served_json client served
answer_json client (answer.Denied reasons) = denied_json client reasons
answer_json client (answer.Missing object) = missing_json client object
answer_json client (answer.Busy why) = busy_json client why
answer_json client (answer.Committed stamp) = ended_json client (codes "committed") stamp
answer_json client (answer.Aborted stamp) = ended_json client (codes "aborted") stamp
answer_json client (answer.Unsettled stamp refusal) = unsettled_json client stamp refusal
answer_json client (answer.Refused refusal) = refused_json client refusal

-- ---- lines

-- The line of an output. That a message is sent has none, where the message is not at hand.
unfoldable pub out_line : Out → Option Message → List ℕ
out_line (out.Sent number) None = []
out_line (out.Sent number) (Some message) = line_text (message_json number message)
out_line (out.Noted client note) message = line_text (note_json client note)
out_line (out.Answered client answer) message = line_text (answer_json client answer)
