-- What the audit file of a service has.
use Rattle.std.specs.Prelude.{ℕ, List, [], ◌+◌, ◌-◌, ◌++◌, length, take, drop, codes, decimal, Bool, true, false, Option, Some, None}
use Rattle.std.specs.List.{flat_map}
use Rattle.std.specs.Option.{unwrap_or}
use Rattle.std.specs.Ordering.{nat_cmp}
use Rattle.std.specs.BTreeMap.{BTreeMap, get}
use Rattle.album_audit.specs.declared.totals.Record.{Record}
use Rattle.album_eval.specs.declared.facts.Principal.{Principal}
use Rattle.album_eval.specs.declared.facts.Principal.TheVariants as principal
use Rattle.album_items.specs.ItemIds.{text_of}
use Rattle.album_permits.specs.declared.notes.Note.{Note}
use Rattle.album_stamps.specs.Refusals.{name_of}
use Rattle.album_stamps.specs.declared.refusals.Refusal.{Refusal}
use Rattle.album_talk.specs.Endings.{word_text}
use Rattle.album_talk.specs.declared.endings.AskWord.{AskWord}
use Rattle.album_talk.specs.declared.endings.Ending.{Ending}
use Rattle.album_talk.specs.declared.endings.Outcome.{Outcome}
use Rattle.album_talk.specs.declared.endings.Outcome.TheVariants as outcome
use Rattle.album_wire.specs.RecordJson.{principal_text, record_text}

-- the principal that talks over the connection of this client, if it is known
abbrev pub named_in : BTreeMap ℕ Principal → ℕ → Option Principal
named_in named client = get nat_cmp named client

-- the same; a principal that isn't known is Anonymous
abbrev pub who_in : BTreeMap ℕ Principal → ℕ → Principal
who_in named client = unwrap_or (named_in named client) principal.Anonymous

-- what is asked over the connection of this client, if that is known
abbrev pub asked_in : BTreeMap ℕ AskWord → ℕ → Option AskWord
asked_in asked client = get nat_cmp asked client

-- ---- the word of what was asked, and the moment, in the line of a note

-- how many bytes a line ends in from its last key on, which has this principal: seven before it, and three after it
abbrev pub who_len : Principal → ℕ
who_len who = length (principal_text who) + 10

-- the key of a moment, and a comma
abbrev pub moment_member : List ℕ → List ℕ
moment_member moment = codes "\"time\":\"" ++ moment ++ codes "\","

-- a text with more before so many bytes of its end
abbrev pub put_before : List ℕ → ℕ → List ℕ → List ℕ
put_before more last text = take (length text - last) text ++ more ++ drop (length text - last) text

-- how many bytes the first key of a note's line takes, with its value, the brace and the comma
abbrev pub alarm_len : Bool → ℕ
alarm_len true = length (codes "{\"alarm\":true,")
alarm_len false = length (codes "{\"alarm\":false,")

-- the key of what was asked, and a comma
abbrev pub ask_member : Option AskWord → List ℕ
ask_member None = []
ask_member (Some ask) = codes "\"ask\":\"" ++ word_text ask ++ codes "\","

-- a text with more behind its first bytes
abbrev pub put_behind : List ℕ → ℕ → List ℕ → List ℕ
put_behind more first text = take first text ++ more ++ drop first text

-- The line of a record that was written at this moment. What was asked stands behind the first key, and the moment
-- before the principal.
abbrev pub dated_record : List ℕ → ℕ → Principal → Option AskWord → Note → List ℕ
dated_record moment client who ask note =
    put_before (moment_member moment) (who_len who)
    (put_behind (ask_member ask) (alarm_len note.alarm) (record_text client who note))

-- ---- the lines of notes

-- a line for each of the records, in their order, with the moment, and with the principal that asked, and what it asked
abbrev pub record_lines : List ℕ → (ℕ → Principal) → (ℕ → Option AskWord) → List Record → List ℕ
record_lines moment who asked records =
    flat_map (λ of. dated_record moment of.client (who of.client) (asked of.client) of.note) records

-- ---- the line of how a request has ended

abbrev pub asked_members : AskWord → ℕ → List ℕ
asked_members ask client =
    codes "{\"ask\":\"" ++ word_text ask ++ codes "\",\"client\":" ++ decimal client ++ codes ","

abbrev pub name_member : Refusal → List ℕ
name_member why = codes "\"name\":\"" ++ name_of why ++ codes "\","

-- why it is refused, or isn't settled
abbrev pub refusal_member : Outcome → List ℕ
refusal_member outcome.Served = []
refusal_member outcome.Denied = []
refusal_member outcome.Missing = []
refusal_member outcome.Busy = []
refusal_member (outcome.Committed stamp) = []
refusal_member (outcome.Aborted stamp) = []
refusal_member (outcome.Unsettled stamp why) = name_member why
refusal_member (outcome.Refused why) = name_member why

abbrev pub object_member : Option ℕ → List ℕ
object_member None = []
object_member (Some object) = codes "\"object\":\"" ++ text_of object ++ codes "\","

-- the word of its answer; what is refused has none there
abbrev pub outcome_text : Outcome → List ℕ
outcome_text outcome.Served = codes "served"
outcome_text outcome.Denied = codes "denied"
outcome_text outcome.Missing = codes "missing"
outcome_text outcome.Busy = codes "busy"
outcome_text (outcome.Committed stamp) = codes "committed"
outcome_text (outcome.Aborted stamp) = codes "aborted"
outcome_text (outcome.Unsettled stamp why) = codes "unsettled"
outcome_text (outcome.Refused why) = codes "refused"

abbrev pub number_member : ℕ → List ℕ
number_member stamp = codes "\"stamp\":" ++ decimal stamp ++ codes ","

-- the stamp of its write, if there was one
abbrev pub stamp_member : Outcome → List ℕ
stamp_member outcome.Served = []
stamp_member outcome.Denied = []
stamp_member outcome.Missing = []
stamp_member outcome.Busy = []
stamp_member (outcome.Committed stamp) = number_member stamp
stamp_member (outcome.Aborted stamp) = number_member stamp
stamp_member (outcome.Unsettled stamp why) = number_member stamp
stamp_member (outcome.Refused why) = []

abbrev pub outcome_members : Outcome → List ℕ
outcome_members outcome =
    codes "\"outcome\":\"" ++ outcome_text outcome ++ codes "\"," ++ stamp_member outcome

abbrev pub last_members : List ℕ → Principal → List ℕ
last_members moment who =
    codes "\"time\":\"" ++ moment ++ codes "\",\"who\":\"" ++ principal_text who ++ codes "\"}\n"

-- the line of a request that this client made for this principal, written at this moment: its keys are in the order of
-- their bytes
abbrev pub ending_line : List ℕ → ℕ → Principal → Ending → List ℕ
ending_line moment client who ending =
    asked_members ending.ask client
    ++ refusal_member ending.outcome
    ++ object_member ending.object
    ++ outcome_members ending.outcome
    ++ last_members moment who
