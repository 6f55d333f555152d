-- The lines that a service or a replay writes in addition to the answers to asks.
use Rattle.std.specs.Prelude.{ℕ, List, [], ◌∷◌, codes}
use Rattle.serde_json.specs.Data.{Data, string}
use Rattle.album_lines.specs.Spelling.{whole_data, list_data}
use Rattle.album_wire.specs.ValueJson.{object_data}
use Rattle.album_wire.specs.MessageJson.{stamps_json}
use Rattle.album_lines.specs.Output.{line_text}
use Rattle.album_wire.specs.declared.talk_json.Counted.{Counted}
use Rattle.album_wire.specs.declared.talk_json.TalkOut.{TalkOut}
use Rattle.album_wire.specs.declared.talk_json.TalkOut.TheVariants as out

-- who speaks is a client of this number from now on
abbrev pub hello_json : ℕ → Data
hello_json client = object_data (
    (codes "answer", string (codes "hello"))
    ∷ (codes "client", whole_data client)
    ∷ [])

-- the same, in the epoch of this number
abbrev pub hello_in_json : ℕ → ℕ → Data
hello_in_json client epoch = object_data (
    (codes "answer", string (codes "hello"))
    ∷ (codes "client", whole_data client)
    ∷ (codes "epoch", whole_data epoch)
    ∷ [])

-- these stamps are pending
abbrev pub pending_json : List ℕ → Data
pending_json stamps = object_data (
    (codes "answer", string (codes "pending"))
    ∷ (codes "stamps", stamps_json stamps)
    ∷ [])

-- a request was done, by the word that says which
abbrev pub done_json : List ℕ → Data
done_json word = object_data ((codes "answer", string word) ∷ [])

-- so many lines follow
abbrev pub dump_json : ℕ → Data
dump_json lines = object_data (
    (codes "answer", string (codes "dump"))
    ∷ (codes "lines", whole_data lines)
    ∷ [])

-- the service listens at this port
abbrev pub serving_json : ℕ → Data
serving_json port = object_data (
    (codes "answer", string (codes "serving"))
    ∷ (codes "port", whole_data port)
    ∷ [])

-- the epoch of this number has opened
abbrev pub restarted_json : ℕ → Data
restarted_json epoch = object_data (
    (codes "answer", string (codes "restarted"))
    ∷ (codes "epoch", whole_data epoch)
    ∷ [])

-- [those that succeeded, those that failed]
abbrev pub counted_json : Counted → Data
counted_json counted = list_data (whole_data counted.succeeded ∷ whole_data counted.failed ∷ [])

-- how many records the audit book has of each sort
abbrev pub totals_fields : Counted → Counted → List (List ℕ × Data)
totals_fields audits alarms =
    (codes "alarms", counted_json alarms)
    ∷ (codes "audits", counted_json audits)
    ∷ []

abbrev pub totals_json : Counted → Counted → Data
totals_json audits alarms = object_data (totals_fields audits alarms)

abbrev pub talk_json : TalkOut → Data
talk_json (out.Hello client) = hello_json client
talk_json (out.HelloIn client epoch) = hello_in_json client epoch
talk_json (out.Pending stamps) = pending_json stamps.items
talk_json out.Swept = done_json (codes "swept")
talk_json out.Trimmed = done_json (codes "trimmed")
talk_json (out.Dump lines) = dump_json lines
talk_json (out.Serving port) = serving_json port
talk_json (out.Restarted epoch) = restarted_json epoch
talk_json (out.Totals audits alarms) = totals_json audits alarms

-- the line
unfoldable pub talk_text : TalkOut → List ℕ
talk_text output = line_text (talk_json output)
