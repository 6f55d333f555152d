-- The line of a message in a trace: who sends it, its number, what it says, its tag, and who gets it.
use Rattle.std.specs.Prelude.{ℕ, List, [], ◌∷◌, ◌++◌, codes, decimal, map}
use Rattle.serde_json.specs.Data.{Data, string}
use Rattle.album_items.specs.declared.values.Value.{Value}
use Rattle.album_calls.specs.declared.messages.Body.{Body}
use Rattle.album_calls.specs.declared.messages.Body.TheVariants as body
use Rattle.album_calls.specs.declared.messages.Message.{Message}
use Rattle.album_calls.specs.declared.nodes.Node.{Node}
use Rattle.album_calls.specs.declared.nodes.Node.TheVariants as node
use Rattle.album_calls.specs.declared.nodes.Vote.{Vote}
use Rattle.album_calls.specs.declared.nodes.Vote.TheVariants as vote
use Rattle.album_calls.specs.declared.replies.Reply.{Reply}
use Rattle.album_calls.specs.declared.replies.Reply.TheVariants as reply
use Rattle.album_calls.specs.declared.requests.Request.{Request}
use Rattle.album_calls.specs.declared.requests.Request.TheVariants as request
use Rattle.album_lines.specs.Spelling.{whole_data, list_data}
use Rattle.album_wire.specs.ValueJson.{object_data, item_json, item_list_json, value_json}
use Rattle.album_wire.specs.declared.message_json.Envelope.{Envelope}

-- ---- what is in it

-- `p` and the number of a partition, `c` and that of a client
abbrev pub node_text : Node → List ℕ
node_text (node.Part number) = codes "p" ++ decimal number
node_text (node.Client number) = codes "c" ++ decimal number

abbrev pub vote_word : Vote → List ℕ
vote_word vote.Prepared = codes "prepared"
vote_word vote.Committed = codes "committed"
vote_word vote.Never = codes "never"

abbrev pub stamps_json : List ℕ → Data
stamps_json stamps = list_data (map whole_data stamps)

-- [item, value]
abbrev pub write_json : ℕ × Value → Data
write_json row = list_data (item_json row.0 ∷ value_json row.1 ∷ [])

abbrev pub writes_json : List (ℕ × Value) → Data
writes_json rows = list_data (map write_json rows)

-- what every line of a message has in addition to what the message says
abbrev pub envelope_of : ℕ → Message → Envelope
envelope_of number message = record { from = message.from; number = number; tag = message.tag; to = message.to }

-- what every line of a message has, and the word for what it says
abbrev pub envelope_fields : Envelope → List ℕ → List (List ℕ × Data)
envelope_fields e word =
    (codes "from", string (node_text e.from))
    ∷ (codes "k", whole_data e.number)
    ∷ (codes "say", string word)
    ∷ (codes "tag", whole_data e.tag)
    ∷ (codes "to", string (node_text e.to))
    ∷ []

-- ---- the kinds of lines

-- a Get
abbrev pub get_json : Envelope → ℕ → List ℕ → Data
get_json e item stamps = object_data (
    (codes "from", string (node_text e.from))
    ∷ (codes "item", item_json item)
    ∷ (codes "k", whole_data e.number)
    ∷ (codes "say", string (codes "get"))
    ∷ (codes "stamps", stamps_json stamps)
    ∷ (codes "tag", whole_data e.tag)
    ∷ (codes "to", string (node_text e.to))
    ∷ [])

-- a Prepare
abbrev pub prepare_json : Envelope → ℕ → List (ℕ × Value) → List ℕ → Data
prepare_json e stamp writes items = object_data (
    (codes "from", string (node_text e.from))
    ∷ (codes "items", item_list_json items)
    ∷ (codes "k", whole_data e.number)
    ∷ (codes "say", string (codes "prepare"))
    ∷ (codes "stamp", whole_data stamp)
    ∷ (codes "tag", whole_data e.tag)
    ∷ (codes "to", string (node_text e.to))
    ∷ (codes "writes", writes_json writes)
    ∷ [])

-- a PrepareOn: what a Prepare has, and the base of each write
abbrev pub prepare_on_json : Envelope → ℕ → List (ℕ × Value) → List ℕ → List ℕ → Data
prepare_on_json e stamp writes items bases = object_data (
    (codes "bases", stamps_json bases)
    ∷ (codes "from", string (node_text e.from))
    ∷ (codes "items", item_list_json items)
    ∷ (codes "k", whole_data e.number)
    ∷ (codes "say", string (codes "prepare"))
    ∷ (codes "stamp", whole_data stamp)
    ∷ (codes "tag", whole_data e.tag)
    ∷ (codes "to", string (node_text e.to))
    ∷ (codes "writes", writes_json writes)
    ∷ [])

-- a Version
abbrev pub version_json : Envelope → ℕ → ℕ → Value → Data
version_json e item stamp value = object_data (
    (codes "from", string (node_text e.from))
    ∷ (codes "item", item_json item)
    ∷ (codes "k", whole_data e.number)
    ∷ (codes "say", string (codes "version"))
    ∷ (codes "stamp", whole_data stamp)
    ∷ (codes "tag", whole_data e.tag)
    ∷ (codes "to", string (node_text e.to))
    ∷ (codes "value", value_json value)
    ∷ [])

-- a Status
abbrev pub status_json : Envelope → ℕ → Vote → Data
status_json e stamp vote = object_data (
    (codes "from", string (node_text e.from))
    ∷ (codes "k", whole_data e.number)
    ∷ (codes "say", string (codes "status"))
    ∷ (codes "stamp", whole_data stamp)
    ∷ (codes "tag", whole_data e.tag)
    ∷ (codes "to", string (node_text e.to))
    ∷ (codes "vote", string (vote_word vote))
    ∷ [])

-- a Gone
abbrev pub gone_json : Envelope → ℕ → Data
gone_json e item = object_data (
    (codes "from", string (node_text e.from))
    ∷ (codes "item", item_json item)
    ∷ (codes "k", whole_data e.number)
    ∷ (codes "say", string (codes "gone"))
    ∷ (codes "tag", whole_data e.tag)
    ∷ (codes "to", string (node_text e.to))
    ∷ [])

-- a Clash
abbrev pub clash_json : Envelope → Data
clash_json e = object_data (
    (codes "from", string (node_text e.from))
    ∷ (codes "k", whole_data e.number)
    ∷ (codes "say", string (codes "clash"))
    ∷ (codes "tag", whole_data e.tag)
    ∷ (codes "to", string (node_text e.to))
    ∷ [])

-- what is said by a word and a stamp alone
abbrev pub stamped_json : Envelope → List ℕ → ℕ → Data
stamped_json e word stamp = object_data (
    (codes "from", string (node_text e.from))
    ∷ (codes "k", whole_data e.number)
    ∷ (codes "say", string word)
    ∷ (codes "stamp", whole_data stamp)
    ∷ (codes "tag", whole_data e.tag)
    ∷ (codes "to", string (node_text e.to))
    ∷ [])

abbrev pub request_json : Envelope → Request → Data
request_json e (request.Prepare stamp writes items) = prepare_json e stamp writes items
request_json e (request.PrepareOn stamp writes items bases) = prepare_on_json e stamp writes items bases
request_json e (request.Commit stamp) = stamped_json e (codes "commit") stamp
request_json e (request.Get item stamps) = get_json e item stamps
request_json e (request.Check stamp) = stamped_json e (codes "check") stamp

abbrev pub reply_json : Envelope → Reply → Data
reply_json e (reply.Prepared stamp) = stamped_json e (codes "prepared") stamp
reply_json e (reply.Committed stamp) = stamped_json e (codes "committed") stamp
reply_json e (reply.Discarded stamp) = stamped_json e (codes "discarded") stamp
reply_json e (reply.Version item stamp value) = version_json e item stamp value
reply_json e (reply.Status stamp vote) = status_json e stamp vote
reply_json e (reply.NotPrepared stamp) = stamped_json e (codes "not_prepared") stamp
reply_json e reply.Clash = clash_json e
reply_json e (reply.Full stamp) = stamped_json e (codes "full") stamp
reply_json e (reply.Gone item) = gone_json e item

abbrev pub said_json : Envelope → Body → Data
said_json e (body.Request request) = request_json e request
said_json e (body.Reply reply) = reply_json e reply

-- the message of this number
abbrev pub message_json : ℕ → Message → Data
message_json number message = said_json (envelope_of number message) message.body
