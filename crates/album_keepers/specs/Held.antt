-- What a log keeps of a partition, and which replies wait for it: those that say that a stamp is prepared.
use Rattle.std.specs.Prelude.{◌≡◌, ℕ, Bool, true, false, List, All, Contains, Option, Some, None}
use Rattle.album_calls.specs.declared.messages.Body.{Body}
use Rattle.album_calls.specs.declared.messages.Body.TheVariants as body
use Rattle.album_calls.specs.declared.messages.Message.{Message}
use Rattle.album_calls.specs.declared.nodes.Node.TheVariants.{Part}
use Rattle.album_calls.specs.declared.nodes.Vote.{Vote}
use Rattle.album_calls.specs.declared.nodes.Vote.TheVariants as vote
use Rattle.album_calls.specs.declared.requests.Request.{Request}
use Rattle.album_calls.specs.declared.requests.Request.TheVariants as request
use Rattle.album_calls.specs.declared.replies.Reply.{Reply}
use Rattle.album_calls.specs.declared.replies.Reply.TheVariants as reply
use Rattle.album_partition.specs.Marks.{prepares}
use Rattle.album_partition.specs.declared.marks.Mark.{Mark}
use Rattle.album_passes.specs.Cuts.{prefix_at}
use Rattle.album_keepers.specs.Envelopes.{ReplyEnvelopeState}
use Rattle.album_keepers.specs.declared.log_entries.LogEntry.{LogEntry}

-- ---- what says that a stamp is prepared

abbrev pub stamp_voted : ℕ → Vote → Option ℕ
stamp_voted stamp vote.Prepared = Some stamp
stamp_voted stamp vote.Committed = None
stamp_voted stamp vote.Never = None

-- the answer to a Prepare, and a vote
abbrev pub stamp_replied : Reply → Option ℕ
stamp_replied (reply.Prepared stamp) = Some stamp
stamp_replied (reply.Status stamp vote) = stamp_voted stamp vote
stamp_replied (reply.Committed stamp) = None
stamp_replied (reply.Discarded stamp) = None
stamp_replied (reply.Version item stamp value) = None
stamp_replied (reply.NotPrepared stamp) = None
stamp_replied reply.Clash = None
stamp_replied (reply.Full stamp) = None
stamp_replied (reply.Gone item) = None

-- the stamp of which a message says that its sender has prepared it
abbrev pub stamp_prepared : Body → Option ℕ
stamp_prepared (body.Request request) = None
stamp_prepared (body.Reply reply) = stamp_replied reply

-- whether there may be such a reply to it: not to a Commit or a Get
abbrev pub may_be_prepared : Request → Bool
may_be_prepared (request.Prepare stamp writes items) = true
may_be_prepared (request.PrepareOn stamp writes items bases) = true
may_be_prepared (request.Commit stamp) = false
may_be_prepared (request.Get item stamps) = false
may_be_prepared (request.Check stamp) = true

abbrev pub may_prepare : Body → Bool
may_prepare (body.Request request) = may_be_prepared request
may_prepare (body.Reply reply) = true

-- after none of the messages
abbrev pub AreNeverPrepared : List Message → Type 0
AreNeverPrepared messages = All (λ message. may_prepare message.body ≡ false) messages

-- ---- what it rests on

-- the entry is a mark of the partition that replies, which prepares the stamp
pub record IsEntryOf (envelope : ReplyEnvelopeState) (stamp : ℕ) (entry : LogEntry) : Type 0 where
  pub from : envelope.reply.from ≡ Part entry.part
  pub prepares : prepares stamp entry.mark ≡ true
  pub made : Contains (prefix_at envelope.pass.cut entry.part) entry.mark

-- the same of a message, and of marks of its sender
pub record IsEntryAmong (marks : List Mark) (message : Message) (stamp : ℕ) (entry : LogEntry) : Type 0 where
  pub from : message.from ≡ Part entry.part
  pub prepares : prepares stamp entry.mark ≡ true
  pub made : Contains marks entry.mark

-- an entry that is there exactly where the message says that a stamp is prepared
abbrev pub IsCoveredAmong : List Mark → Option LogEntry → Message → Type 0
IsCoveredAmong marks None message = stamp_prepared message.body ≡ None
IsCoveredAmong marks (Some entry) message =
    (stamp : ℕ) × (stamp_prepared message.body ≡ Some stamp) × IsEntryAmong marks message stamp entry

-- so it is with the reply in an envelope
abbrev pub IsCoveredBy : Option LogEntry → ReplyEnvelopeState → Type 0
IsCoveredBy None envelope = stamp_prepared envelope.reply.body ≡ None
IsCoveredBy (Some entry) envelope =
    (stamp : ℕ) × (stamp_prepared envelope.reply.body ≡ Some stamp) × IsEntryOf envelope stamp entry

-- one of the entries is that of the stamp, if the reply says that one is prepared
abbrev pub IsCovered : List LogEntry → ReplyEnvelopeState → Type 0
IsCovered entries envelope = (stamp : ℕ) → stamp_prepared envelope.reply.body ≡ Some stamp
    → (entry : LogEntry) × Contains entries entry × IsEntryOf envelope stamp entry

-- so it is with each reply of a mail
abbrev pub AreCovered : List LogEntry → List ReplyEnvelopeState → Type 0
AreCovered entries envelopes = All (IsCovered entries) envelopes

-- the reply says of no stamp that it is prepared
abbrev pub IsFree : ReplyEnvelopeState → Type 0
IsFree envelope = stamp_prepared envelope.reply.body ≡ None

-- the replies to the messages of one mail, whether the service has a log, and then the entries that they rest on
pub record OutgoingState : Type 0 where
  pub logged : Bool
  pub replies : List ReplyEnvelopeState
  pub entries : List LogEntry
