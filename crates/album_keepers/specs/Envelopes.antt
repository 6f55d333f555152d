-- Envelopes between threads: a message with a pass, and what the pass's cut shows about the message.
use Rattle.std.specs.Prelude.{◌≡◌, ◌≢◌, ℕ, ◌<◌, ◌≤◌, Bool, true, false, List, Some, None}
use Rattle.std.specs.List.{list_any}
use Rattle.atomic_table.specs.Seated.{TableId}
use Rattle.album_items.specs.Places.{lies_at, rows_placed_at}
use Rattle.album_items.specs.declared.values.Value.{Value}
use Rattle.album_calls.specs.declared.messages.Body.{Body}
use Rattle.album_calls.specs.declared.messages.Body.TheVariants as body
use Rattle.album_calls.specs.declared.messages.Message.{Message}
use Rattle.album_calls.specs.declared.nodes.Node.{Node}
use Rattle.album_calls.specs.declared.nodes.Node.TheVariants.{Part, Client}
use Rattle.album_calls.specs.declared.nodes.Vote.{Vote}
use Rattle.album_calls.specs.declared.nodes.Vote.TheVariants as vote
use Rattle.album_calls.specs.declared.requests.Request.{Request}
use Rattle.album_calls.specs.declared.requests.Request.TheVariants.{Prepare, PrepareOn, Commit, Get, Check}
use Rattle.album_calls.specs.declared.replies.Reply.{Reply}
use Rattle.album_calls.specs.declared.replies.Reply.TheVariants as reply
use Rattle.album_partition.specs.Answers.{after, answer}
use Rattle.album_partition.specs.Marks.{prepares, commits, discards, latest, state_of}
use Rattle.album_partition.specs.Partition.{PartitionState, IsPartition}
use Rattle.album_partition.specs.declared.marks.Mark.{Mark}
use Rattle.album_terminate.specs.declared.deciding.StampState.TheVariants as state
use Rattle.album_passes.specs.Cuts.{Cut, prefix_at, items_announced, IsNamed, IsNamedOn, IsPreparedThroughout}
use Rattle.album_passes.specs.Pass.{PassState}
use Rattle.album_keepers.specs.Settling.{stamps_in, AreCommitted, AreSettledIn}

-- ---- what a cut shows about a message

-- the mark is one that decides a partition's vote
abbrev pub is_mark_for : Vote → ℕ → Mark → Bool
is_mark_for vote.Prepared stamp = prepares stamp
is_mark_for vote.Committed stamp = commits stamp
is_mark_for vote.Never stamp = discards stamp

-- the cut shows that mark at the partition which votes; no client votes
abbrev pub ShowsVote : Cut → Node → ℕ → Vote → Type 0
ShowsVote cut (Part part) stamp vote = list_any (is_mark_for vote stamp) (prefix_at cut part) ≡ true
ShowsVote cut (Client client) stamp vote = ⊥

-- a partition has prepared the stamp, and one of the items that are announced for it is placed at this one
pub record IsOfPart (cut : Cut) (stamp part : ℕ) : Type 0 where
  pub at : ℕ
  pub prepared : list_any (prepares stamp) (prefix_at cut at) ≡ true
  pub items : List ℕ
  pub announced : items_announced cut stamp ≡ Some items
  pub placed : lies_at part cut.parts items ≡ true

-- so the cut of a Check shows of the partition to which it is sent
abbrev pub ShowsCheck : Cut → Node → ℕ → Type 0
ShowsCheck cut (Part part) stamp = IsOfPart cut stamp part
ShowsCheck cut (Client client) stamp = Unit {0}

-- The cut of a Prepare announces its items, and its writes with their values and their bases. That of a Commit shows
-- that each partition of the items has prepared the stamp, that of a Get that each of its stamps is committed
-- somewhere, that of a Check as above.
abbrev pub ShowsRequest : Cut → Node → Request → Type 0
ShowsRequest cut to (Prepare stamp writes items) = IsNamed cut stamp writes items
ShowsRequest cut to (PrepareOn stamp writes items bases) = IsNamedOn cut stamp writes items bases
ShowsRequest cut to (Commit stamp) = IsPreparedThroughout cut stamp
ShowsRequest cut to (Get item stamps) = AreCommitted cut stamps
ShowsRequest cut to (Check stamp) = ShowsCheck cut to stamp

-- of what is replied, a vote alone makes a mark
abbrev pub ShowsReply : Cut → Node → Reply → Type 0
ShowsReply cut from (reply.Status stamp vote) = ShowsVote cut from stamp vote
ShowsReply cut from (reply.Prepared stamp) = Unit {0}
ShowsReply cut from (reply.Committed stamp) = Unit {0}
ShowsReply cut from (reply.Discarded stamp) = Unit {0}
ShowsReply cut from (reply.Version item stamp value) = Unit {0}
ShowsReply cut from (reply.NotPrepared stamp) = Unit {0}
ShowsReply cut from reply.Clash = Unit {0}
ShowsReply cut from (reply.Full stamp) = Unit {0}
ShowsReply cut from (reply.Gone item) = Unit {0}

abbrev pub ShowsBody : Cut → Node → Node → Body → Type 0
ShowsBody cut from to (body.Request request) = ShowsRequest cut to request
ShowsBody cut from to (body.Reply reply) = ShowsReply cut from reply

-- the cut shows what has to be so where the message is sent
abbrev pub Shows : Cut → Message → Type 0
Shows cut message = ShowsBody cut message.from message.to message.body

-- ---- an envelope

-- a message, and the pass that goes with it
pub record RequestEnvelopeState : Type 0 where
  pub message : Message
  pub pass : PassState

-- the pass is of this table and has no number, and its cut shows what the message rests on
pub record IsRequestEnvelope (table : TableId) (envelope : RequestEnvelopeState) : Type 0 where
  pub of : envelope.pass.table ≡ table
  pub unnumbered : envelope.pass.number ≡ None
  pub shown : Shows envelope.pass.cut envelope.message

-- ---- a reply

-- The cut shows the partition as it is: of so many partitions and with so much room, with the first values that are
-- placed at it, and with all its marks.
pub record IsShown (limit : ℕ) (cut : Cut) (partition : PartitionState) : Type 0 where
  pub parts : partition.parts ≡ cut.parts
  pub room : partition.limit ≡ limit
  pub items : partition.items ≡ rows_placed_at partition.number cut.parts cut.opening
  pub marks : partition.marks ≡ prefix_at cut partition.number

-- A partition has replied so to the request, by the table of answers, and the cut shows it as it was then. Of the
-- stamps with which it was asked none was pending.
pub record IsAnswered (limit : ℕ) (cut : Cut) (request reply : Message) : Type 0 where
  pub partition : PartitionState
  pub proper : IsPartition partition
  pub answered : answer partition request ≡ Some reply
  pub settled : AreSettledIn partition.marks (stamps_in request.body)
  pub shown : IsShown limit cut (after partition request)

-- a version that the message replies is the item's latest one, or newer, as far as the cut shows the partition
abbrev pub IsUpToDate : Cut → Message → Type 0
IsUpToDate cut message = (part item stamp : ℕ) (value : Value) → message.from ≡ Part part
    → message.body ≡ body.Reply (reply.Version item stamp value) → latest (prefix_at cut part) item ≤ stamp

-- no stamp below this one is pending at the partition that replies, as far as the cut shows it
abbrev pub IsSettledBelow : ℕ → Cut → Message → Type 0
IsSettledBelow below cut message = (part : ℕ) → message.from ≡ Part part
    → (stamp : ℕ) → stamp < below → state_of (prefix_at cut part) stamp ≢ state.Pending

-- the request, the reply, whether a newer version than the one that is replied is committed, a number below which no
-- stamp is pending at the partition, and the pass that goes with them
pub record ReplyEnvelopeState : Type 0 where
  pub request : Message
  pub reply : Message
  pub overtaken : Bool
  pub settled_below : ℕ
  pub pass : PassState

-- the pass is of this table and has no number, and its cut shows the partition that has replied so
pub record IsReplyEnvelope (table : TableId) (limit : ℕ) (envelope : ReplyEnvelopeState) : Type 0 where
  pub of : envelope.pass.table ≡ table
  pub unnumbered : envelope.pass.number ≡ None
  pub answered : IsAnswered limit envelope.pass.cut envelope.request envelope.reply
  pub latest : envelope.overtaken ≡ false → IsUpToDate envelope.pass.cut envelope.reply
  pub settled : IsSettledBelow envelope.settled_below envelope.pass.cut envelope.reply
