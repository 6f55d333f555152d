-- Replies to the messages of a round, each known by the index of its message.
use Rattle.std.specs.Prelude.{◌≡◌, ℕ, ◌<◌, Bool, false, List, length, slice_index_or, None}
use Rattle.atomic_table.specs.Seated.{TableId}
use Rattle.album_calls.specs.declared.messages.Message.{Message}
use Rattle.album_passes.specs.Cuts.{Cut, IsSound}
use Rattle.album_passes.specs.Pass.{PassState}
use Rattle.album_keepers.specs.Envelopes.{IsAnswered, IsSettledBelow, IsUpToDate}
use Rattle.album_keepers.specs.Held.{stamp_prepared}
use Rattle.album_keepers.specs.Replies.{IsLate}

-- the index of the message, the reply, whether a newer version than the one that is replied is committed, a number
-- below which no stamp is pending at the partition, and the pass that goes with them
pub record RoundReplyState : Type 0 where
  pub index : ℕ
  pub reply : Message
  pub overtaken : Bool
  pub settled_below : ℕ
  pub pass : PassState

-- the pass is of this table and has no number
pub record IsRoundReply (table : TableId) (given : RoundReplyState) : Type 0 where
  pub of : given.pass.table ≡ table
  pub unnumbered : given.pass.number ≡ None

-- the message is the one of this index
pub record IsAt (messages : List Message) (index : ℕ) (message : Message) : Type 0 where
  pub within : index < length messages
  pub is : (other : Message) → slice_index_or messages index other ≡ message

-- A partition has replied so to the request, and the pass shows the partition exactly as it was when it had replied. A
-- version is the latest one there, unless it is overtaken, and no stamp below the number is pending there.
pub record RepliesTo (limit : ℕ) (request : Message) (given : RoundReplyState) : Type 0 where
  pub answered : IsAnswered limit given.pass.cut request given.reply
  pub sound : IsSound given.pass.cut
  pub latest : given.overtaken ≡ false → IsUpToDate given.pass.cut given.reply
  pub settled : IsSettledBelow given.settled_below given.pass.cut given.reply

-- It replies so to the message of its index among those that were sent, and the partition had then made at least the
-- marks that the old cut has of it.
pub record Counts (limit : ℕ) (old : Cut) (sent : List Message) (given : RoundReplyState) : Type 0 where
  pub request : Message
  pub at : IsAt sent given.index request
  pub replies : RepliesTo limit request given
  pub late : IsLate old given.pass.cut given.reply

-- the reply says of no stamp that it is prepared
abbrev pub SaysNonePrepared : RoundReplyState → Type 0
SaysNonePrepared given = stamp_prepared given.reply.body ≡ None
