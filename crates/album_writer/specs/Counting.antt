-- The messages that count in a round of a write, and those that leave it as it is.
use Rattle.std.specs.Prelude.{◌≡◌, ◌≢◌, ℕ, List, [], ◌∷◌, ◌++◌, Contains}
use Rattle.album_calls.specs.declared.messages.Body.TheVariants as body
use Rattle.album_calls.specs.declared.messages.Message.{Message}
use Rattle.album_calls.specs.declared.nodes.Node.TheVariants.{Part, Client}
use Rattle.album_calls.specs.declared.replies.Reply.{Reply}
use Rattle.album_calls.specs.declared.replies.Reply.TheVariants.{Prepared, Committed, Discarded, Full}
use Rattle.album_writer.specs.Writing.{WritingState, places_in}

-- ---- what counts

-- the message is this reply, from the participant at this place, to the write's client under the tag of the round
pub record IsReplyFrom (writing : WritingState) (message : Message) (reply : Reply) (place : ℕ) : Type 0 where
  pub body : message.body ≡ body.Reply reply
  pub tag : message.tag ≡ writing.tag
  pub receiver : message.to ≡ Client writing.client
  pub sender : message.from ≡ Part place
  pub participant : Contains (places_in writing) place

-- the message is this reply, from some participant
abbrev pub IsReplyTo : WritingState → Message → Reply → Type 0
IsReplyTo writing message reply = (place : ℕ) × IsReplyFrom writing message reply place

-- one of the messages is this reply, from the participant at this place
abbrev pub IsReplyAmong : WritingState → List Message → Reply → ℕ → Type 0
IsReplyAmong writing messages reply place =
    (message : Message) × Contains messages message × IsReplyFrom writing message reply place

-- with this message, given after those, each participant has given the reply
pub record IsLastOf (reply : Reply) (writing : WritingState) (given : List Message) (message : Message) : Type 0 where
  pub last : IsReplyTo writing message reply
  pub each :
      (place : ℕ) → Contains (places_in writing) place → IsReplyAmong writing (given ++ message ∷ []) reply place

-- ---- what doesn't

-- the replies for the stamp that count in a round of Prepares
abbrev pub prepare_replies : ℕ → List Reply
prepare_replies stamp = Prepared stamp ∷ Discarded stamp ∷ Full stamp ∷ []

-- the reply for the stamp that counts in a round of Commits
abbrev pub commit_replies : ℕ → List Reply
commit_replies stamp = Committed stamp ∷ []

-- The message does not count in a round in which these replies do. One of them counts only once from each participant.
pub data IsStray (replies : List Reply) (once : Reply) (writing : WritingState) (message : Message) : Type 0 where
  -- it has another tag
  UnderOtherTag : message.tag ≢ writing.tag → IsStray replies once writing message
  -- it is sent to another
  ToOtherNode : message.to ≢ Client writing.client → IsStray replies once writing message
  -- it is sent by none of the participants
  FromOtherNode :
      ((place : ℕ) → Contains (places_in writing) place → message.from ≢ Part place)
      → IsStray replies once writing message
  -- it is none of these replies: a request, a reply of another kind, or a reply for another stamp
  OfOtherKind :
      ((reply : Reply) → Contains replies reply → message.body ≢ body.Reply reply)
      → IsStray replies once writing message
  -- its sender has given the same reply before
  Repeated :
      (place : ℕ) → message.from ≡ Part place
      → message.body ≡ body.Reply once
      → (Contains writing.outstanding place → ⊥) → IsStray replies once writing message

-- the message does not count in a round of Prepares
abbrev pub IsStrayToPrepares : WritingState → Message → Type 0
IsStrayToPrepares writing message =
    IsStray (prepare_replies writing.stamp) (Prepared writing.stamp) writing message

-- the message does not count in a round of Commits
abbrev pub IsStrayToCommits : WritingState → Message → Type 0
IsStrayToCommits writing message =
    IsStray (commit_replies writing.stamp) (Committed writing.stamp) writing message
