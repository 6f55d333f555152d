-- The two rounds of a write, message by message.
use Rattle.std.specs.Prelude.{ℕ, not, List, [], ◌∷◌, filter}
use Rattle.album_calls.specs.Nodes.{is_part}
use Rattle.album_calls.specs.declared.messages.Message.{Message}
use Rattle.album_calls.specs.declared.nodes.Node.{Node}
use Rattle.album_writer.specs.declared.outcomes.Outcome.{Outcome}
use Rattle.album_writer.specs.declared.outcomes.Outcome.TheVariants as outcome
use Rattle.album_writer.specs.declared.write_replies.WriteReply.{WriteReply}
use Rattle.album_writer.specs.declared.write_replies.WriteReply.TheVariants as write_reply
use Rattle.album_writer.specs.WriteReplies.{reply_in}
use Rattle.album_writer.specs.Writing.{WritingState, commit_round, commits_of}

-- the step of a message: the round waits on, the Commits are sent, or the write is over
pub data WriteStep : Type 0 where
  Waits : WritingState → WriteStep
  Commits : WritingState → List Message → WriteStep
  Ends : Outcome → WriteStep

-- the round once this node has replied: its reply is no longer outstanding
abbrev pub answered_by : WritingState → Node → WritingState
answered_by writing node =
    record writing { outstanding = filter (λ place. not (is_part node place)) writing.outstanding }

-- ---- the Prepares

-- the step of a round of Prepares in which these replies are outstanding: with none left, the Commits are sent
abbrev pub prepares_left : WritingState → List ℕ → WriteStep
prepares_left writing [] = Commits (commit_round writing) (commits_of (commit_round writing))
prepares_left writing (place ∷ places) = Waits writing

-- the step of a node's reply in the round of the Prepares
abbrev pub prepares_by : WritingState → Node → WriteReply → WriteStep
prepares_by writing node write_reply.Prepared =
    prepares_left (answered_by writing node) (answered_by writing node).outstanding
prepares_by writing node write_reply.Committed = Waits writing
prepares_by writing node write_reply.Discarded = Ends (outcome.Aborted writing.stamp)
prepares_by writing node write_reply.Full = Ends (outcome.Full writing.stamp)
prepares_by writing node write_reply.Nothing = Waits writing

-- the step of a message in the round of the Prepares
abbrev pub prepare_stepped : WritingState → Message → WriteStep
prepare_stepped writing message = prepares_by writing message.from (reply_in writing message)

-- ---- the Commits

-- the step of a round of Commits in which these replies are outstanding: with none left, the write is committed
abbrev pub commits_left : WritingState → List ℕ → WriteStep
commits_left writing [] = Ends (outcome.Committed writing.stamp)
commits_left writing (place ∷ places) = Waits writing

-- the step of a node's reply in the round of the Commits
abbrev pub commits_by : WritingState → Node → WriteReply → WriteStep
commits_by writing node write_reply.Prepared = Waits writing
commits_by writing node write_reply.Committed =
    commits_left (answered_by writing node) (answered_by writing node).outstanding
commits_by writing node write_reply.Discarded = Waits writing
commits_by writing node write_reply.Full = Waits writing
commits_by writing node write_reply.Nothing = Waits writing

-- the step of a message in the round of the Commits
abbrev pub commit_stepped : WritingState → Message → WriteStep
commit_stepped writing message = commits_by writing message.from (reply_in writing message)
