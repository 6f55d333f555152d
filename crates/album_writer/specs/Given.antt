-- The step after all messages that were given in a round.
use Rattle.std.specs.Prelude.{ℕ, Bool, not, ◌&&◌, List, [], ◌∷◌, ◌++◌, filter}
use Rattle.std.specs.List.{list_any}
use Rattle.album_calls.specs.Nodes.{is_part}
use Rattle.album_calls.specs.declared.messages.Message.{Message}
use Rattle.album_writer.specs.declared.outcomes.Outcome.TheVariants as outcome
use Rattle.album_writer.specs.declared.write_replies.WriteReply.{WriteReply}
use Rattle.album_writer.specs.declared.write_replies.WriteReply.TheVariants as write_reply
use Rattle.album_writer.specs.Rounds.{WriteStep, prepares_left, commits_left}
use Rattle.album_writer.specs.Rounds.WriteStep.{Waits, Ends}
use Rattle.album_writer.specs.WriteReplies.{reply_in, is_prepared_reply, is_committed_reply}
use Rattle.album_writer.specs.Writing.{WritingState, places_in}

-- one of the messages is a reply of the participant that counts
abbrev pub has_replied : (WriteReply → Bool) → WritingState → List Message → ℕ → Bool
has_replied counts writing given place =
    list_any (λ message. counts (reply_in writing message) && is_part message.from place) given

-- the round after exactly these messages: the replies of those participants are outstanding that have given none that
-- counts
abbrev pub replied_round : (WriteReply → Bool) → WritingState → List Message → WritingState
replied_round counts writing given =
    record writing { outstanding = filter (λ place. not (has_replied counts writing given place)) (places_in writing) }

-- ---- the Prepares

-- the step of a round of Prepares whose last message is this reply
abbrev pub prepares_then : WritingState → WriteReply → WriteStep
prepares_then writing write_reply.Prepared = prepares_left writing writing.outstanding
prepares_then writing write_reply.Committed = Waits writing
prepares_then writing write_reply.Discarded = Ends (outcome.Aborted writing.stamp)
prepares_then writing write_reply.Full = Ends (outcome.Full writing.stamp)
prepares_then writing write_reply.Nothing = Waits writing

-- the step of a message that is given after these in the round of the Prepares
abbrev pub prepare_step_after : WritingState → List Message → Message → WriteStep
prepare_step_after writing given message =
    prepares_then (replied_round is_prepared_reply writing (given ++ message ∷ [])) (reply_in writing message)

-- ---- the Commits

-- the step of a round of Commits whose last message is this reply
abbrev pub commits_then : WritingState → WriteReply → WriteStep
commits_then writing write_reply.Prepared = Waits writing
commits_then writing write_reply.Committed = commits_left writing writing.outstanding
commits_then writing write_reply.Discarded = Waits writing
commits_then writing write_reply.Full = Waits writing
commits_then writing write_reply.Nothing = Waits writing

-- the step of a message that is given after these in the round of the Commits
abbrev pub commit_step_after : WritingState → List Message → Message → WriteStep
commit_step_after writing given message =
    commits_then (replied_round is_committed_reply writing (given ++ message ∷ [])) (reply_in writing message)
