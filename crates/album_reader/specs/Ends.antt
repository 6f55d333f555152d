-- What a round makes of a message, as its functions hand it to each other.
use Rattle.std.specs.Prelude.{◌≡◌, ◌<◌, Option, Some, None, length, slice_index_or}
use Rattle.album_calls.specs.declared.messages.Message.{Message}
use Rattle.album_reader.specs.declared.versions.VersionIn.{VersionIn}
use Rattle.album_reader.specs.declared.round.End.{End}
use Rattle.album_reader.specs.declared.round.End.TheVariants as last
use Rattle.album_reader.specs.declared.round.Fresh.{Fresh}
use Rattle.album_reader.specs.Answers.{ReadVersion}
use Rattle.album_reader.specs.Rounds.{RoundState, Step, new_answer}
use Rattle.album_reader.specs.Rounds.Step.{Same, Next, Done}

-- the version that a message has, as an answer
abbrev pub answer_of : VersionIn → ReadVersion
answer_of version = record { item = version.item; stamp = version.stamp; value = version.value.now }

-- the message brings the answer that the round lacks of the item at this index
pub record IsFresh (round : RoundState) (message : Message) (fresh : Fresh) : Type 0 where
  pub inside : fresh.index < length round.answers
  pub empty : slice_index_or round.answers fresh.index None ≡ None
  pub asked : slice_index_or round.items fresh.index 0 ≡ fresh.version.item
  pub counts : new_answer round message ≡ Some (answer_of fresh.version)

-- the step of a round that stays as it is, or ends so
abbrev pub step_by : RoundState → Option End → Step
step_by round None = Same round
step_by round (Some (last.Next next messages)) = Next next messages.items
step_by round (Some (last.Done snapshot)) = Done snapshot
