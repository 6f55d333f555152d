-- What a step of a write is, in the words of its rounds.
use Rattle.album_writer.specs.declared.committing.CommitStep.{CommitStep}
use Rattle.album_writer.specs.declared.committing.CommitStep.TheVariants as commit
use Rattle.album_writer.specs.declared.preparing.PrepareStep.{PrepareStep}
use Rattle.album_writer.specs.declared.preparing.PrepareStep.TheVariants as prepare
use Rattle.album_writer.specs.Rounds.{WriteStep}
use Rattle.album_writer.specs.Rounds.WriteStep.{Waits, Commits, Ends}

-- the step of a round of Prepares, with its messages as a list
abbrev pub step_of_prepares : PrepareStep → WriteStep
step_of_prepares (prepare.Same preparing) = Waits preparing
step_of_prepares (prepare.Commit committing messages) = Commits committing messages.items
step_of_prepares (prepare.Ended outcome) = Ends outcome

-- the step of a round of Commits
abbrev pub step_of_commits : CommitStep → WriteStep
step_of_commits (commit.Same committing) = Waits committing
step_of_commits (commit.Ended outcome) = Ends outcome
