-- What a session hears as it carries a write out.
use Rattle.std.specs.Prelude.{◌≡◌, ◌≢◌, ℕ, ◌≤◌, ◌⊎◌, true, List, [], Contains}
use Rattle.std.specs.List.{list_any}
use Rattle.album_calls.specs.declared.messages.Message.{Message}
use Rattle.album_items.specs.Openings.{Row}
use Rattle.album_items.specs.Places.{rows_placed_at}
use Rattle.album_partition.specs.Marks.{commits}
use Rattle.album_partition.specs.declared.marks.Mark.{Mark}
use Rattle.album_partition.specs.declared.marks.Mark.TheVariants.{Prepared}
use Rattle.album_passes.specs.Cuts.{Cut, Announcement, prefix_at, IsPromisedSomewhere}
use Rattle.album_grounds.specs.Grounds.{write_of, IsPreparedOn, IsKept, IsWithoutRoom}
use Rattle.album_writer.specs.Rounds.{WriteStep}
use Rattle.album_writer.specs.Rounds.WriteStep.{Waits, Commits, Ends}
use Rattle.album_writer.specs.Writing.{WritingState, writes_in, items_in, places_in, bases_of, commit_round, commits_of}
use Rattle.album_writer.specs.declared.outcomes.Outcome.{Outcome}
use Rattle.album_writer.specs.declared.outcomes.Outcome.TheVariants as outcome

-- what is announced before its Prepares leave: all that it writes
abbrev pub announcement_of : WritingState → Announcement
announcement_of writing = (writing.stamp, write_of writing.permit writing.stamp)

-- ---- a round

-- what is written at the partition
abbrev pub rows_for : WritingState → ℕ → List Row
rows_for writing place = rows_placed_at place writing.parts (writes_in writing)

-- these marks prepare exactly what is written at the partition, where the write is checked on what its view shows
pub record IsPreparedIn (marks : List Mark) (writing : WritingState) (place : ℕ) : Type 0 where
  pub prepared : Contains marks (Prepared writing.stamp (rows_for writing place) (items_in writing))
  pub based : writing.checked ≡ true → IsPreparedOn marks writing.stamp
      (rows_for writing place) (items_in writing) (bases_of writing (rows_for writing place))

-- the partition has prepared it so
abbrev pub IsPreparedAt : Cut → WritingState → ℕ → Type 0
IsPreparedAt cut writing place = IsPreparedIn (prefix_at cut place) writing place

-- the partition has committed it
abbrev pub IsCommittedAt : Cut → WritingState → ℕ → Type 0
IsCommittedAt cut writing place = list_any (commits writing.stamp) (prefix_at cut place) ≡ true

-- The round is the one that began, and each participant is outstanding, or the property holds of it.
pub record IsFurther (begun : WritingState) (Holds : ℕ → Type 0) (writing : WritingState) : Type 0 where
  pub same : writing ≡ record begun { outstanding = writing.outstanding }
  pub done : (place : ℕ) → Contains (places_in begun) place → Contains writing.outstanding place ⊎ Holds place

-- It writes in the cut's partitions, checked where they are, has some participant, and each is outstanding.
pub record IsBegunOn (cut : Cut) (begun : WritingState) : Type 0 where
  pub parts : begun.parts ≡ cut.parts
  pub checked : begun.checked ≡ cut.checked
  pub some_parts : 1 ≤ begun.parts
  pub some : places_in begun ≢ []
  pub all : begun.outstanding ≡ places_in begun

-- ---- how it ends

-- what the cut shows of a write that has ended so
abbrev pub IsEndOf : ℕ → Cut → WritingState → Outcome → Type 0
IsEndOf limit cut writing (outcome.Committed stamp) =
    (stamp ≡ writing.stamp) × IsKept cut writing.permit writing.stamp
IsEndOf limit cut writing (outcome.Aborted stamp) =
    (stamp ≡ writing.stamp) × IsPromisedSomewhere cut writing.stamp
IsEndOf limit cut writing (outcome.Full stamp) =
    (stamp ≡ writing.stamp) × IsWithoutRoom limit cut writing.permit writing.stamp

-- each participant has prepared what is written there, and these are the Commits
pub record AreCommits (cut : Cut) (begun next : WritingState) (messages : List Message) : Type 0 where
  pub next_is : next ≡ commit_round begun
  pub messages_are : messages ≡ commits_of (commit_round begun)
  pub prepared : (place : ℕ) → Contains (places_in begun) place → IsPreparedAt cut begun place

-- what a step of a round of Prepares shows
abbrev pub PrepareShows : ℕ → Cut → WritingState → WriteStep → Type 0
PrepareShows limit cut begun (Waits writing) = IsFurther begun (IsPreparedAt cut begun) writing
PrepareShows limit cut begun (Commits next messages) = AreCommits cut begun next messages
PrepareShows limit cut begun (Ends outcome) = IsEndOf limit cut begun outcome

-- each participant has committed, where the outcome is Committed
abbrev pub AreAllCommitted : Cut → WritingState → Outcome → Type 0
AreAllCommitted cut begun (outcome.Committed stamp) =
    (stamp ≡ begun.stamp) × ((place : ℕ) → Contains (places_in begun) place → IsCommittedAt cut begun place)
AreAllCommitted cut begun (outcome.Aborted stamp) = ⊥
AreAllCommitted cut begun (outcome.Full stamp) = ⊥

-- what a step of a round of Commits shows
abbrev pub CommitShows : Cut → WritingState → WriteStep → Type 0
CommitShows cut begun (Waits writing) = IsFurther begun (IsCommittedAt cut begun) writing
CommitShows cut begun (Commits next messages) = ⊥
CommitShows cut begun (Ends outcome) = AreAllCommitted cut begun outcome
