-- What a write has ready before it needs it.
use Rattle.std.specs.Prelude.{◌≡◌, ◌≢◌, ℕ, ◌+◌, ◌<◌, ◌≤◌, ◌^◌, List, []}
use Rattle.album_stamps.specs.declared.limits.TheConstants.{MAX_PARTS}
use Rattle.album_calls.specs.declared.messages.Message.{Message}
use Rattle.album_writer.specs.Writing.{WritingState, places_in, commit_round, commits_of}

-- there are neither too few partitions nor too many, and the participants are listed
pub record HasPlaces (writing : WritingState) (places : List ℕ) : Type 0 where
  pub low : 1 ≤ writing.parts
  pub high : writing.parts ≤ MAX_PARTS
  pub same : places ≡ places_in writing

-- some reply to the Prepares is outstanding, and the Commits are there, with the participants whose replies to the
-- Commits will be outstanding
pub record IsReady (writing : WritingState) (commits : List Message) (later : List ℕ) : Type 0 where
  pub outstanding : writing.outstanding ≢ []
  pub sent : commits ≡ commits_of (commit_round writing)
  pub next : later ≡ places_in writing
  pub tag : writing.tag + 1 < 2 ^ 64
