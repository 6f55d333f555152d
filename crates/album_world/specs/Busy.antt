-- Busy has its cause: an ask has no view only where its read set is too large, or where eight reads were not enough.
use Rattle.std.specs.Prelude.{◌≡◌, ◌<◌, ◌≤◌, ◌⊎◌, List, Some, None, length, Contains}
use Rattle.album_stamps.specs.declared.limits.TheConstants.{MAX_READ_ITEMS, MAX_READS}
use Rattle.album_eval.specs.declared.policies.Policy.{Policy}
use Rattle.album_reader.specs.Answers.{ReadVersion}
use Rattle.album_views.specs.ReadSets.{looker_of, names_of}
use Rattle.album_views.specs.Views.{IsClosed}
use Rattle.album_views.specs.declared.viewing.Why.{Why}
use Rattle.album_views.specs.declared.viewing.Why.TheVariants.{Rounds, Wide}
use Rattle.album_client.specs.Terms.{Terms}
use Rattle.album_world.specs.Past.{Read, PastAnswer, World}
use Rattle.album_permits.specs.declared.answers.Answer.{Answer}
use Rattle.album_permits.specs.declared.answers.Answer.TheVariants as answer

-- the snapshot of the read is not closed
pub record IsOpen (policy : Policy) (read : Read) (rows : List ReadVersion) : Type 0 where
  pub shown : read.rows ≡ Some rows
  pub lacking : IsClosed (looker_of policy read.principal) read.ask rows → ⊥

-- the snapshot is not closed, and its read set has more items than can be read
pub record IsWide (policy : Policy) (read : Read) : Type 0 where
  pub rows : List ReadVersion
  pub lacking : IsOpen policy read rows
  pub wide : MAX_READ_ITEMS < length (names_of rows (looker_of policy read.principal) read.ask)

-- the snapshot is not closed, and its read set has no more items than can be read
pub record IsNarrow (policy : Policy) (read : Read) : Type 0 where
  pub rows : List ReadVersion
  pub lacking : IsOpen policy read rows
  pub narrow : length (names_of rows (looker_of policy read.principal) read.ask) ≤ MAX_READ_ITEMS

-- it was the last read that the ask may have: an item was gone, or its snapshot is not closed
pub record IsLastRead (policy : Policy) (read : Read) : Type 0 where
  pub nth : read.begun.nth ≡ MAX_READS
  pub in_vain : (read.rows ≡ None) ⊎ IsNarrow policy read

-- the read is a cause of this answer Busy
abbrev pub IsCause : Policy → Why → Read → Type 0
IsCause policy Wide read = IsWide policy read
IsCause policy Rounds read = IsLastRead policy read

-- the read that the client had made last has the cause
pub record HasCause (policy : Policy) (world : World) (given : PastAnswer) (why : Why) : Type 0 where
  pub read : Read
  pub last_is : given.last ≡ Some read
  pub made : Contains world.past.reads read
  pub own : read.begun.client ≡ given.client
  pub cause : IsCause policy why read

-- an answer Busy has its cause; any other answer needs none
abbrev pub IsCaused : Policy → World → PastAnswer → Answer → Type 0
IsCaused policy world given (answer.Busy why) = HasCause policy world given why
IsCaused policy world given (answer.Served served) = Unit {0}
IsCaused policy world given (answer.Denied reasons) = Unit {0}
IsCaused policy world given (answer.Missing object) = Unit {0}
IsCaused policy world given (answer.Committed stamp) = Unit {0}
IsCaused policy world given (answer.Aborted stamp) = Unit {0}
IsCaused policy world given (answer.Unsettled stamp why) = Unit {0}
IsCaused policy world given (answer.Refused why) = Unit {0}

-- each answer Busy that was ever given has its cause
abbrev pub BusyHasItsCause : Terms → World → Type 0
BusyHasItsCause terms world =
    (given : PastAnswer) → Contains world.past.answers given → IsCaused terms.policy world given given.answer
