-- Outcomes are true: what was answered about a write is its state at the partitions, for good.
use Rattle.std.specs.Prelude.{◌≡◌, ℕ, ◌≤◌, ◌⊎◌, true, List, Some, Contains}
use Rattle.album_stamps.specs.declared.limits.TheConstants.{MAX_COUNTER}
use Rattle.album_stamps.specs.declared.refusals.Refusal.{Refusal}
use Rattle.album_stamps.specs.declared.refusals.Refusal.TheVariants.{AlbumFull, StampsSpent, Full}
use Rattle.album_calls.specs.declared.messages.Body.TheVariants.{Reply}
use Rattle.album_calls.specs.declared.messages.Message.{Message}
use Rattle.album_calls.specs.declared.nodes.Node.TheVariants.{Part, Client}
use Rattle.album_calls.specs.declared.replies.Reply.TheVariants as reply
use Rattle.album_permits.specs.Effects.{is_full_for}
use Rattle.album_permits.specs.Permits.{PermitState}
use Rattle.album_reader.specs.Answers.{ReadVersion}
use Rattle.album_client.specs.Terms.{Terms}
use Rattle.album_client.specs.Steps.{Transaction}
use Rattle.album_world.specs.State.{client_at}
use Rattle.album_world.specs.Past.{Read, PastAnswer, World}
use Rattle.album_world.specs.Viewed.{IsAnsweredOnView}
use Rattle.album_world.specs.Committing.{parts_of, IsCommitted, IsCommittedEverywhere, IsPromisedSomewhere}
use Rattle.album_world.specs.Granted.{IsDrawnBy}
use Rattle.album_permits.specs.declared.answers.Answer.{Answer}
use Rattle.album_permits.specs.declared.answers.Answer.TheVariants as answer

-- the client's write of this stamp has the property
pub record IsOfWrite (world : World) (client stamp : ℕ) (Holds : Transaction → Type 0) : Type 0 where
  pub by : Transaction
  pub begun : Contains world.past.transactions by
  pub own : by.client ≡ client
  pub at : by.stamp ≡ stamp
  pub holds : Holds by

-- no partition has committed the stamp, and no snapshot has a row at it
pub record IsLost (world : World) (stamp : ℕ) : Type 0 where
  pub uncommitted : IsCommitted world stamp → ⊥
  pub unseen :
      (read : Read) (rows : List ReadVersion) (row : ReadVersion) → Contains world.past.reads read
      → read.rows ≡ Some rows
      → Contains rows row → row.stamp ≡ stamp → ⊥

-- a participant of the write replied Full to its Prepare: the reply went to its client, under the Prepare's tag
pub record IsRepliedFull (terms : Terms) (world : World) (by : Transaction) : Type 0 where
  pub message : Message
  pub part : ℕ
  pub sent : Contains world.now.messages message
  pub of : Contains (parts_of terms by) part
  pub from : message.from ≡ Part part
  pub to : message.to ≡ Client by.client
  pub tag : message.tag ≡ by.tag
  pub says : message.body ≡ Reply (reply.Full by.stamp)

-- the album that gets a child is full at a stamp that the client drew, and no write has that stamp
pub record IsAlbumFull (world : World) (client : ℕ) (permit : PermitState) : Type 0 where
  pub stamp : ℕ
  pub full : is_full_for permit stamp ≡ true
  pub drawn : IsDrawnBy world client stamp
  pub unused : (by : Transaction) → Contains world.past.transactions by → by.stamp ≡ stamp → ⊥

-- the client's clock is spent
abbrev pub IsSpent : World → ℕ → Type 0
IsSpent world client = MAX_COUNTER ≤ (client_at world.now.clients client).clock.counter

-- the permit could not be used for this reason
abbrev pub IsRefusedFor : World → ℕ → Refusal → PermitState → Type 0
IsRefusedFor world client why permit =
    ((why ≡ AlbumFull) × IsAlbumFull world client permit) ⊎ ((why ≡ StampsSpent) × IsSpent world client)

-- what the answer says about the write is true
abbrev pub IsTrueOutcome : Terms → World → PastAnswer → Answer → Type 0
IsTrueOutcome terms world given (answer.Served served) = Unit {0}
IsTrueOutcome terms world given (answer.Denied reasons) = Unit {0}
IsTrueOutcome terms world given (answer.Missing object) = Unit {0}
IsTrueOutcome terms world given (answer.Busy why) = Unit {0}
IsTrueOutcome terms world given (answer.Committed stamp) =
    IsOfWrite world given.client stamp (IsCommittedEverywhere terms world)
IsTrueOutcome terms world given (answer.Aborted stamp) =
    IsOfWrite world given.client stamp (IsPromisedSomewhere terms world) × IsLost world stamp
IsTrueOutcome terms world given (answer.Unsettled stamp why) =
    (why ≡ Full) × IsOfWrite world given.client stamp (IsRepliedFull terms world) × IsLost world stamp
IsTrueOutcome terms world given (answer.Refused why) =
    IsAnsweredOnView terms world given (IsRefusedFor world given.client why)

-- what each answer that was ever given says about its write is true, whatever has happened since
abbrev pub OutcomesAreTrue : Terms → World → Type 0
OutcomesAreTrue terms world =
    (given : PastAnswer) → Contains world.past.answers given → IsTrueOutcome terms world given given.answer
