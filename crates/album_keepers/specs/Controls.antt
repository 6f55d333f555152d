-- Control requests of a session, and a partition's replies to them.
use Rattle.std.specs.Prelude.{◌≡◌, ◌≢◌, ℕ, true, List, None, Result, Ok, Err}
use Rattle.atomic_table.specs.Seated.{TableId}
use Rattle.album_stamps.specs.declared.refusals.Refusal.{Refusal}
use Rattle.album_stamps.specs.declared.refusals.Refusal.TheVariants.{OutOfMemory, NotPrepared, Clash, Full}
use Rattle.album_terminate.specs.declared.deciding.StampState.TheVariants as state
use Rattle.album_items.specs.ItemIds.{place_of}
use Rattle.album_partition.specs.Marks.{ArePending, state_of, is_full, latest, floor}
use Rattle.album_partition.specs.declared.marks.Mark.{Mark}
use Rattle.album_passes.specs.Cuts.{Cut, prefix_at}
use Rattle.album_passes.specs.Pass.{PassState}
use Rattle.album_keepers.specs.declared.control.Control.{Control}
use Rattle.album_keepers.specs.declared.control.Control.TheVariants.{Pending, History, Sweep, Trim}
use Rattle.album_keepers.specs.declared.control.ControlAnswer.{ControlAnswer}
use Rattle.album_keepers.specs.declared.control.ControlAnswer.TheVariants as answer

-- ---- a request

-- the client that asks, its tag, what it asks, and the pass that goes with it
pub record ControlRequestState : Type 0 where
  pub client : ℕ
  pub tag : ℕ
  pub control : Control
  pub pass : PassState

-- the pass is of this table and has no number
pub record IsControlRequest (table : TableId) (request : ControlRequestState) : Type 0 where
  pub of : request.pass.table ≡ table
  pub unnumbered : request.pass.number ≡ None

-- ---- a reply

-- these are the stamps that are pending
abbrev pub AnswersPending : List Mark → Result ControlAnswer Refusal → Type 0
AnswersPending marks (Ok (answer.Pending stamps)) = ArePending marks stamps
AnswersPending marks (Ok (answer.History made)) = ⊥
AnswersPending marks (Ok answer.Swept) = ⊥
AnswersPending marks (Ok answer.Trimmed) = ⊥
AnswersPending marks (Err why) = why ≡ OutOfMemory

-- these are all marks
abbrev pub AnswersHistory : List Mark → Result ControlAnswer Refusal → Type 0
AnswersHistory marks (Ok (answer.History made)) = made.items ≡ marks
AnswersHistory marks (Ok (answer.Pending stamps)) = ⊥
AnswersHistory marks (Ok answer.Swept) = ⊥
AnswersHistory marks (Ok answer.Trimmed) = ⊥
AnswersHistory marks (Err why) = why ≡ OutOfMemory

-- the stamp is pending, and the others of its partitions were asked; or it is not
abbrev pub AnswersSwept : List Mark → ℕ → Result ControlAnswer Refusal → Type 0
AnswersSwept marks stamp (Ok answer.Swept) = state_of marks stamp ≡ state.Pending
AnswersSwept marks stamp (Ok (answer.Pending stamps)) = ⊥
AnswersSwept marks stamp (Ok (answer.History made)) = ⊥
AnswersSwept marks stamp (Ok answer.Trimmed) = ⊥
AnswersSwept marks stamp (Err why) =
    why ≢ OutOfMemory → (why ≡ NotPrepared) × (state_of marks stamp ≢ state.Pending)

-- why an item is not trimmed at a partition: it is placed elsewhere, or there is no room for the mark
pub data IsUntrimmed (limit : ℕ) (cut : Cut) (part item : ℕ) : Refusal → Type 0 where
  Elsewhere : place_of cut.parts item ≢ part → IsUntrimmed limit cut part item Clash
  NoRoom : is_full limit (prefix_at cut part) ≡ true → IsUntrimmed limit cut part item Full

-- no version of the item is kept that is below its latest stamp; or why not
abbrev pub AnswersTrimmed : ℕ → Cut → ℕ → ℕ → Result ControlAnswer Refusal → Type 0
AnswersTrimmed limit cut part item (Ok answer.Trimmed) =
    floor (prefix_at cut part) item ≡ latest (prefix_at cut part) item
AnswersTrimmed limit cut part item (Ok (answer.Pending stamps)) = ⊥
AnswersTrimmed limit cut part item (Ok (answer.History made)) = ⊥
AnswersTrimmed limit cut part item (Ok answer.Swept) = ⊥
AnswersTrimmed limit cut part item (Err why) = why ≢ OutOfMemory → IsUntrimmed limit cut part item why

-- a partition's answer to a control request, at the point of its history that the cut shows
abbrev pub Answers : ℕ → Cut → ℕ → Control → Result ControlAnswer Refusal → Type 0
Answers limit cut part Pending result = AnswersPending (prefix_at cut part) result
Answers limit cut part History result = AnswersHistory (prefix_at cut part) result
Answers limit cut part (Sweep stamp) result = AnswersSwept (prefix_at cut part) stamp result
Answers limit cut part (Trim item) result = AnswersTrimmed limit cut part item result

-- the partition that answers, the request's tag, what it asked, the answer, and the pass that goes with it
pub record ControlReplyState : Type 0 where
  pub part : ℕ
  pub tag : ℕ
  pub control : Control
  pub answer : Result ControlAnswer Refusal
  pub pass : PassState

-- the pass is of this table and has no number, and the answer is true at the point that its cut shows
pub record IsControlReply (table : TableId) (limit : ℕ) (reply : ControlReplyState) : Type 0 where
  pub of : reply.pass.table ≡ table
  pub unnumbered : reply.pass.number ≡ None
  pub true_there : Answers limit reply.pass.cut reply.part reply.control reply.answer
