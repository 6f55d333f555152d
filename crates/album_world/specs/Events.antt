-- What holds of one event.
use Rattle.std.specs.Prelude.{◌≡◌, ◌<◌, ◌≤◌, ℕ, Some, None, Contains}
use Rattle.album_stamps.specs.Stamps.{stamp_number}
use Rattle.album_permits.specs.declared.notes.Note.{Note}
use Rattle.album_client.specs.Clients.{Client}
use Rattle.album_client.specs.Steps.{Transaction, TransitionState}
use Rattle.album_permits.specs.declared.answers.Answer.{Answer}
use Rattle.album_world.specs.Past.{Read, PastAnswer, Noted, World, last_read}

-- the past has the note for the client and the read that it had made last
pub record IsNoteKept (world : World) (client : ℕ) (note : Note) : Type 0 where
  pub noted : Noted
  pub kept : Contains world.past.noted noted
  pub own : noted.client ≡ client
  pub last_is : noted.last ≡ last_read world.past.reads client
  pub among : Contains noted.notes note

-- The write has the stamp that the client's clock drew at this event: the clock rose to it.
pub record IsDrawnNow (old : Client) (transition : TransitionState) (by : Transaction) : Type 0 where
  pub is : by.stamp ≡ stamp_number transition.client.clock.counter old.clock.client
  pub above : old.clock.counter < transition.client.clock.counter

-- A client whose ask is answered begins no write. Its clock sees nothing where no view is ruled on, and is never set
-- back. It draws the stamp of each write that begins.
pub record IsTidy (old : Client) (transition : TransitionState) : Type 0 where
  pub over : (answer : Answer) → transition.answer ≡ Some answer → transition.writes ≡ None
  pub unread : transition.noted ≡ None → transition.client.clock ≡ old.clock
  pub number : transition.client.number ≡ old.number
  pub own : transition.client.clock.client ≡ old.clock.client
  pub rises : old.clock.counter ≤ transition.client.clock.counter
  pub drawn : (by : Transaction) → transition.writes ≡ Some by → IsDrawnNow old transition by

-- the later past has all writes, reads, answers and notes of the earlier one
pub record IsRemembered (old new : World) : Type 0 where
  pub transactions : (by : Transaction) → Contains old.past.transactions by → Contains new.past.transactions by
  pub reads : (read : Read) → Contains old.past.reads read → Contains new.past.reads read
  pub answers : (given : PastAnswer) → Contains old.past.answers given → Contains new.past.answers given
  pub noted : (noted : Noted) → Contains old.past.noted noted → Contains new.past.noted noted
