-- A client at an event: what it does, its next state, and its outputs.
use Rattle.std.specs.Prelude.{◌≡◌, ℕ, Bool, true, false, List, [], length, Option, Some, None}
use Rattle.album_calls.specs.declared.messages.Message.{Message}
use Rattle.album_writer.specs.Writing.{places_in}
use Rattle.album_client.specs.declared.clients.Phase.{Phase}
use Rattle.album_client.specs.declared.clients.Phase.TheVariants.{Idle, Reads, Prepares, Commits}
use Rattle.album_client.specs.Clients.{Client}
use Rattle.album_client.specs.Steps.{TransitionState}
use Rattle.album_permits.specs.declared.outs.Out.{Out}
use Rattle.album_world.specs.Changes.{Change}
use Rattle.album_world.specs.Changes.Change.{Nothing, AtPart, AtClient, Stops}
use Rattle.album_world.specs.Runs.{outs_of_transition}

-- ---- what it does

-- the tag of the client's last round, if it is idle
abbrev pub idle_tag : Phase → Option ℕ
idle_tag (Idle tag) = Some tag
idle_tag (Reads pending_ask round) = None
idle_tag (Prepares writing) = None
idle_tag (Commits writing) = None

-- the client writes
abbrev pub is_writing : Phase → Bool
is_writing (Idle tag) = false
is_writing (Reads pending_ask round) = false
is_writing (Prepares writing) = true
is_writing (Commits writing) = true

-- how many messages the client may send when it takes a message in a write: the Commits
abbrev pub room_of : Phase → ℕ
room_of (Idle tag) = 0
room_of (Reads pending_ask round) = 0
room_of (Prepares writing) = length (places_in writing)
room_of (Commits writing) = 0

-- ---- its next state

-- the client of this number has made the transition: its next state, the messages that it sends, and its outputs, where
-- so many messages were sent before
pub record IsInstalled
    (before number : ℕ) (transition : TransitionState) (new : Client) (sent : List Message) (outs : List Out)
    : Type 0 where
  pub client : new ≡ transition.client
  pub sent_is : sent ≡ transition.sent
  pub outputs : outs ≡ outs_of_transition before number transition

-- the client stays as it is, and there are no outputs
pub record IsLeft (old new : Client) (sent : List Message) (outs : List Out) : Type 0 where
  pub client : new ≡ old
  pub silent : sent ≡ []
  pub no_outputs : outs ≡ []

-- by the change the client makes a transition, or is left as it is
abbrev pub IsChangedBy : ℕ → Client → Change → Client → List Message → List Out → Type 0
IsChangedBy before old Nothing new sent outs = IsLeft old new sent outs
IsChangedBy before old (AtPart part partition messages) new sent outs = ⊥
IsChangedBy before old (AtClient number transition) new sent outs =
    (number ≡ old.number) × IsInstalled before number transition new sent outs
IsChangedBy before old (Stops number) new sent outs = ⊥
