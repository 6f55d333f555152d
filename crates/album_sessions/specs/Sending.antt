-- When a session can announce what it is about to send, and that this is announced.
use Rattle.std.specs.Prelude.{◌≡◌, ℕ, ◌≤◌, List, [], ◌∷◌, Option, Some, None}
use Rattle.album_calls.specs.declared.messages.Message.{Message}
use Rattle.album_client.specs.declared.clients.Phase.{Phase}
use Rattle.album_client.specs.declared.clients.Phase.TheVariants.{Idle, Reads, Prepares, Commits}
use Rattle.album_eval.specs.declared.policies.Policy.{Policy}
use Rattle.album_passes.specs.Cuts.{Cut, Announcement, Extends, IsSound}
use Rattle.album_stamps.specs.Stamps.{counter_of}
use Rattle.album_channels.specs.Sending.{announced_with, IsUnused}
use Rattle.album_grounds.specs.Granted.{IsGrantedFor}
use Rattle.album_grounds.specs.Writes.{announcement_of}
use Rattle.album_sessions.specs.Sessions.{SessionState}

-- what is to be announced before these messages leave: the whole write, where they are its Prepares
abbrev pub to_announce : List Message → Phase → Option Announcement
to_announce [] phase = None
to_announce (message ∷ messages) (Idle tag) = None
to_announce (message ∷ messages) (Reads pending_ask round) = None
to_announce (message ∷ messages) (Prepares writing) = Some (announcement_of writing)
to_announce (message ∷ messages) (Commits writing) = None

-- the cut once that is announced
abbrev pub announced_by : Cut → List Message → Phase → Cut
announced_by cut messages phase = announced_with cut (to_announce messages phase)

-- the clock has reached its counter
abbrev pub IsReached : ℕ → Option Announcement → Type 0
IsReached counter None = Unit {0}
IsReached counter (Some (stamp, announced)) = counter_of stamp ≤ counter

-- it can be announced, and was granted
pub record IsFreeFor (policy : Policy) (session : SessionState) (announcement : Option Announcement) : Type 0 where
  pub granted : IsGrantedFor policy session.cut announcement
  pub unused : IsUnused (record { client = session.client; cut = session.cut }) announcement
  pub reached : IsReached session.counter announcement

abbrev pub IsFree : Policy → SessionState → List Message → Phase → Type 0
IsFree policy session messages phase = IsFreeFor policy session (to_announce messages phase)

-- that is announced, and nothing else is changed
pub record IsAnnouncedBy (old new : SessionState) (messages : List Message) (phase : Phase) : Type 0 where
  pub client : new.client ≡ old.client
  pub counter : new.counter ≡ old.counter
  pub share : new.share ≡ old.share
  pub cut : new.cut ≡ announced_by old.cut messages phase
  pub grown : Extends old.cut new.cut
  pub sound : IsSound new.cut
