-- What a session keeps, and what it is for it to add nothing to that.
use Rattle.std.specs.Prelude.{◌≡◌, ℕ, ◌<◌, None}
use Rattle.album_stamps.specs.Clocks.{ClockState}
use Rattle.album_stamps.specs.Stamps.{client_number, counter_of}
use Rattle.album_audit.specs.Books.{ShareState}
use Rattle.album_eval.specs.declared.policies.Policy.{Policy}
use Rattle.album_passes.specs.Cuts.{Cut, announced_for}
use Rattle.album_channels.specs.Channels.{ChannelState}
use Rattle.album_grounds.specs.Granted.{AreGranted}

-- the client, the greatest counter that its clock drew or saw, what was seen, and the session's share of the audit book
pub record SessionState : Type 0 where
  pub client : ℕ
  pub counter : ℕ
  pub cut : Cut
  pub share : ShareState

-- no stamp of the client's is announced whose counter is above this one
abbrev pub IsAhead : ℕ → ℕ → Cut → Type 0
IsAhead client counter cut = (stamp : ℕ) → client_number stamp ≡ client → counter < counter_of stamp
    → announced_for cut stamp ≡ None

-- nothing more is announced of the session's own stamps
abbrev pub AnnouncesNothing : SessionState → SessionState → Type 0
AnnouncesNothing old new = (stamp : ℕ) → client_number stamp ≡ old.client
    → announced_for new.cut stamp ≡ announced_for old.cut stamp

-- its clock is where it was, and nothing is announced
pub record DrawsNothing (old new : SessionState) : Type 0 where
  pub counter : new.counter ≡ old.counter
  pub silent : AnnouncesNothing old new

-- nor is anything noted
pub record AddsNothing (old new : SessionState) : Type 0 where
  pub share : new.share ≡ old.share
  pub drawn : DrawsNothing old new

-- the policy is this one, the clock is the client's, and ahead of what is announced of it, and that was granted
pub record IsSession (named policy : Policy) (clock : ClockState) (channel : ChannelState) : Type 0 where
  pub policy_is : policy ≡ named
  pub own : clock.client ≡ channel.client
  pub ahead : IsAhead channel.client clock.counter channel.cut
  pub granted : AreGranted named channel.client channel.cut
