-- A client, and what it is before its first ask.
use Rattle.std.specs.Prelude.{◌≡◌, ℕ, Bool, true, false, Option, Some, None}
use Rattle.album_stamps.specs.Clocks.{ClockState, fresh_clock}
use Rattle.album_reader.specs.Rounds.{IsOpen}
use Rattle.album_client.specs.declared.clients.Phase.{Phase}
use Rattle.album_client.specs.declared.clients.Phase.TheVariants.{Idle, Reads, Prepares, Commits}

-- a client: its number, the clock from which it draws its stamps, and what it does
pub record Client : Type 0 where
  pub number : ℕ
  pub clock : ClockState
  pub phase : Phase

-- what is true of each client: it draws stamps of its own
abbrev pub HasOwnClock : Client → Type 0
HasOwnClock client = client.clock.client ≡ client.number

-- a client that never asked: idle, with a clock that neither drew nor saw a stamp
abbrev pub newcomer : ℕ → Client
newcomer number = record { number = number; clock = fresh_clock number; phase = Idle 0 }

-- it reads
abbrev pub is_reading : Phase → Bool
is_reading (Idle tag) = false
is_reading (Reads pending_ask round) = true
is_reading (Prepares writing) = false
is_reading (Commits writing) = false

-- the stamp of the write that is under way
abbrev pub stamp_at_work : Phase → Option ℕ
stamp_at_work (Idle tag) = None
stamp_at_work (Reads pending_ask round) = None
stamp_at_work (Prepares writing) = Some writing.stamp
stamp_at_work (Commits writing) = Some writing.stamp

-- the tag of its round; where it is idle, that of its last one
abbrev pub tag_of : Phase → ℕ
tag_of (Idle tag) = tag
tag_of (Reads pending_ask round) = round.asker.tag
tag_of (Prepares writing) = writing.tag
tag_of (Commits writing) = writing.tag

-- what is true of what each does: a round of a read is open
abbrev pub IsProper : Phase → Type 0
IsProper (Idle tag) = Unit {0}
IsProper (Reads pending_ask round) = IsOpen round
IsProper (Prepares writing) = Unit {0}
IsProper (Commits writing) = Unit {0}
