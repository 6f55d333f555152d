-- What a world keeps. Its code has this, and no more.
use Rattle.std.specs.Prelude.{ℕ, zero, suc, Bool, ◌==◌, nat_lt, List, [], ◌∷◌, Option, Some, None, if◌then◌else◌, max}
use Rattle.std.specs.List.{list_any, slice_get}
use Rattle.album_calls.specs.declared.messages.Message.{Message}
use Rattle.album_partition.specs.Partition.{PartitionState}
use Rattle.album_partition.specs.declared.marks.Mark.{Mark}
use Rattle.album_client.specs.Clients.{Client, newcomer}

-- The partitions, in the order of their numbers; all messages that were ever sent, in their order; the clients that
-- have asked, in the order of their first asks; and those that were stopped, rising.
pub record Now : Type 0 where
  pub partitions : List PartitionState
  pub messages : List Message
  pub clients : List Client
  pub stopped : List ℕ

-- ---- messages

-- the message of a number: the first one that was sent is 1
abbrev pub message_of : List Message → ℕ → Option Message
message_of messages zero = None
message_of messages (suc index) = slice_get messages index

-- ---- partitions

-- the marks of a partition, if it is there
abbrev pub marks_of : Option PartitionState → List Mark
marks_of None = []
marks_of (Some partition) = partition.marks

-- the history of the partition of a number; where there is no such partition, it has no marks
abbrev pub history_in : List PartitionState → ℕ → List Mark
history_in partitions part = marks_of (slice_get partitions part)

-- ---- clients

-- the client of a number; a client that never asked is a newcomer
abbrev pub client_at : List Client → ℕ → Client
client_at [] number = newcomer number
client_at (client ∷ clients) number = if client.number == number then client else client_at clients number

-- the clients with this one in its place, or after the others
abbrev pub with_client : Client → List Client → List Client
with_client client [] = client ∷ []
with_client client (first ∷ clients) =
    if first.number == client.number then client ∷ clients else first ∷ with_client client clients

-- the greatest counter of any client's clock, and 0 where none has asked
abbrev pub highest_counter : List Client → ℕ
highest_counter [] = 0
highest_counter (client ∷ clients) = max client.clock.counter (highest_counter clients)

-- the client was stopped
abbrev pub is_stopped : Now → ℕ → Bool
is_stopped now number = list_any (λ stopped. stopped == number) now.stopped

-- rising numbers with one more where it belongs
abbrev pub with_number : ℕ → List ℕ → List ℕ
with_number number [] = number ∷ []
with_number number (first ∷ numbers) =
    if nat_lt number first then number ∷ first ∷ numbers else first ∷ with_number number numbers
