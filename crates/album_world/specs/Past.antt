-- What has happened to a world. No code keeps it: it is for contracts alone.
use Rattle.std.specs.Prelude.{ℕ, ◌==◌, List, [], ◌∷◌, Option, Some, None, if◌then◌else◌}
use Rattle.album_eval.specs.declared.facts.Principal.{Principal}
use Rattle.album_partition.specs.Partition.{PartitionState}
use Rattle.album_reader.specs.Answers.{ReadVersion}
use Rattle.album_views.specs.declared.asks.Ask.{Ask}
use Rattle.album_permits.specs.declared.notes.Note.{Note}
use Rattle.album_client.specs.Steps.{Transaction}
use Rattle.album_world.specs.State.{Now}
use Rattle.album_permits.specs.declared.answers.Answer.{Answer}

-- a read that a client began: its number among the reads for one ask, from 1, and the partitions right before the event
-- that began it
pub record Begun : Type 0 where
  pub client : ℕ
  pub nth : ℕ
  pub partitions : List PartitionState

-- a read that is over: how it began, its ask and principal, and the versions that were read; or nothing, where an item
-- was gone
pub record Read : Type 0 where
  pub begun : Begun
  pub ask : Ask
  pub principal : Principal
  pub rows : Option (List ReadVersion)

-- an answer to a client, and the read that the client had made last
pub record PastAnswer : Type 0 where
  pub client : ℕ
  pub last : Option Read
  pub answer : Answer

-- the notes of a ruling on a client's ask, and the read that the client had made last
pub record Noted : Type 0 where
  pub client : ℕ
  pub last : Option Read
  pub notes : List Note

-- A request that a client made: its principal, its ask, and the partitions right before the event that made it. Then
-- what was done for it: the reads that are over, the last one first, the writes that began, the notes, and the answers.
pub record Asked : Type 0 where
  pub client : ℕ
  pub principal : Principal
  pub ask : Ask
  pub partitions : List PartitionState
  pub reads : List Read
  pub writes : List Transaction
  pub notes : List (List Note)
  pub answers : List Answer

-- all that has happened: requests, writes, reads, answers and notes; of requests and of reads the last ones come first
pub record Past : Type 0 where
  pub asked : List Asked
  pub transactions : List Transaction
  pub begun : List Begun
  pub reads : List Read
  pub answers : List PastAnswer
  pub noted : List Noted

-- a world: what it keeps, and what has happened to it
pub record World : Type 0 where
  pub now : Now
  pub past : Past

-- ---- the last ones of a client

-- the read that a client began last; before its first one, a read that is number 0
abbrev pub last_begun : List Begun → ℕ → Begun
last_begun [] client = record { client = client; nth = 0; partitions = [] }
last_begun (begun ∷ more) client = if begun.client == client then begun else last_begun more client

-- the last of a client's reads that are over
abbrev pub last_read : List Read → ℕ → Option Read
last_read [] client = None
last_read (read ∷ more) client = if read.begun.client == client then Some read else last_read more client

-- a client's last request
abbrev pub last_asked : List Asked → ℕ → Option Asked
last_asked [] client = None
last_asked (asked ∷ more) client = if asked.client == client then Some asked else last_asked more client
