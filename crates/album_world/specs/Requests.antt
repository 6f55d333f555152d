-- Answers are to requests: a request has at most one answer, which rests on what was read and written for it.
use Rattle.std.specs.Prelude.{◌≡◌, ◌≤◌, ℕ, List, [], ◌∷◌, ◌++◌, length, Some, None, Contains, AllPairs}
use Rattle.album_partition.specs.Partition.{PartitionState}
use Rattle.album_partition.specs.declared.marks.Mark.{Mark}
use Rattle.album_reader.specs.Answers.{ReadVersion}
use Rattle.album_reader.specs.Atomic.{IsFreshFrom}
use Rattle.album_client.specs.Terms.{Terms}
use Rattle.album_client.specs.Steps.{Transaction}
use Rattle.album_world.specs.Atomic.{writes_in_world}
use Rattle.album_world.specs.Fresh.{IsCommittedFor}
use Rattle.album_world.specs.Past.{Asked, Read, PastAnswer, World, last_asked, last_read}
use Rattle.album_world.specs.Runs.{past_answer}
use Rattle.album_world.specs.State.{history_in}
use Rattle.album_permits.specs.declared.answers.Answer.{Answer}
use Rattle.album_permits.specs.declared.answers.Answer.TheVariants as answer

-- ---- reads and writes for a request

-- each partition has all marks that it had earlier
abbrev pub AreAtOrAfter : List PartitionState → List PartitionState → Type 0
AreAtOrAfter later earlier = (part : ℕ) → (more : List Mark) × (history_in later part ≡ history_in earlier part ++ more)

-- The client read for this request: with its ask and principal, from partitions at or after those of the request. So a
-- snapshot is no older than what the partitions had committed before the request was made.
pub record IsReadFor (terms : Terms) (world : World) (asked : Asked) (read : Read) : Type 0 where
  pub made : Contains world.past.reads read
  pub own : read.begun.client ≡ asked.client
  pub ask : read.ask ≡ asked.ask
  pub principal : read.principal ≡ asked.principal
  pub later : AreAtOrAfter read.begun.partitions asked.partitions
  pub fresh : (rows : List ReadVersion) → read.rows ≡ Some rows
      → IsFreshFrom (writes_in_world world) (IsCommittedFor terms asked.partitions) rows

-- the client began the write for this request: by a permit for its ask and principal
pub record IsWriteFor (world : World) (asked : Asked) (by : Transaction) : Type 0 where
  pub begun : Contains world.past.transactions by
  pub own : by.client ≡ asked.client
  pub ask : by.permit.view.ask ≡ asked.ask
  pub principal : by.permit.principal ≡ asked.principal

-- ---- its answer

-- one write was begun, at the stamp
pub record IsOneAt (stamp : ℕ) (writes : List Transaction) : Type 0 where
  pub by : Transaction
  pub only : writes ≡ by ∷ []
  pub at : by.stamp ≡ stamp

-- An outcome is that of the one write that was begun. With any other answer, no write was begun.
abbrev pub HasBegun : List Transaction → Answer → Type 0
HasBegun writes (answer.Served served) = writes ≡ []
HasBegun writes (answer.Denied reasons) = writes ≡ []
HasBegun writes (answer.Missing object) = writes ≡ []
HasBegun writes (answer.Busy why) = writes ≡ []
HasBegun writes (answer.Refused why) = writes ≡ []
HasBegun writes (answer.Committed stamp) = IsOneAt stamp writes
HasBegun writes (answer.Aborted stamp) = IsOneAt stamp writes
HasBegun writes (answer.Unsettled stamp why) = IsOneAt stamp writes

-- the answer rests on the last read for the request, and exactly this was begun
pub record IsAnsweredBy (world : World) (asked : Asked) (answer : Answer) : Type 0 where
  pub kept : Contains world.past.answers (past_answer asked.reads asked.client answer)
  pub last : last_read asked.reads asked.client ≡ None → ⊥
  pub begun : HasBegun asked.writes answer

-- the answer is the only one to the client's last request
pub record IsAnsweredLast (world : World) (client : ℕ) (answer : Answer) : Type 0 where
  pub asked : Asked
  pub last : last_asked world.past.asked client ≡ Some asked
  pub one : asked.answers ≡ answer ∷ []

-- ---- all requests

-- the reads, writes and answers of a request are for it alone; there is at most one write and at most one answer
pub record IsServedAlone (terms : Terms) (world : World) (asked : Asked) : Type 0 where
  pub reads : (read : Read) → Contains asked.reads read → IsReadFor terms world asked read
  pub writes : (by : Transaction) → Contains asked.writes by → IsWriteFor world asked by
  pub one_write : length asked.writes ≤ 1
  pub one_answer : length asked.answers ≤ 1
  pub answered : (answer : Answer) → Contains asked.answers answer → IsAnsweredBy world asked answer

-- the answer is to a request of its client, and rests on the last read for that request
pub record IsToRequest (world : World) (given : PastAnswer) : Type 0 where
  pub asked : Asked
  pub made : Contains world.past.asked asked
  pub answers : Contains asked.answers given.answer
  pub is : given ≡ past_answer asked.reads asked.client given.answer

-- the write was begun for a request
pub record IsForRequest (world : World) (by : Transaction) : Type 0 where
  pub asked : Asked
  pub made : Contains world.past.asked asked
  pub writes : Contains asked.writes by

-- Each request that was ever made is served alone. Each answer that was ever given is to a request, and each write that
-- was ever begun is for a request. No client makes a request before its last one is answered. (The last request is the
-- first in the list.)
pub record AnswersAreToRequests (terms : Terms) (world : World) : Type 0 where
  pub alone : (asked : Asked) → Contains world.past.asked asked → IsServedAlone terms world asked
  pub answers : (given : PastAnswer) → Contains world.past.answers given → IsToRequest world given
  pub begun : (by : Transaction) → Contains world.past.transactions by → IsForRequest world by
  pub in_turn :
      AllPairs (λ (later earlier : Asked). later.client ≡ earlier.client → length earlier.answers ≡ 1) world.past.asked
