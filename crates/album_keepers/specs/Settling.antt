-- What a partition commits before it answers a Get. The sender of a Get has seen each of its stamps committed at some
-- partition. So where one is pending here, it is committed here first, and what was read once is read by all who read
-- later.
use Rattle.std.specs.Prelude.{◌≢◌, ℕ, Bool, ◌==◌, ◌&&◌, not, List, [], ◌∷◌, All, if◌then◌else◌}
use Rattle.album_calls.specs.declared.messages.Body.{Body}
use Rattle.album_calls.specs.declared.messages.Body.TheVariants as body
use Rattle.album_calls.specs.declared.messages.Message.{Message}
use Rattle.album_calls.specs.declared.nodes.Node.TheVariants.{Part}
use Rattle.album_calls.specs.declared.requests.Request.TheVariants.{Prepare, PrepareOn, Commit, Get, Check}
use Rattle.album_partition.specs.Answers.{after}
use Rattle.album_partition.specs.Marks.{state_of, is_pending}
use Rattle.album_partition.specs.Partition.{PartitionState}
use Rattle.album_partition.specs.declared.marks.Mark.{Mark}
use Rattle.album_passes.specs.Cuts.{Cut}
use Rattle.album_passes.specs.Reads.{IsCommitted}
use Rattle.album_terminate.specs.declared.deciding.StampState.TheVariants as state

-- the stamps with which a message asks: those of a Get
abbrev pub stamps_in : Body → List ℕ
stamps_in (body.Request (Get item stamps)) = stamps
stamps_in (body.Request (Prepare stamp writes items)) = []
stamps_in (body.Request (PrepareOn stamp writes items bases)) = []
stamps_in (body.Request (Commit stamp)) = []
stamps_in (body.Request (Check stamp)) = []
stamps_in (body.Reply reply) = []

-- some partition has committed each of them, but for 0, which is the opening's
abbrev pub AreCommitted : Cut → List ℕ → Type 0
AreCommitted cut stamps = All (λ stamp. stamp ≢ 0 → IsCommitted cut stamp) stamps

-- a Commit of the stamp, from the partition to itself
abbrev pub own_commit : PartitionState → ℕ → Message
own_commit partition stamp =
    record { from = Part partition.number; to = Part partition.number; tag = 0; body = body.Request (Commit stamp) }

-- the stamp is a write's, and pending
abbrev pub is_unsettled : PartitionState → ℕ → Bool
is_unsettled partition stamp = not (stamp == 0) && is_pending (state_of partition.marks stamp)

-- the partition, once the stamp is committed if it was pending
abbrev pub settle_one : PartitionState → ℕ → PartitionState
settle_one partition stamp =
    if is_unsettled partition stamp then after partition (own_commit partition stamp) else partition

-- the same of each of the stamps, one after another
abbrev pub settled : PartitionState → List ℕ → PartitionState
settled partition [] = partition
settled partition (stamp ∷ stamps) = settled (settle_one partition stamp) stamps

-- none of them is pending, but for 0
abbrev pub AreSettledIn : List Mark → List ℕ → Type 0
AreSettledIn marks stamps = All (λ stamp. stamp ≢ 0 → state_of marks stamp ≢ state.Pending) stamps
