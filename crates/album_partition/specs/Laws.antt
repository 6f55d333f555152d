-- What follows of the table of answers: what each reply, each version that is read and each mark means.
use Rattle.std.specs.Prelude.{◌≡◌, ◌≢◌, ℕ, ◌≤◌, ◌<◌, true, false, All, Contains, ◌⊎◌, List, [], ◌∷◌, Some, None}
use Rattle.album_items.specs.ItemIds.{place_of}
use Rattle.album_items.specs.Openings.{Row}
use Rattle.album_items.specs.declared.values.Value.{Value}
use Rattle.album_calls.specs.declared.messages.Body.{Body}
use Rattle.album_calls.specs.declared.messages.Body.TheVariants as body
use Rattle.album_calls.specs.declared.messages.Message.{Message}
use Rattle.album_calls.specs.declared.nodes.Node.TheVariants.{Part}
use Rattle.album_calls.specs.declared.nodes.Vote.TheVariants as vote
use Rattle.album_calls.specs.declared.requests.Request.TheVariants.{Prepare, PrepareOn, Commit, Get, Check}
use Rattle.album_calls.specs.declared.replies.Reply.{Reply}
use Rattle.album_calls.specs.declared.replies.Reply.TheVariants as reply
use Rattle.album_terminate.specs.declared.deciding.StampState.TheVariants as state
use Rattle.album_partition.specs.declared.marks.Mark.{Mark}
use Rattle.album_partition.specs.declared.marks.Mark.TheVariants.{Prepared, Committed, Discarded, Trimmed}
use Rattle.album_partition.specs.Answers.{is_same}
use Rattle.album_partition.specs.Bases.{are_bases}
use Rattle.album_partition.specs.Marks.{state_of, is_full, items_at, first_value, version, has_version, floor, kept_version, is_legal}
use Rattle.album_partition.specs.Partition.{PartitionState}
use Rattle.album_items.specs.Places.{lies_at, others_of}
use Rattle.album_partition.specs.Proper.{is_proper, is_proper_on}
use Rattle.album_partition.specs.Votes.{heard}

-- ---- what a reply means

-- The stamp has the state that the reply says, and an item that is gone was trimmed. (Of a version and of a Clash this
-- says nothing.)
abbrev pub IsTrueOf : List Mark → Reply → Type 0
IsTrueOf marks (reply.Prepared stamp) =
    (state_of marks stamp ≡ state.Pending) ⊎ (state_of marks stamp ≡ state.Committed)
IsTrueOf marks (reply.Committed stamp) = state_of marks stamp ≡ state.Committed
IsTrueOf marks (reply.Discarded stamp) = state_of marks stamp ≡ state.Discarded
IsTrueOf marks (reply.Status stamp vote.Prepared) = state_of marks stamp ≡ state.Pending
IsTrueOf marks (reply.Status stamp vote.Committed) = state_of marks stamp ≡ state.Committed
IsTrueOf marks (reply.Status stamp vote.Never) = state_of marks stamp ≡ state.Discarded
IsTrueOf marks (reply.NotPrepared stamp) = state_of marks stamp ≡ state.Unknown
IsTrueOf marks (reply.Full stamp) = state_of marks stamp ≡ state.Unknown
IsTrueOf marks (reply.Version item stamp value) = Unit {0}
IsTrueOf marks reply.Clash = Unit {0}
IsTrueOf marks (reply.Gone item) = 0 < floor marks item

-- What makes a request clash: a stamp that is 0, a Prepare that can't be followed or is not the one that was
-- prepared, an item that is placed elsewhere.
abbrev pub IsClash : PartitionState → Body → Type 0
IsClash partition (body.Request (Prepare stamp writes items)) =
    (is_proper partition.number partition.parts stamp writes items ≡ false)
    ⊎ ((is_same partition.marks stamp writes items ≡ false)
    × ((state_of partition.marks stamp ≡ state.Pending) ⊎ (state_of partition.marks stamp ≡ state.Committed)))
    ⊎ (partition.checked ≡ true)
IsClash partition (body.Request (PrepareOn stamp writes items bases)) =
    (is_proper_on partition.number partition.parts stamp writes items bases ≡ false)
    ⊎ ((state_of partition.marks stamp ≡ state.Pending) ⊎ (state_of partition.marks stamp ≡ state.Committed))
    ⊎ (partition.checked ≡ false)
IsClash partition (body.Request (Commit stamp)) = stamp ≡ 0
IsClash partition (body.Request (Get item stamps)) = place_of partition.parts item ≢ partition.number
IsClash partition (body.Request (Check stamp)) = stamp ≡ 0
IsClash partition (body.Reply reply) = ⊥

-- the answer goes from the partition to the sender of the message, under its tag
pub record IsReplyTo (partition : PartitionState) (message sent : Message) : Type 0 where
  pub sender : sent.from ≡ Part partition.number
  pub receiver : sent.to ≡ message.from
  pub tag : sent.tag ≡ message.tag

-- ---- what is read of an item

-- with no stamps given: the greatest committed stamp at which the item has a version, or 0 where there is none
pub record IsLatest (marks : List Mark) (item stamp : ℕ) : Type 0 where
  pub committed : stamp ≢ 0 → state_of marks stamp ≡ state.Committed
  pub there : stamp ≢ 0 → has_version marks item stamp ≡ true
  pub greatest : (t : ℕ) → state_of marks t ≡ state.Committed → has_version marks item t ≡ true → t ≤ stamp

-- with stamps given: the greatest of them at which the item has a version, or 0 where there is none
pub record IsBest (marks : List Mark) (item : ℕ) (stamps : List ℕ) (stamp : ℕ) : Type 0 where
  pub given : stamp ≢ 0 → Contains stamps stamp
  pub there : stamp ≢ 0 → has_version marks item stamp ≡ true
  pub greatest : All (λ t. has_version marks item t ≡ true → t ≤ stamp) stamps

abbrev pub IsReadAt : List Mark → ℕ → List ℕ → ℕ → Type 0
IsReadAt marks item [] stamp = IsLatest marks item stamp
IsReadAt marks item (t ∷ stamps) stamp = IsBest marks item (t ∷ stamps) stamp

-- the value is that of the item's version, and at 0 its first value, or Missing
pub record IsValueOf (partition : PartitionState) (item stamp : ℕ) (value : Value) : Type 0 where
  pub written : stamp ≢ 0 → version partition.marks item stamp ≡ Some value
  pub first : stamp ≡ 0 → value ≡ first_value partition.items item

-- the version answers the message
pub record IsReadOf
    (partition : PartitionState) (message : Message) (item stamp : ℕ) (value : Value) : Type 0 where
  pub stamps : List ℕ
  pub asked : message.body ≡ body.Request (Get item stamps)
  pub stamp_is : IsReadAt partition.marks item stamps stamp
  pub value_is : IsValueOf partition item stamp value

-- the message asks for the item with stamps, no version of it is kept at any of them, and the item was trimmed
pub record IsGoneFor (marks : List Mark) (message : Message) (item : ℕ) : Type 0 where
  pub stamps : List ℕ
  pub asked : message.body ≡ body.Request (Get item stamps)
  pub trimmed : 0 < floor marks item
  pub unkept : All (λ t. kept_version marks item t ≡ None) stamps
  pub some : is_legal marks ≡ true → stamps ≢ []

-- ---- why a mark is made

-- a checked Prepare at a partition that is checked, whose bases are the latest versions
pub record IsBased
    (partition : PartitionState) (what : Body) (stamp : ℕ) (writes : List Row) (items : List ℕ) : Type 0 where
  pub bases : List ℕ
  pub checked : partition.checked ≡ true
  pub asked : what ≡ body.Request (PrepareOn stamp writes items bases)
  pub based : are_bases partition.marks stamp writes bases ≡ true

-- a Prepare at a partition that is not checked, or a checked one at one that is
abbrev pub AsksFor : PartitionState → Body → ℕ → List Row → List ℕ → Type 0
AsksFor partition what stamp writes items =
    ((what ≡ body.Request (Prepare stamp writes items)) × (partition.checked ≡ false))
    ⊎ IsBased partition what stamp writes items

-- a Prepare of an unknown stamp with these writes and items, which can be followed, and for which there is room
pub record IsAsked
    (partition : PartitionState) (message : Message) (stamp : ℕ) (writes : List Row) (items : List ℕ) : Type 0 where
  pub asked : AsksFor partition message.body stamp writes items
  pub unknown : state_of partition.marks stamp ≡ state.Unknown
  pub proper : is_proper partition.number partition.parts stamp writes items ≡ true
  pub room : is_full partition.limit partition.marks ≡ false

-- a Check of an unknown stamp, for whose mark there is room
pub record IsChecked (partition : PartitionState) (message : Message) (stamp : ℕ) : Type 0 where
  pub asked : message.body ≡ body.Request (Check stamp)
  pub unknown : state_of partition.marks stamp ≡ state.Unknown
  pub room : is_full partition.limit partition.marks ≡ false

-- a checked Prepare of an unknown stamp at a partition that is checked: one of its bases is not the latest version, or
-- another version is pending
pub record IsOutdated (partition : PartitionState) (message : Message) (stamp : ℕ) : Type 0 where
  pub writes : List Row
  pub items : List ℕ
  pub bases : List ℕ
  pub asked : message.body ≡ body.Request (PrepareOn stamp writes items bases)
  pub checked : partition.checked ≡ true
  pub outdated : are_bases partition.marks stamp writes bases ≡ false
  pub proper : is_proper_on partition.number partition.parts stamp writes items bases ≡ true
  pub unknown : state_of partition.marks stamp ≡ state.Unknown
  pub room : is_full partition.limit partition.marks ≡ false

-- one of the partitions of the stamp's items votes Prepared, and all others but this one were heard already
pub record IsLastVote (partition : PartitionState) (message : Message) (stamp : ℕ) : Type 0 where
  pub part : ℕ
  pub sender : message.from ≡ Part part
  pub voted : message.body ≡ body.Reply (reply.Status stamp vote.Prepared)
  pub due : lies_at part partition.parts (items_at partition.marks stamp) ≡ true
  pub others : All (Contains (part ∷ heard partition.votes stamp))
      (others_of partition.number partition.parts (items_at partition.marks stamp))

-- what has to be so where a message makes the mark
abbrev pub IsCause : PartitionState → Message → Mark → Type 0
IsCause partition message (Prepared stamp writes items) = IsAsked partition message stamp writes items
IsCause partition message (Committed stamp) =
    (state_of partition.marks stamp ≡ state.Pending)
    × ((message.body ≡ body.Request (Commit stamp))
    ⊎ ((message.body ≡ body.Reply (reply.Status stamp vote.Committed)) ⊎ IsLastVote partition message stamp))
IsCause partition message (Discarded stamp) =
    IsChecked partition message stamp
    ⊎ IsOutdated partition message stamp
    ⊎ ((state_of partition.marks stamp ≡ state.Pending)
    × (message.body ≡ body.Reply (reply.Status stamp vote.Never)))
IsCause partition message (Trimmed item) = ⊥
