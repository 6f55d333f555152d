-- What is true of the world after each event.
use Rattle.std.proofs.Common.{◌≡◌, ℕ, ◌<◌, ◌≤◌, ◌+◌, ◌*◌, true, List, [], ◌∷◌, ◌++◌, map, Option, Some, None, is_some, ◌⊎◌}
use Rattle.std.specs.List.{list_any, slice_get}
use Rattle.album_stamps.specs.declared.refusals.Refusal.TheVariants as refusal
use Rattle.album_items.specs.ItemIds.{place_of}
use Rattle.album_items.specs.Openings.{Row}
use Rattle.album_items.specs.declared.openings.Opening.{Opening}
use Rattle.album_items.specs.declared.values.Value.{Value}
use Rattle.album_calls.specs.declared.messages.Body.{Body}
use Rattle.album_calls.specs.declared.messages.Body.TheVariants as body
use Rattle.album_calls.specs.declared.messages.Message.{Message}
use Rattle.album_calls.specs.declared.nodes.Node.{Node}
use Rattle.album_calls.specs.declared.nodes.Node.TheVariants.{Part, Client as ToClient}
use Rattle.album_calls.specs.declared.nodes.Vote.{Vote}
use Rattle.album_calls.specs.declared.nodes.Vote.TheVariants as vote
use Rattle.album_calls.specs.declared.requests.Request.{Request}
use Rattle.album_calls.specs.declared.requests.Request.TheVariants.{Prepare, PrepareOn, Commit, Get, Check}
use Rattle.album_calls.specs.declared.replies.Reply.{Reply}
use Rattle.album_calls.specs.declared.replies.Reply.TheVariants as reply
use Rattle.album_terminate.specs.declared.deciding.StampState.TheVariants as state
use Rattle.album_partition.specs.declared.marks.Mark.{Mark}
use Rattle.album_partition.specs.declared.marks.Mark.TheVariants.{Prepared}
use Rattle.album_partition.specs.Bases.{are_bases}
use Rattle.album_partition.specs.Votes.{NotedVote}
use Rattle.album_partition.specs.Partition.{PartitionState, IsPartition}
use Rattle.album_partition.specs.Marks.{commits, discards, state_of, is_full, value_in, first_value, is_legal, IsPromisedAgainst}
use Rattle.album_reader.specs.Answers.{ReadVersion}
use Rattle.album_reader.specs.Rounds.{RoundState, are_in_order}
use Rattle.album_items.specs.Places.{places_of, rows_placed_at}
use Rattle.album_items.specs.Transactions.{items_written}
use Rattle.album_writer.specs.Writing.{WritingState, places_in}
use Rattle.album_listing.specs.ViewLookups.{stamp_seen}
use Rattle.album_permits.specs.Permits.{PermitState}
use Rattle.album_permits.specs.declared.answers.Answer.{Answer}
use Rattle.album_permits.specs.declared.answers.Answer.TheVariants as answer
use Rattle.album_client.specs.declared.clients.Phase.{Phase}
use Rattle.album_client.specs.declared.clients.Phase.TheVariants as phase
use Rattle.album_client.specs.Clients.{Client, tag_of}
use Rattle.album_client.specs.Steps.{Transaction}
use Rattle.album_world.specs.State.{history_in, client_at}
use Rattle.album_world.specs.Past.{World, Read, PastAnswer, last_begun}
use Rattle.album_world.specs.Committing.{history, IsCommitted, IsCommittedAt}
use Rattle.album_world.proofs.ListLemmas.{In}
use Rattle.album_world.proofs.MarkLemmas.{IsPreparedIn, wrote}

-- ---- facts that last as the world grows

-- the writes and items that a transaction has for a partition
pub record IsPrepareOf (o : Opening) (w : World) (p t : ℕ) (ws : List Row) (js : List ℕ) : Type 0 where
  pub of : Transaction
  pub begun : In of w.past.transactions
  pub stamp : of.stamp ≡ t
  pub writes : ws ≡ rows_placed_at p o.parts of.writes
  pub items : js ≡ items_written of.writes

-- the bases of these writes: of each the stamp at which the view of the permit shows its item
abbrev pub bases_for : PermitState → List Row → List ℕ
bases_for permit rows = map (λ (row : Row). stamp_seen permit.view.rows row.0) rows

-- the same writes and items, on these bases
pub record IsPrepareOnOf (o : Opening) (w : World) (p t : ℕ) (ws : List Row) (js bs : List ℕ) : Type 0 where
  pub is : IsPrepareOf o w p t ws js
  pub bases : bs ≡ bases_for is.of.permit ws

-- these marks have prepared them on their bases: each was the latest version just then, and no other was pending
pub record IsBasedIn (o : Opening) (w : World) (p : ℕ) (ms : List Mark) (t : ℕ) (ws : List Row) (js : List ℕ) : Type 0 where
  pub is : IsPrepareOf o w p t ws js
  pub before : List Mark
  pub later : List Mark
  pub all : ms ≡ before ++ Prepared t ws js ∷ later
  pub based : are_bases before t ws (bases_for is.of.permit ws) ≡ true

-- prepared at the partition of each of its items
pub record IsSettled (o : Opening) (w : World) (t : ℕ) : Type 0 where
  pub of : Transaction
  pub begun : In of w.past.transactions
  pub stamp : of.stamp ≡ t
  pub ready : (i : ℕ) (v : Value) → value_in of.writes i ≡ Some v → wrote (history w (place_of o.parts i)) t i ≡ Some v

-- the partition of one of its items has discarded it, and never prepared it
pub record IsAgainst (o : Opening) (w : World) (t : ℕ) : Type 0 where
  pub of : Transaction
  pub begun : In of w.past.transactions
  pub stamp : of.stamp ≡ t
  pub item : ℕ
  pub in_them : In item (items_written of.writes)
  pub promised : IsPromisedAgainst (history w (place_of o.parts item)) t

-- a transaction of this stamp writes an item of this partition
pub record IsPlacedAt (o : Opening) (w : World) (p t : ℕ) : Type 0 where
  pub of : Transaction
  pub begun : In of w.past.transactions
  pub stamp : of.stamp ≡ t
  pub item : ℕ
  pub in_them : In item (items_written of.writes)
  pub at : place_of o.parts item ≡ p

pub record IsFullFor (o : Opening) (w : World) (p t : ℕ) : Type 0 where
  pub unknown : state_of (history w p) t ≡ state.Unknown
  pub full : is_full o.limit (history w p) ≡ true

-- a value that an item has at a stamp
abbrev pub IsValue : Opening → World → ℕ → ℕ → Value → Type 0
IsValue o w i t v = ((t ≡ 0) × (v ≡ first_value o.items i)) ⊎
    ((t ≡ 0 → ⊥) × (wrote (history w (place_of o.parts i)) t i ≡ Some v))

abbrev pub IsZeroOrCommitted : World → ℕ → Type 0
IsZeroOrCommitted w t = (t ≡ 0) ⊎ IsCommitted w t

-- the transaction of t, if it wrote i, is no later than s
pub record IsNoLater (w : World) (i s t : ℕ) : Type 0 where
  pub of : Transaction
  pub begun : In of w.past.transactions
  pub stamp : of.stamp ≡ t
  pub bound : is_some (value_in of.writes i) ≡ true → t ≤ s

-- the item's partition had committed nothing later as the read began
pub record IsFreshAt (o : Opening) (began : List PartitionState) (i s : ℕ) : Type 0 where
  pub at : (t : ℕ) (v : Value) → list_any (commits t) (history_in began (place_of o.parts i)) ≡ true
      → wrote (history_in began (place_of o.parts i)) t i ≡ Some v → t ≤ s

-- ---- messages

abbrev pub AtPart : Node → (ℕ → Type 0) → Type 0
AtPart (Part p) P = P p
AtPart (ToClient c) P = Unit {0}

abbrev pub IsVote : Opening → World → Node → ℕ → Vote → Type 0
IsVote o w from t vote.Prepared = AtPart from (λ p. IsPreparedIn (history w p) t)
IsVote o w from t vote.Committed = IsSettled o w t
IsVote o w from t vote.Never = IsAgainst o w t

abbrev pub IsAsk : Opening → World → Node → Request → Type 0
IsAsk o w to (Prepare t ws js) = AtPart to (λ p. IsPrepareOf o w p t ws js)
IsAsk o w to (PrepareOn t ws js bs) = AtPart to (λ p. IsPrepareOnOf o w p t ws js bs)
IsAsk o w to (Commit t) = IsSettled o w t
IsAsk o w to (Get i ts) = Unit {0}
IsAsk o w to (Check t) = AtPart to (λ p. IsPlacedAt o w p t)

abbrev pub IsSay : Opening → World → Node → Reply → Type 0
IsSay o w from (reply.Prepared t) = AtPart from (λ p. IsPreparedIn (history w p) t)
IsSay o w from (reply.Committed t) = AtPart from (λ p. IsCommittedAt w t p)
IsSay o w from (reply.Discarded t) = IsAgainst o w t
IsSay o w from (reply.Version i t v) = IsValue o w i t v
IsSay o w from (reply.Status t v) = IsVote o w from t v
IsSay o w from (reply.NotPrepared t) = Unit {0}
IsSay o w from reply.Clash = Unit {0}
IsSay o w from (reply.Full t) = AtPart from (λ p. IsFullFor o w p t)
IsSay o w from (reply.Gone i) = Unit {0}

abbrev pub IsFine : Opening → World → Node → Node → Body → Type 0
IsFine o w from to (body.Request r) = IsAsk o w to r
IsFine o w from to (body.Reply r) = IsSay o w from r

-- ---- tags

abbrev pub tag_at : World → ℕ → ℕ
tag_at w c = tag_of (client_at w.now.clients c).phase

-- no tag is ahead of its client
abbrev pub IsTagged : World → Node → ℕ → Type 0
IsTagged w (Part p) g = Unit {0}
IsTagged w (ToClient c) g = g ≤ tag_at w c

-- ---- partitions

-- each is at its place, and has the opening's values of its own items
pub record IsPlaced (o : Opening) (p : ℕ) (h : PartitionState) : Type 0 where
  pub number : h.number ≡ p
  pub parts : h.parts ≡ o.parts
  pub limit : h.limit ≡ o.limit
  pub values : (i : ℕ) → place_of o.parts i ≡ p → value_in h.items i ≡ value_in o.items i
  pub checked : h.checked ≡ o.checked
  pub is : IsPartition h

-- What is prepared belongs to a transaction, and in a checked world is on the bases that the transaction's view shows.
-- What is committed is prepared everywhere, and what is discarded never will be committed.
pub record IsSound (o : Opening) (w : World) (p : ℕ) (ms : List Mark) : Type 0 where
  pub legal : is_legal ms ≡ true
  pub prepared : (t : ℕ) (h : IsPreparedIn ms t) → IsPrepareOf o w p t h.writes h.items
  pub based : o.checked ≡ true → (t : ℕ) (h : IsPreparedIn ms t) → IsBasedIn o w p ms t h.writes h.items
  pub committed : (t : ℕ) → list_any (commits t) ms ≡ true → IsSettled o w t
  pub discarded : (t : ℕ) → list_any (discards t) ms ≡ true → IsAgainst o w t

-- ---- reads

abbrev pub GetsWith : List ℕ → Body → Type 0
GetsWith ts (body.Request (Get i ss)) = ss ≡ ts
GetsWith ts (body.Request (Prepare t ws js)) = Unit {0}
GetsWith ts (body.Request (PrepareOn t ws js bs)) = Unit {0}
GetsWith ts (body.Request (Commit t)) = Unit {0}
GetsWith ts (body.Request (Check t)) = Unit {0}
GetsWith ts (body.Reply r) = Unit {0}

abbrev pub SaysWith : (ℕ → ℕ → Type 0) → Reply → Type 0
SaysWith P (reply.Version i t v) = P i t
SaysWith P (reply.Prepared t) = Unit {0}
SaysWith P (reply.Committed t) = Unit {0}
SaysWith P (reply.Discarded t) = Unit {0}
SaysWith P (reply.Status t v) = Unit {0}
SaysWith P (reply.NotPrepared t) = Unit {0}
SaysWith P reply.Clash = Unit {0}
SaysWith P (reply.Full t) = Unit {0}
SaysWith P (reply.Gone i) = Unit {0}

abbrev pub AnswersWith : (ℕ → ℕ → Type 0) → Body → Type 0
AnswersWith P (body.Request r) = Unit {0}
AnswersWith P (body.Reply r) = SaysWith P r

-- the Gets of a client's round ask with these stamps
pub record IsAsked (w : World) (c g : ℕ) (ts : List ℕ) : Type 0 where
  pub at : (m : Message) → In m w.now.messages → m.from ≡ ToClient c → m.tag ≡ g → GetsWith ts m.body

-- and the versions that were sent in answer have this
pub record IsAnswered (w : World) (c g : ℕ) (P : ℕ → ℕ → Type 0) : Type 0 where
  pub at : (m : Message) → In m w.now.messages → m.to ≡ ToClient c → m.tag ≡ g → AnswersWith P m.body

-- the histories as the read began are a beginning of those now, and what they committed was written
pub record HasBegun (w : World) (began : List PartitionState) (p : ℕ) : Type 0 where
  pub more : List Mark
  pub is : history w p ≡ history_in began p ++ more
  pub committed : (t : ℕ) → list_any (commits t) (history_in began p) ≡ true → IsPreparedIn (history_in began p) t

pub record FirstRound (o : Opening) (w : World) (began : List PartitionState) (i s : ℕ) : Type 0 where
  pub fresh : IsFreshAt o began i s
  pub committed : IsZeroOrCommitted w s

pub record SecondRound (o : Opening) (w : World) (began : List PartitionState) (ts : List ℕ) (i s : ℕ) : Type 0 where
  pub fresh : IsFreshAt o began i s
  pub from : (s ≡ 0) ⊎ In s ts
  pub above : (t : ℕ) → In t ts → (t ≡ 0) ⊎ IsNoLater w i s t

-- a stamp that round one collected
pub record IsCollectedStamp (o : Opening) (w : World) (t : ℕ) : Type 0 where
  pub settled : IsSettled o w t
  pub committed : IsCommitted w t

-- one of the stamps is fresh for the item, and its partition has it
pub record HasFresh (o : Opening) (w : World) (began : List PartitionState) (ts : List ℕ) (i : ℕ) : Type 0 where
  pub stamp : ℕ
  pub in_them : In stamp ts
  pub fresh : IsFreshAt o began i stamp
  pub here : (stamp ≡ 0) ⊎ ((v : Value) × (wrote (history w (place_of o.parts i)) stamp i ≡ Some v))

-- each version that is there has the property, and is a value of its item
abbrev pub AreFound : Opening → World → (ℕ → ℕ → Type 0) → List (Option ReadVersion) → Type 0
AreFound o w P founds = (f : ReadVersion) → In (Some f) founds → P f.item f.stamp × IsValue o w f.item f.stamp f.value

pub record IsAsking (o : Opening) (w : World) (c : ℕ) (began : List PartitionState) (r : RoundState) : Type 0 where
  pub asked : IsAsked w c r.asker.tag []
  pub answered : IsAnswered w c r.asker.tag (FirstRound o w began)
  pub founds : AreFound o w (FirstRound o w began) r.answers

pub record IsFetching (o : Opening) (w : World) (c : ℕ) (began : List PartitionState) (r : RoundState)
    (ts : List ℕ) : Type 0 where
  pub asked : IsAsked w c r.asker.tag ts
  pub answered : IsAnswered w c r.asker.tag (λ i s. In i r.items → SecondRound o w began ts i s)
  pub founds : AreFound o w (SecondRound o w began ts) r.answers
  pub stamps : (t : ℕ) → In t ts → (t ≡ 0) ⊎ IsCollectedStamp o w t
  pub fresh : (i : ℕ) → In i r.items → HasFresh o w began ts i

abbrev pub IsRound : Opening → World → ℕ → List PartitionState → RoundState → Option (List ℕ) → Type 0
IsRound o w c began r None = IsAsking o w c began r
IsRound o w c began r (Some ts) = IsFetching o w c began r ts

pub record IsReading (o : Opening) (w : World) (c : ℕ) (began : List PartitionState) (r : RoundState) : Type 0 where
  pub low : 0 < c
  pub high : c < 65536
  pub parts : r.asker.parts ≡ o.parts
  pub client : r.asker.client ≡ c
  pub own : are_in_order r.items r.answers ≡ true
  pub begun : (p : ℕ) → HasBegun w began p
  pub round : IsRound o w c began r r.stamps

-- ---- writes

-- the round is of a transaction, and each of its partitions has answered or is waited for
pub record IsWriting (o : Opening) (w : World) (c : ℕ) (x : WritingState) (P : ℕ → ℕ → Type 0) : Type 0 where
  pub of : Transaction
  pub begun : In of w.past.transactions
  pub stamp : of.stamp ≡ x.stamp
  pub parts : places_in x ≡ places_of o.parts (items_written of.writes)
  pub client : x.client ≡ c
  pub given : (p : ℕ) → In p (places_in x) → In p x.outstanding ⊎ P p x.stamp

abbrev pub HasPrepared : World → ℕ → ℕ → Type 0
HasPrepared w p t = IsPreparedIn (history w p) t

abbrev pub HasCommitted : World → ℕ → ℕ → Type 0
HasCommitted w p t = IsCommittedAt w t p

abbrev pub IsDoing : Opening → World → ℕ → List PartitionState → Phase → Type 0
IsDoing o w c began (phase.Idle tag) = Unit {0}
IsDoing o w c began (phase.Reads pending_ask round) = IsReading o w c began round
IsDoing o w c began (phase.Prepares writing) = IsWriting o w c writing (HasPrepared w)
IsDoing o w c began (phase.Commits writing) = IsWriting o w c writing (HasCommitted w)

pub record IsClient (o : Opening) (w : World) (c : ℕ) (x : Client) (began : List PartitionState) : Type 0 where
  pub number : x.number ≡ c
  pub clock : x.clock.client ≡ c
  pub phase : IsDoing o w c began x.phase

-- ---- snapshots and answers

pub record IsFound (o : Opening) (w : World) (began : List PartitionState) (f : ReadVersion) : Type 0 where
  pub fresh : IsFreshAt o began f.item f.stamp
  pub value : IsValue o w f.item f.stamp f.value
  pub committed : IsZeroOrCommitted w f.stamp

pub record IsRead (o : Opening) (w : World) (began : List PartitionState) (fs : List ReadVersion) : Type 0 where
  pub found : (f : ReadVersion) → In f fs → IsFound o w began f
  pub above : (f g : ReadVersion) → In f fs → In g fs → (g.stamp ≡ 0) ⊎ IsNoLater w f.item f.stamp g.stamp
  pub begun : (p : ℕ) → HasBegun w began p

pub record IsUnsettled (o : Opening) (w : World) (t : ℕ) : Type 0 where
  pub of : Transaction
  pub begun : In of w.past.transactions
  pub stamp : of.stamp ≡ t
  pub part : ℕ
  pub one_of : In part (places_of o.parts (items_written of.writes))
  pub full : IsFullFor o w part t

pub record IsDone (o : Opening) (w : World) (t : ℕ) : Type 0 where
  pub of : Transaction
  pub begun : In of w.past.transactions
  pub stamp : of.stamp ≡ t
  pub at : (p : ℕ) → In p (places_of o.parts (items_written of.writes)) → IsCommittedAt w t p

abbrev pub IsAnswer : Opening → World → Answer → Type 0
IsAnswer o w (answer.Served served) = Unit {0}
IsAnswer o w (answer.Denied reasons) = Unit {0}
IsAnswer o w (answer.Missing object) = Unit {0}
IsAnswer o w (answer.Busy why) = Unit {0}
IsAnswer o w (answer.Committed t) = IsDone o w t
IsAnswer o w (answer.Aborted t) = IsAgainst o w t
IsAnswer o w (answer.Unsettled t why) = IsUnsettled o w t × (why ≡ refusal.Full)
IsAnswer o w (answer.Refused why) = Unit {0}

-- ---- transactions

pub record IsDrawn (first : ℕ) (w : World) (r : Transaction) : Type 0 where
  pub counter : ℕ
  pub client : ℕ
  pub is : r.stamp ≡ counter * 65536 + client
  pub rises : first < counter
  pub low : 0 < client
  pub high : client < 65536
  pub old : counter ≤ (client_at w.now.clients client).clock.counter

-- ---- the invariant

pub record IsKept (o : Opening) (w : World) : Type 0 where
  pub placed : (p : ℕ) (h : PartitionState) → slice_get w.now.partitions p ≡ Some h → IsPlaced o p h
  pub sound : (p : ℕ) → IsSound o w p (history w p)
  pub noted : (p : ℕ) (h : PartitionState) → slice_get w.now.partitions p ≡ Some h → (n : NotedVote) → In n h.votes
      → IsPreparedIn (history w n.part) n.stamp
  pub fine : (m : Message) → In m w.now.messages → IsFine o w m.from m.to m.body
  pub from : (m : Message) → In m w.now.messages → IsTagged w m.from m.tag
  pub to : (m : Message) → In m w.now.messages → IsTagged w m.to m.tag
  pub drawn : (r : Transaction) → In r w.past.transactions → IsDrawn o.first w r
  pub unique : (r s : Transaction) → In r w.past.transactions → In s w.past.transactions → r.stamp ≡ s.stamp → r ≡ s
  pub clients : (c : ℕ) → IsClient o w c (client_at w.now.clients c) (last_begun w.past.begun c).partitions
  pub reads : (f : Read) (rows : List ReadVersion) → In f w.past.reads → f.rows ≡ Some rows
      → IsRead o w f.begun.partitions rows
  pub answers : (t : PastAnswer) → In t w.past.answers → IsAnswer o w t.answer
