-- Sightings: what a partition has replied to a Get without stamps, and the partition as it was then.
use Rattle.std.specs.Prelude.{◌≡◌, ℕ, ◌<◌, ◌≤◌, true, List, length, All, Contains, Option, IfSome}
use Rattle.album_calls.specs.declared.messages.Body.TheVariants as body
use Rattle.album_calls.specs.declared.messages.Message.{Message}
use Rattle.album_calls.specs.declared.nodes.Node.TheVariants.{Part}
use Rattle.album_calls.specs.declared.replies.Reply.TheVariants as reply
use Rattle.album_calls.specs.declared.requests.Request.TheVariants.{Get}
use Rattle.album_items.specs.declared.values.Value.{Value}
use Rattle.album_passes.specs.Cuts.{Cut, prefix_at, IsSound, Extends}
use Rattle.album_keepers.specs.Envelopes.{IsAnswered, IsUpToDate, IsSettledBelow}
use Rattle.album_channels.specs.Reads.{asks_latest}
use Rattle.album_channels.specs.declared.sightings.Sighting.{Sighting}

-- a partition replies the item's version of that stamp
pub record IsVersion (message : Message) (part item stamp : ℕ) : Type 0 where
  pub from : message.from ≡ Part part
  pub value : Value
  pub is : message.body ≡ body.Reply (reply.Version item stamp value)

-- A partition has replied so to a Get without stamps, and the cut has seen that point of its history. The version was
-- the item's latest one, the partition had so many marks, and none of the stamps below that number was pending there.
pub record IsSighted (limit : ℕ) (cut : Cut) (sighting : Sighting) : Type 0 where
  pub request : Message
  pub heard : Cut
  pub seen : Extends heard cut
  pub sound : IsSound heard
  pub asks : asks_latest request.body ≡ true
  pub answered : IsAnswered limit heard request sighting.reply
  pub up_to_date : IsUpToDate heard sighting.reply
  pub so_many : (part : ℕ) → sighting.reply.from ≡ Part part → sighting.marks ≡ length (prefix_at heard part)
  pub settled : IsSettledBelow sighting.settled_below heard sighting.reply

-- the same of what may be there
abbrev pub IfSighted : ℕ → Cut → Option Sighting → Type 0
IfSighted limit cut sighting = IfSome sighting (IsSighted limit cut)

-- A version that is replied is no older than the sighted one of the same item. The sighting has at least the marks of
-- its partition that the old cut has.
pub record IsShownBy (sighting : Sighting) (old : Cut) (message : Message) : Type 0 where
  pub part : ℕ
  pub item : ℕ
  pub seen : ℕ
  pub stamp : ℕ
  pub sighted : IsVersion sighting.reply part item seen
  pub replied : IsVersion message part item stamp
  pub late : length (prefix_at old part) ≤ sighting.marks
  pub no_older : seen ≤ stamp

-- A Get of the same item, from the same partition, with stamps among which is the sighted one. None of them was pending
-- at the partition, and the sighting has at least the marks of it that the old cut has. So the partition, as it was
-- then, would reply the same.
pub record IsRepeatedBy (sighting : Sighting) (old : Cut) (message : Message) : Type 0 where
  pub part : ℕ
  pub item : ℕ
  pub stamp : ℕ
  pub stamps : List ℕ
  pub sighted : IsVersion sighting.reply part item stamp
  pub asked : message.body ≡ body.Request (Get item stamps)
  pub to : message.to ≡ Part part
  pub among : Contains stamps stamp
  pub late : length (prefix_at old part) ≤ sighting.marks
  pub below : All (λ t. t < sighting.settled_below) stamps

-- what the partition would reply to the message
abbrev pub repeated : Sighting → Message → Message
repeated sighting message =
    record { from = message.to; to = message.from; tag = message.tag; body = sighting.reply.body }
