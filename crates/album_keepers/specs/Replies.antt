-- Replies that count: what a cut shows of a partition that has replied to a message, and of that point of its history.
use Rattle.std.specs.Prelude.{◌≡◌, ℕ, ◌≤◌, List, length, Contains}
use Rattle.album_calls.specs.declared.messages.Message.{Message}
use Rattle.album_calls.specs.declared.nodes.Node.TheVariants.{Part}
use Rattle.album_passes.specs.Cuts.{Cut, prefix_at, IsSound, Extends}
use Rattle.album_keepers.specs.Envelopes.{IsAnswered, IsUpToDate}

-- the partition that replies had then made at least the marks that the old cut has of it
abbrev pub IsLate : Cut → Cut → Message → Type 0
IsLate old heard reply = (part : ℕ) → reply.from ≡ Part part
    → length (prefix_at old part) ≤ length (prefix_at heard part)

-- At a point that the new cut has seen, and that has at least the partition's marks of the old cut, no version of the
-- item was committed that is newer than the one that is replied.
pub record IsCurrent (old new : Cut) (reply : Message) : Type 0 where
  pub at : Cut
  pub seen : Extends at new
  pub sound : IsSound at
  pub late : IsLate old at reply
  pub is : IsUpToDate at reply

-- A partition has replied so to one of the messages that were sent, at a point of its history at or past the old cut,
-- and the new cut has seen that point. A version that is replied was new enough for the old cut.
pub record IsReplied (limit : ℕ) (old new : Cut) (sent : List Message) (reply : Message) : Type 0 where
  pub request : Message
  pub own : Contains sent request
  pub heard : Cut
  pub seen : Extends heard new
  pub answered : IsAnswered limit heard request reply
  pub late : IsLate old heard reply
  pub current : IsCurrent old new reply
