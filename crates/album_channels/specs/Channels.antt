-- What a session's channel to the partitions keeps, what it is for it to have seen more, and why no reply comes.
use Rattle.std.specs.Prelude.{◌≡◌, ℕ, ◌≤◌, ◌⊎◌, Bool, true, Some}
use Rattle.atomic_table.specs.Seated.{TableId}
use Rattle.album_stamps.specs.declared.limits.TheConstants.{MAX_PARTS}
use Rattle.album_stamps.specs.declared.refusals.Refusal.{Refusal}
use Rattle.album_stamps.specs.declared.refusals.Refusal.TheVariants.{OutOfMemory, Closed}
use Rattle.album_passes.specs.Changes.{KeepsOwn}
use Rattle.album_passes.specs.Cuts.{Cut, Extends}
use Rattle.album_passes.specs.Pass.{PassState}
use Rattle.album_channels.specs.declared.asked.NoReply.{NoReply}
use Rattle.album_channels.specs.declared.asked.NoReply.TheVariants.{Refused, Overtaken}

-- the client, and what was seen
pub record ChannelState : Type 0 where
  pub client : ℕ
  pub cut : Cut

-- the pass is of this table and has the client's number, there are so many partitions, and they are checked or not
pub record IsChannel (table : TableId) (client parts : ℕ) (checked : Bool) (pass : PassState) : Type 0 where
  pub of : pass.table ≡ table
  pub number : pass.number ≡ Some client
  pub parts_are : pass.cut.parts ≡ parts
  pub checked_is : pass.cut.checked ≡ checked
  pub some : 1 ≤ parts
  pub few : parts ≤ MAX_PARTS

-- the same client has seen more, and its announced stamps are exactly those of before
pub record IsLater (old new : ChannelState) : Type 0 where
  pub client : new.client ≡ old.client
  pub grown : Extends old.cut new.cut
  pub own : KeepsOwn (Some old.client) old.cut new.cut

-- no reply can come: memory ran out, or the service is closed
abbrev pub IsClosedOrOutOfMemory : Refusal → Type 0
IsClosedOrOutOfMemory why = (why ≡ OutOfMemory) ⊎ (why ≡ Closed)

-- why there is no reply to take: none can come; or, in a read, it comes from a partition that has committed a newer
-- version
abbrev pub IsNoReply : Bool → NoReply → Type 0
IsNoReply reads (Refused why) = IsClosedOrOutOfMemory why
IsNoReply reads Overtaken = reads ≡ true
