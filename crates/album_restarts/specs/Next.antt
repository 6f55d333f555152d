-- What a world leaves to the next epoch: the opening with which the next one begins.
use Rattle.std.specs.Prelude.{◌≡◌, max}
use Rattle.album_items.specs.declared.openings.Opening.{Opening}
use Rattle.album_epochs.specs.Folding.{AreFolded, AreFoldedStamps}
use Rattle.album_world.specs.State.{Now, highest_counter}
use Rattle.album_restarts.specs.Worlds.{histories_of}

-- What a world leaves to the next epoch: its counts, its policy and its root stay, its clocks begin above every
-- clock of this one, and its rows and their stamps are its histories, folded. (These are what is carried: law
-- `what_a_world_leaves_is_carried`.)
pub record IsNextOpening (opening : Opening) (now : Now) (next : Opening) : Type 0 where
  pub parts : next.parts ≡ opening.parts
  pub limit : next.limit ≡ opening.limit
  pub policy : next.policy ≡ opening.policy
  pub checked : next.checked ≡ opening.checked
  pub root : next.root ≡ opening.root
  pub first : next.first ≡ max opening.first (highest_counter now.clients)
  pub rows : AreFolded opening.items (histories_of now.partitions) next.items
  pub stamps : AreFoldedStamps opening.stamps opening.items (histories_of now.partitions) next.stamps
