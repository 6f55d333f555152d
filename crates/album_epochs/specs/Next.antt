-- The opening with which the next epoch begins.
use Rattle.std.specs.Prelude.{◌≡◌, ℕ, ◌+◌, max, List}
use Rattle.album_items.specs.declared.openings.Opening.{Opening}
use Rattle.album_partition.specs.declared.marks.Mark.{Mark}
use Rattle.album_epochs.specs.Folding.{AreFolded, AreFoldedStamps}
use Rattle.album_epochs.specs.declared.next_opening.TheConstants.{MARGIN}

-- The counts, the policy and the root stay. The clocks begin so far above the counter, and above those of the epochs
-- before; and the rows and their stamps are what first values and histories are folded into.
pub record IsOpeningAfter (counter : ℕ) (opening : Opening) (histories : List (List Mark)) (next : Opening)
    : Type 0 where
  pub parts : next.parts ≡ opening.parts
  pub limit : next.limit ≡ opening.limit
  pub policy : next.policy ≡ opening.policy
  pub checked : next.checked ≡ opening.checked
  pub root : next.root ≡ opening.root
  pub first : next.first ≡ max counter opening.first + MARGIN
  pub rows : AreFolded opening.items histories next.items
  pub stamps : AreFoldedStamps opening.stamps opening.items histories next.stamps
