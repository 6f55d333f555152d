-- Snapshots that show the same of all that a ruling looks at.
use Rattle.std.specs.Prelude.{◌≡◌, ℕ, List, Option}
use Rattle.album_eval.specs.declared.facts.Principal.{Principal}
use Rattle.album_reader.specs.Answers.{ReadVersion}
use Rattle.album_reader.specs.Snapshots.{version_read}
use Rattle.album_views.specs.ReadSets.{IsNamed}
use Rattle.album_views.specs.Seen.{seen}
use Rattle.album_views.specs.declared.asks.Ask.{Ask}

-- each item that is named by the one has one stamp and one value in both, or is read in neither
pub record AgreeOn (looker : Option Principal) (ask : Ask) (one other : List ReadVersion) : Type 0 where
  pub same : (item : ℕ) → IsNamed (seen one) looker ask item → version_read one item ≡ version_read other item
