-- When a snapshot is a view.
use Rattle.std.specs.Prelude.{◌≡◌, ◌<◌, ℕ, List, Bool, Option, None, Contains}
use Rattle.std.specs.List.{list_all}
use Rattle.album_stamps.specs.declared.limits.TheConstants.{MAX_READS}
use Rattle.album_eval.specs.declared.facts.Principal.{Principal}
use Rattle.album_reader.specs.Answers.{ReadVersion}
use Rattle.album_reader.specs.Snapshots.{items_read}
use Rattle.album_views.specs.declared.asks.Ask.{Ask}
use Rattle.album_views.specs.Checks.{flaw_of}
use Rattle.album_views.specs.Seen.{seen, is_read}
use Rattle.album_views.specs.ReadSets.{IsNamed, names_of}

-- the snapshot has every item that the ruling looks at
abbrev pub IsClosed : Option Principal → Ask → List ReadVersion → Type 0
IsClosed looker ask rows = (item : ℕ) → IsNamed (seen rows) looker ask item → Contains (items_read rows) item

-- the same, computed (law `names_are_what_is_named`)
unfoldable pub is_closed : Option Principal → Ask → List ReadVersion → Bool
is_closed looker ask rows = list_all (is_read rows) (names_of rows looker ask)

-- who looks, an ask, and the one snapshot on which it is ruled
pub record ViewState : Type 0 where
  pub looker : Option Principal
  pub ask : Ask
  pub rows : List ReadVersion

-- what is true of each view: its ask has no flaw, and its snapshot is closed
pub record IsView (view : ViewState) : Type 0 where
  pub sound : flaw_of view.ask ≡ None
  pub closed : IsClosed view.looker view.ask view.rows

-- an ask that has no view yet, and how many reads were made for it
pub record ViewingState : Type 0 where
  pub ask : Ask
  pub reads : ℕ

-- what is true of each viewing: its ask has no flaw, and a read is left
pub record IsViewing (viewing : ViewingState) : Type 0 where
  pub sound : flaw_of viewing.ask ≡ None
  pub left : viewing.reads < MAX_READS
