-- The step after a read that was made for a view.
use Rattle.std.specs.Prelude.{◌≢◌, ◌≤◌, ◌+◌, ℕ, List, [], Option, IsTrue, nat_le, nat_lt, length, if◌then◌else◌}
use Rattle.album_stamps.specs.Distinct.{are_distinct}
use Rattle.album_stamps.specs.declared.limits.TheConstants.{MAX_READ_ITEMS, MAX_READS}
use Rattle.album_eval.specs.declared.facts.Principal.{Principal}
use Rattle.album_reader.specs.Answers.{ReadVersion}
use Rattle.album_views.specs.declared.viewing.ViewStep.{ViewStep}
use Rattle.album_views.specs.declared.viewing.ViewStep.TheVariants.{Again, Closed, Busy}
use Rattle.album_views.specs.declared.viewing.Why.TheVariants.{Rounds, Wide}
use Rattle.album_views.specs.ReadSets.{names_of}
use Rattle.album_views.specs.Views.{ViewingState, is_closed}

-- one read more, of these items, unless the last one was made
abbrev pub again : ViewingState → List ℕ → ViewStep
again viewing items =
    if nat_le MAX_READS (viewing.reads + 1) then Busy Rounds
    else Again (record viewing { reads = viewing.reads + 1 }) items

-- the step after a snapshot that is not closed
abbrev pub unclosed : ViewingState → List ℕ → ViewStep
unclosed viewing names = if nat_lt MAX_READ_ITEMS (length names) then Busy Wide else again viewing names

-- the step after a snapshot, for whoever looks
abbrev pub stepped : Option Principal → ViewingState → List ReadVersion → ViewStep
stepped looker viewing rows =
    if is_closed looker viewing.ask rows then Closed (record { looker = looker; ask = viewing.ask; rows = rows })
    else unclosed viewing (names_of rows looker viewing.ask)

-- items that can be read: there are some, not too many, and none occurs twice
pub record AreReadable (items : List ℕ) : Type 0 where
  pub some : items ≢ []
  pub few : length items ≤ MAX_READ_ITEMS
  pub single : IsTrue (are_distinct items)

-- what a step asks for can be read
abbrev pub AsksReadable : ViewStep → Type 0
AsksReadable (Again viewing items) = AreReadable items
AsksReadable (Closed view) = Unit {0}
AsksReadable (Busy why) = Unit {0}
