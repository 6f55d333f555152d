use Rattle.album_listing.proofs.Titling.{shown-listed, listed-shown}
use Rattle.album_listing.proofs.titles.titles_are_shown_where_granted.Goals as goal

pub returns : goal.returns
returns c = record { shown = shown-listed; all = listed-shown }
