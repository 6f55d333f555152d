-- What an answer unfolds to compute what a world does on literals. For `worked_replays`.
use Rattle.std.specs.Prelude.{⊤}
use Rattle.album_lists.specs.Entries.{is_of_use, is_never_inherited}
use Rattle.album_eval.specs.Matching.{is_match}
use Rattle.album_eval.specs.Policies.{is_given}
use Rattle.album_eval.specs.Verdict.{is_asked, mentions, first_mention, verdict}
use Rattle.album_eval.specs.Audit.{is_noted, audited}
use Rattle.album_listing.specs.GroupsFound.{groups_found}
use Rattle.album_views.specs.Checks.{flaw_of}
use Rattle.album_views.specs.ReadSets.{first_names, names_of}
use Rattle.album_views.specs.Seen.{seen}
use Rattle.album_views.specs.Views.{is_closed}
use Rattle.album_wire.specs.AskShape.{read_shape_of, add_picture_shape_of}

-- what an answer unfolds to compute what a world does
unfoldable pub rulings_on_literals : ⊤
unfolding is_match is_given is_asked mentions first_mention verdict is_noted audited groups_found
rulings_on_literals = tt

unfoldable pub asked_on_literals : ⊤
unfolding read_shape_of add_picture_shape_of
asked_on_literals = tt

unfoldable pub worlds_on_literals : ⊤
unfolding rulings_on_literals is_of_use is_never_inherited flaw_of first_names names_of seen is_closed asked_on_literals
worlds_on_literals = tt
