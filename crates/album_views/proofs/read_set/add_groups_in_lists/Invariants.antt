use Rattle.std.proofs.Common.{◌≡◌, ◌==◌, take}
use Rattle.std.specs.List.{flat_map}
use Rattle.indexmap.specs.IndexSet.{insert_all}
use Rattle.album_views.specs.ReadSets.{named_by_list}
use Rattle.album_views.specs.Seen.{seen}
use Rattle.album_views.proofs.read_set.add_groups_in_lists.Given as goal

abbrev pub invariant-loop-subject : goal.invariant-loop-subject
invariant-loop-subject l =
    l.names.keys
    ≡ insert_all ◌==◌ l.initial.names.keys (flat_map (named_by_list (seen l.snapshot) l.looker l.ask) (take l.subject-index l.subjects))
