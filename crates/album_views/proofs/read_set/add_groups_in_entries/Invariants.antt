use Rattle.std.proofs.Common.{◌≡◌, ◌==◌, take}
use Rattle.std.specs.List.{flat_map}
use Rattle.indexmap.specs.IndexSet.{insert_all}
use Rattle.album_items.specs.Values.{group_of_who}
use Rattle.album_views.proofs.read_set.add_groups_in_entries.Given as goal

abbrev pub invariant-loop-entry : goal.invariant-loop-entry
invariant-loop-entry l =
    l.names.keys
    ≡ insert_all ◌==◌ l.initial.names.keys (flat_map (λ entry. group_of_who entry.who) (take l.entry-index l.entries))
