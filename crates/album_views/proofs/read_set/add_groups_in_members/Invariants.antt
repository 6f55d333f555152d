use Rattle.std.proofs.Common.{◌≡◌, ◌==◌, take}
use Rattle.std.specs.List.{flat_map}
use Rattle.indexmap.specs.IndexSet.{insert_all}
use Rattle.album_items.specs.Values.{group_of_member}
use Rattle.album_views.proofs.read_set.add_groups_in_members.Given as goal

abbrev pub invariant-loop-member : goal.invariant-loop-member
invariant-loop-member l =
    l.names.keys ≡ insert_all ◌==◌ l.initial.names.keys (flat_map group_of_member (take l.member-index l.members))
