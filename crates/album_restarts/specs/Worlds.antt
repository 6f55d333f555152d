-- A world as a cut: what it leaves to the next epoch.
use Rattle.std.specs.Prelude.{List, [], map}
use Rattle.album_items.specs.Openings.{Row}
use Rattle.album_items.specs.declared.openings.Opening.{Opening}
use Rattle.album_listing.specs.ViewLookups.{stamp_seen}
use Rattle.album_partition.specs.Partition.{PartitionState}
use Rattle.album_partition.specs.declared.marks.Mark.{Mark}
use Rattle.album_client.specs.Steps.{Transaction}
use Rattle.album_passes.specs.Cuts.{Cut, Announced, Announcement, Dependency}
use Rattle.album_world.specs.Past.{World}

-- the histories of partitions
abbrev pub histories_of : List PartitionState → List (List Mark)
histories_of partitions = map (λ partition. partition.marks) partitions

-- what a transaction writes, each on the version that its author's view shows
abbrev pub announced_of : Transaction → Announced
announced_of by = record {
  writes = by.writes;
  bases = map (λ (row : Row). stamp_seen by.permit.view.rows row.0) by.writes;
}

abbrev pub announced_by : Transaction → Announcement
announced_by by = (by.stamp, announced_of by)

-- a world knows no pass, so nothing of what its author had seen
abbrev pub depended_by : Transaction → Dependency
depended_by by = (by.stamp, [])

-- all that has happened at the partitions, and of each write that began what it writes
abbrev pub cut_of_world : Opening → World → Cut
cut_of_world opening world = record {
  opening = opening.items;
  parts = opening.parts;
  checked = opening.checked;
  prefixes = histories_of world.now.partitions;
  announced = map announced_by world.past.transactions;
  depended = map depended_by world.past.transactions;
}
