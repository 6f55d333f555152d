use Rattle.std.proofs.Common.{◌≡◌, map}
use Rattle.std.specs.List.{range_with_len}
use Rattle.album_partition.specs.Partition.{first_partition}
use Rattle.album_partition.proofs.partition.Partition.all_of.Given as goal

-- the partitions so far
abbrev pub invariant-loop-number : goal.invariant-loop-number
invariant-loop-number l =
    l.partitions.items
    ≡ map (first_partition l.opening.checked l.opening.parts l.opening.limit l.opening.items) (range_with_len 0 l.number)
