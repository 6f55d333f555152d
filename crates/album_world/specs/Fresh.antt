-- Views are fresh: none is older than what was committed before its read.
use Rattle.std.specs.Prelude.{◌≡◌, ℕ, true, List, Some, Contains}
use Rattle.std.specs.List.{list_any}
use Rattle.album_items.specs.ItemIds.{place_of}
use Rattle.album_partition.specs.Marks.{commits}
use Rattle.album_partition.specs.Partition.{PartitionState}
use Rattle.album_reader.specs.Answers.{ReadVersion}
use Rattle.album_reader.specs.Atomic.{IsFreshFrom}
use Rattle.album_client.specs.Terms.{Terms}
use Rattle.album_world.specs.State.{history_in}
use Rattle.album_world.specs.Past.{Read, World}
use Rattle.album_world.specs.Atomic.{writes_in_world}

-- the item's partition has committed the stamp
abbrev pub IsCommittedFor : Terms → List PartitionState → ℕ → ℕ → Type 0
IsCommittedFor terms partitions stamp item =
    list_any (commits stamp) (history_in partitions (place_of terms.parts item)) ≡ true

-- each snapshot that a client ever finished is fresh from right before the event that began its read
abbrev pub ViewsAreFresh : Terms → World → Type 0
ViewsAreFresh terms world =
    (read : Read) (rows : List ReadVersion) → Contains world.past.reads read → read.rows ≡ Some rows
    → IsFreshFrom (writes_in_world world) (IsCommittedFor terms read.begun.partitions) rows
