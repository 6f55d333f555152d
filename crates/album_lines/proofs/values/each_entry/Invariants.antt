use Rattle.std.proofs.Common.{◌≡◌, drop, map}
use Rattle.album_lines.specs.Shapes.{spelled_entry}
use Rattle.album_lines.specs.Values.{each_of, entry_read}
use Rattle.album_lines.proofs.Lists.{with_front}
use Rattle.album_lines.proofs.values.each_entry.Given as goal

abbrev pub invariant-loop-shape : goal.invariant-loop-shape
invariant-loop-shape l =
    with_front l.entries.items (each_of entry_read (map spelled_entry (drop l.shape-index l.shapes))) ≡ each_of entry_read (map spelled_entry l.shapes)
