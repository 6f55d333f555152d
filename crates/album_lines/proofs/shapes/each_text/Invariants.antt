use Rattle.std.proofs.Common.{◌≡◌, drop, map}
use Rattle.album_lines.specs.Fields.{each, text_of}
use Rattle.album_lines.specs.Trees.{items_data}
use Rattle.album_lines.proofs.Lists.{with_front}
use Rattle.album_lines.proofs.shapes.each_text.Given as goal

abbrev pub invariant-loop-value : goal.invariant-loop-value
invariant-loop-value l =
    with_front (map (λ t. t.now) l.texts.items) (each text_of (items_data (drop l.value-index l.values))) ≡ each text_of (items_data l.values)
