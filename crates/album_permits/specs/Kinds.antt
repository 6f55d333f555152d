-- Snapshots whose values are of their items' kinds.
use Rattle.std.specs.Prelude.{List, Bool}
use Rattle.std.specs.List.{list_all}
use Rattle.album_items.specs.ItemIds.{kind_of}
use Rattle.album_items.specs.Values.{is_of}
use Rattle.album_reader.specs.Answers.{ReadVersion}

-- each value that was read is of its item's kind, or is missing
abbrev pub shows_right_kinds : List ReadVersion → Bool
shows_right_kinds rows = list_all (λ answer. is_of answer.value (kind_of answer.item)) rows
