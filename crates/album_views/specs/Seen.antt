-- What a snapshot shows of an item.
use Rattle.std.specs.Prelude.{ℕ, List, Bool, is_some}
use Rattle.std.specs.Option.{option_map_or}
use Rattle.album_items.specs.declared.values.Value.{Value}
use Rattle.album_items.specs.declared.values.Value.TheVariants.{Missing}
use Rattle.album_reader.specs.Answers.{ReadVersion}
use Rattle.album_reader.specs.Snapshots.{version_read}

-- the item was read
abbrev pub is_read : List ReadVersion → ℕ → Bool
is_read rows item = is_some (version_read rows item)

-- the value of an item; one that was not read is missing
unfoldable pub seen : List ReadVersion → ℕ → Value
seen rows item = option_map_or (λ version. version.1) (version_read rows item) Missing
