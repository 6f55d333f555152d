-- What a view shows in addition to the values of items.
use Rattle.std.specs.Prelude.{ℕ, List, []}
use Rattle.std.specs.Option.{option_map_or}
use Rattle.album_lists.specs.declared.lists.Ace.{Ace}
use Rattle.album_items.specs.ItemIds.{list}
use Rattle.album_items.specs.Values.{head_of, entries_of}
use Rattle.album_items.specs.declared.values.Head.{Head}
use Rattle.album_items.specs.declared.values.Value.{Value}
use Rattle.album_reader.specs.Answers.{ReadVersion}
use Rattle.album_reader.specs.Snapshots.{version_read}
use Rattle.album_views.specs.Seen.{seen}

-- the stamp of an item's version; what was not read is at 0, as all that nobody wrote
abbrev pub stamp_seen : List ReadVersion → ℕ → ℕ
stamp_seen rows item = option_map_or (λ version. version.0) (version_read rows item) 0

-- the entries of the list that the head of an item names; a list that is missing has none
abbrev pub entries_named : (ℕ → Value) → ℕ → List Ace
entries_named seen item =
    option_map_or (λ (head : Head). entries_of (seen (list head.list))) (head_of (seen item)) []

-- the item of that list; what has no head is its own
abbrev pub list_named : (ℕ → Value) → ℕ → ℕ
list_named seen item = option_map_or (λ (head : Head). list head.list) (head_of (seen item)) item

-- the stamp of that list
abbrev pub stamp_named : List ReadVersion → ℕ → ℕ
stamp_named rows item = option_map_or (λ (head : Head). stamp_seen rows (list head.list)) (head_of (seen rows item)) 0
