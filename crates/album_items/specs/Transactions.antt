-- What one transaction may write.
use Rattle.std.specs.Prelude.{ℕ, Bool, ◌==◌, ◌&&◌, not, nat_le, List, map, length}
use Rattle.std.specs.List.{list_all}
use Rattle.album_stamps.specs.declared.limits.TheConstants.{MAX_TRANSACTION_ITEMS}
use Rattle.album_stamps.specs.Distinct.{are_distinct}
use Rattle.album_items.specs.ItemIds.{kind_of}
use Rattle.album_items.specs.Openings.{Row}
use Rattle.album_items.specs.Values.{is_of}

-- the items that are written, in their order
abbrev pub items_written : List Row → List ℕ
items_written writes = map (λ write. write.0) writes

-- some items, none twice, and not too many
abbrev pub are_items : List ℕ → Bool
are_items items =
    not (length items == 0) && nat_le (length items) MAX_TRANSACTION_ITEMS && are_distinct items

-- the value is of its item's kind, or is missing
abbrev pub has_right_kind : Row → Bool
has_right_kind row = is_of row.1 (kind_of row.0)

-- one transaction may write exactly these values of these items
abbrev pub is_transaction : List Row → Bool
is_transaction writes = are_items (items_written writes) && list_all has_right_kind writes
