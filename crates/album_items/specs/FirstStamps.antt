-- The stamps at which first values were written, in the epochs before. A first value has version 0 inside; what is
-- shown of it is the stamp at which it was written.
use Rattle.std.specs.Prelude.{ℕ, List, Bool, ◌==◌, nat_le, if◌then◌else◌}
use Rattle.std.specs.BTreeMap.{insert_entry, is_at}
use Rattle.std.specs.List.{list_all}
use Rattle.std.specs.Map.{lookup}
use Rattle.std.specs.Option.{unwrap_or}
use Rattle.std.specs.Ordering.{nat_cmp}

-- items, rising, each with its stamp, which isn't 0
abbrev pub Stamps : Type 0
Stamps = List (ℕ × ℕ)

-- the stamp at which the item's first value was written, or 0
abbrev pub first_stamp : Stamps → ℕ → ℕ
first_stamp stamps item = unwrap_or (lookup (is_at (nat_cmp item)) stamps) 0

-- what is shown as the stamp of the item's version at this stamp
abbrev pub shown : Stamps → ℕ → ℕ → ℕ
shown stamps item stamp = if stamp == 0 then first_stamp stamps item else stamp

-- with that of an item, where it isn't 0
abbrev pub noted : Stamps → ℕ → ℕ → Stamps
noted stamps item stamp = if stamp == 0 then stamps else insert_entry nat_cmp stamps item stamp

-- none is above this number
abbrev pub are_early : ℕ → Stamps → Bool
are_early greatest stamps = list_all (λ entry. nat_le entry.1 greatest) stamps
