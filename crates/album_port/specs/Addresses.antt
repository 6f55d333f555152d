-- How many connections the addresses have open.
use Rattle.std.specs.Prelude.{◌≡◌, ◌≢◌, ℕ}
use Rattle.std.specs.Option.{unwrap_or}
use Rattle.std.specs.Ordering.{nat_cmp}
use Rattle.std.specs.BTreeMap.{BTreeMap, get}

-- how many connections this address has open: none where it isn't there
abbrev pub open_of : BTreeMap ℕ ℕ → ℕ → ℕ
open_of counts address = unwrap_or (get nat_cmp counts address) 0

-- each other address has as many before and after
abbrev pub IsSameBut : ℕ → BTreeMap ℕ ℕ → BTreeMap ℕ ℕ → Type 0
IsSameBut address before after = (other : ℕ) → other ≢ address → open_of after other ≡ open_of before other
