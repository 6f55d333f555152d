-- A pass, as its callers see it.
use Rattle.std.specs.Prelude.{ℕ, Option, Some, None}
use Rattle.atomic_table.specs.Seated.{TableId}
use Rattle.album_passes.specs.Cuts.{Cut}
use Rattle.album_passes.specs.Knowledge.{known}
use Rattle.album_passes.specs.Holding.{Held}

-- The table of its desk; its cut; the client's number that it holds, if it drew one; and how many numbers at least were
-- drawn at the desk.
pub record PassState : Type 0 where
  pub table : TableId
  pub cut : Cut
  pub number : Option ℕ
  pub drawn : ℕ

-- the pass with that seat
abbrev pub pass_of : Held → PassState
pass_of held = record {
  table = held.table;
  cut = known held.seat;
  number = held.seat.number;
  drawn = held.seat.drawn;
}

-- with an equal cut, and no number
abbrev pub unnumbered : PassState → PassState
unnumbered pass = record pass { number = None }

-- with the number that was drawn for it
abbrev pub drawn_by : PassState → ℕ → PassState
drawn_by pass client = record pass { number = Some client; drawn = client }
