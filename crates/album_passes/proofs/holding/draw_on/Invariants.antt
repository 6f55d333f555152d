use Rattle.std.proofs.Common.{◌≡◌, ◌≤◌}
use Rattle.album_passes.specs.Steps.{with_drawn}
use Rattle.album_passes.proofs.holding.draw_on.Given as goal

abbrev pub invariant-loop : goal.invariant-loop
invariant-loop g l =
    (goal.iterator-loop g).can_next l.iterator' × (goal.iterator-loop g).is_finite l.iterator'
    × (l.seat.table_id ≡ l.initial.seat.table_id)
    × (l.seat.me ≡ (with_drawn l.initial.seat.me.0 l.seat.me.0.drawn, l.initial.seat.me.1))
    × (l.initial.seat.me.0.drawn ≤ l.seat.me.0.drawn)
    × (l.guess ≤ l.seat.me.0.drawn)
