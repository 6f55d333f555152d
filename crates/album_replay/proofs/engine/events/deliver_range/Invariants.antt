use Rattle.std.proofs.Common.{◌≡◌, ◌≤◌}
use Rattle.album_items.specs.declared.openings.Opening.{Opening}
use Rattle.album_world.specs.Past.{Past}
use Rattle.album_replay.specs.Replay.{Delivers, showing}
use Rattle.album_replay.specs.Epochs.{HasLed, Leads}
use Rattle.album_judge.specs.Writes.{Writes}
use Rattle.album_replay.proofs.Happening.{before_number}
use Rattle.album_replay.proofs.engine.events.deliver_range.Given as goal

abbrev pub invariant-loop-number : goal.invariant-loop-number
invariant-loop-number g l = record {
  low : l.first ≤ l.number;
  high : l.number ≤ l.last;
  terms : l.world.terms ≡ l.initial.world.terms;
  led : (o : Opening) → HasLed o l.initial.world → HasLed o l.world;
  written :
      (past : Past)
      → Writes (Leads (λ before. Delivers l.initial.world.terms (showing l.trace l.stamps) before (before_number l.first l.number)) l.initial.world l.world past)
      (g.W.Write.contents l.initial.writer) (g.W.Write.contents l.writer);
}
